-- `pair` meets its contract: the digit of each half.
use Rattle.cases.specs.Output.{pair_text}
use Rattle.cases.proofs.output.Transcript.pair.Goals as goal

pub returns-clause-told : goal.returns-clause-told
unfolding pair_text
returns-clause-told g c = rw (← c.hex_digit.ensures, ← c.hex_digit-2.ensures) c.text.ensures.told
