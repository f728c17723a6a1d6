-- `unsigned` meets its contract: the ways of `number_of`.
use Rattle.std.proofs.Common.{ℕ, List, sym, ap, ◌∙◌, arith}
use Rattle.ground.proofs.Lists.{onwards}
use Rattle.numeral.specs.Number.{read_on}
use Rattle.numeral.proofs.Reading.{after_plus}
use Rattle.numeral.proofs.unsigned.Goals as goal

pub returns-in-43-2 : goal.returns-in-43-2
returns-in-43-2 c = λ b. after_plus b c.args.s.now (omega arith) (omega arith) ∙ ap (λ (t : List ℕ). read_on b t 0) (sym (onwards 1 c.args.s.now))
