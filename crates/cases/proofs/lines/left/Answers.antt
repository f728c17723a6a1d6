-- `left` meets its contract: a part that was cut at both ends.
use Rattle.cases.proofs.Pieces.{left_is}
use Rattle.cases.proofs.lines.left.Goals as goal

pub returns : goal.returns
returns c = let a = c.args in rw (c.min-2.ensures, c.saturating_sub.ensures, c.min.ensures) (left_is a.input.now a.from a.end)
