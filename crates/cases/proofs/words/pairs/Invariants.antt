-- The bytes so far stand in front, and what is left goes over the rest as the whole does over all.
use Rattle.std.proofs.Common.{◌≡◌, ◌+◌, ◌*◌, length, drop}
use Rattle.cases.proofs.Pairs.{So}
use Rattle.cases.proofs.words.pairs.Given as goal

abbrev pub invariant-loop-left : goal.invariant-loop-left
invariant-loop-left l = So l.line l.at l.initial.bytes l.bytes l.n (l.at + 2 * l.n) × (l.left ≡ drop (l.at + 2 * l.n) l.line)

abbrev pub decreases-loop-left : goal.decreases-loop-left
decreases-loop-left l = length l.left
