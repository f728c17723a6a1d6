-- The digits so far are a value.
use Rattle.std.proofs.Common.{◌+◌}
use Rattle.cases.proofs.Digits.{So}
use Rattle.cases.proofs.words.digits.Given as goal

abbrev pub invariant-loop-n : goal.invariant-loop-n
invariant-loop-n l = So l.line l.at l.limit l.value (l.at + l.n)
