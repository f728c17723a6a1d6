-- So many numbers stand in front: the rest is read as the whole is.
use Rattle.cases.proofs.Numbers.{So}
use Rattle.cases.proofs.words.numbers.Given as goal

abbrev pub invariant-loop-i : goal.invariant-loop-i
invariant-loop-i l = So l.line l.at l.limits l.initial.values l.values l.from l.i
