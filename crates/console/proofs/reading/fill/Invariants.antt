use Rattle.std.proofs.Common.{length, ◌-◌}
use Rattle.console.specs.Came.{Came}
use Rattle.console.proofs.reading.fill.Given as goal

abbrev pub invariant-loop-n : goal.invariant-loop-n
invariant-loop-n g l = Came (g.F.Read.remaining l.initial.file) (g.F.Read.remaining l.file) l.space l.n

abbrev pub decreases-loop-n : goal.decreases-loop-n
decreases-loop-n g l = length l.initial.space - l.n
