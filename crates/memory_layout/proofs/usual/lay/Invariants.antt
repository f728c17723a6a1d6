use Rattle.std.proofs.Common.{◌≡◌, ◌++◌, length, take, drop}
use Rattle.memory_layout.specs.Usual.{laid}
use Rattle.memory_layout.proofs.usual.lay.Given as goal

abbrev pub invariant-loop-run : goal.invariant-loop-run
invariant-loop-run l = (l.at ≡ length (laid (take l.run-index l.runs))) × (l.store ≡ laid (take l.run-index l.runs) ++ drop l.at l.initial.store)
