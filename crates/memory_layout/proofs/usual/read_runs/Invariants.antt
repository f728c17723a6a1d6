use Rattle.std.proofs.Common.{◌-◌, length}
use Rattle.memory_layout.proofs.Runs.{ReadTo}
use Rattle.memory_layout.proofs.usual.read_runs.Given as goal

abbrev pub invariant-loop-piece : goal.invariant-loop-piece
invariant-loop-piece l = ReadTo l.text l.room l.runs l.at l.pages l.kept

abbrev pub decreases-loop-piece : goal.decreases-loop-piece
decreases-loop-piece l = length l.text - l.at
