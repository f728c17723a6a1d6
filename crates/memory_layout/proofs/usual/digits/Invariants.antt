use Rattle.std.proofs.Common.{◌≡◌, ◌+◌, ◌<◌}
use Rattle.memory_layout.specs.Usual.{ReadAt}
use Rattle.memory_layout.proofs.usual.digits.Given as goal

abbrev pub invariant-loop-byte : goal.invariant-loop-byte
invariant-loop-byte l = (l.value < 4294967296) × (l.end ≡ l.from + l.byte-index) × ReadAt l.text l.from l.end l.value
