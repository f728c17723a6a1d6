use Rattle.std.proofs.Common.{◌≡◌, ◌-◌, ◌≤◌, length, drop}
use Rattle.memory_layout.specs.Layout.{end_of, split, pieces}
use Rattle.memory_layout.proofs.read.Given as goal

abbrev pub invariant-bytes : goal.invariant-bytes
invariant-bytes l = (l.at ≤ l.star) × (l.star ≤ length l.text) × (end_of 44 l.text l.at ≡ end_of 44 l.text l.star) × (end_of 42 l.text l.at ≡ end_of 42 l.text l.star)

abbrev pub decreases-bytes : goal.decreases-bytes
decreases-bytes l = length l.text - l.star

abbrev pub invariant-pieces : goal.invariant-pieces
invariant-pieces l = (l.at ≤ length l.text) × (l.pages ≤ l.room) × (pieces l.room (split (drop l.at l.text)) l.at l.pages ≡ pieces l.room (split l.text) 0 0)

abbrev pub decreases-pieces : goal.decreases-pieces
decreases-pieces l = length l.text - l.at
