use Rattle.std.proofs.Common.{ℕ, length, drop}
use Rattle.memory_layout.specs.Layout.{split}
use Rattle.memory_layout.proofs.Store.{StoredTo}
use Rattle.memory_layout.proofs.store_pages.Given as goal

abbrev pub invariant-loop-piece : goal.invariant-loop-piece
invariant-loop-piece l = (m : ℕ) × StoredTo l.text l.initial.store m (drop (length l.yielded) (split l.text)) l.at l.filled l.store
