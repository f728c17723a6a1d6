-- Each public call is pinned down: two outcomes that its contract allows, at the same arguments, are equal. Assumes nothing.
use mathlib.Core.Path.{sym, ◌∙◌}
use Rattle.ground.specs.Pins.{Pins}
use Rattle.std.specs.Prelude.{ℕ, Option}
use Rattle.budget.proofs.enough.Kinds as enough_kinds
use Rattle.budget.proofs.enough.Reads as enough_reads
use Rattle.budget.proofs.enough_for.Kinds as enough_for_kinds
use Rattle.budget.proofs.enough_for.Reads as enough_for_reads

pub pinned_enough : Pins enough_kinds.ps enough_kinds.r {R = Option ℕ} enough_reads.Post (λ κs r s. r)
pinned_enough κs a x y s t p q = p ∙ sym q

pub pinned_enough_for : Pins enough_for_kinds.ps enough_for_kinds.r {R = Option ℕ} enough_for_reads.Post (λ κs r s. r)
pinned_enough_for κs a x y s t p q = p ∙ sym q
