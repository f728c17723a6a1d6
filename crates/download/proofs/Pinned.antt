-- Each public call is pinned down: two outcomes that its contract allows, at the same arguments, are equal. Assumes nothing.
use Prim.Native.Nat.{ℕ}
use mathlib.Core.Path.{sym, ◌∙◌}
use Rattle.std.specs.Prelude.{Result}
use Rattle.ground.specs.Pins.{Pins}
use Rattle.work.specs.declared.Progress.{Progress}
use Rattle.work.specs.declared.Todo.{Todo}
use Rattle.work.specs.declared.Error.{Error}
use Rattle.download.proofs.cover.Kinds as cover_kinds
use Rattle.download.proofs.cover.Reads as cover_reads
use Rattle.download.proofs.next.Kinds as next_kinds
use Rattle.download.proofs.next.Reads as next_reads
use Rattle.download.proofs.took.Kinds as took_kinds
use Rattle.download.proofs.took.Reads as took_reads

pub pinned_cover : Pins cover_kinds.ps cover_kinds.r {R = ℕ} cover_reads.Post (λ κs r s. r)
pinned_cover κs a x y s t p q = p ∙ sym q

pub pinned_next : Pins next_kinds.ps next_kinds.r {R = Result Todo Error} next_reads.Post (λ κs r s. r)
pinned_next κs a x y s t p q = p ∙ sym q

pub pinned_took : Pins took_kinds.ps took_kinds.r {R = Progress} took_reads.Post (λ κs r s. r)
pinned_took κs a x y s t p q = p ∙ sym q
