-- Each public call is pinned down: two outcomes that its contract allows, at the same arguments, are equal. Assumes nothing.
use Rattle.std.proofs.Common.{ℕ, sym, ◌∙◌}
use Rattle.ground.specs.Pins.{Pins}
use Rattle.crc32.proofs.of.Kinds as crc_kinds
use Rattle.crc32.proofs.of.Reads as crc_reads

pub pinned_crc : Pins crc_kinds.ps crc_kinds.r {R = ℕ} crc_reads.Post (λ κs r s. r)
pinned_crc κs a x y s t p q = p ∙ sym q
