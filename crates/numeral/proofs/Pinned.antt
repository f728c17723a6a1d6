-- Each public call is pinned down: two outcomes that its contract allows, at the same arguments, are equal. Assumes nothing.
use Rattle.std.proofs.Common.{ℕ, Option, sym, ◌∙◌}
use Rattle.ground.specs.Pins.{Pins}
use Rattle.numeral.proofs.decimal.Kinds as decimal_kinds
use Rattle.numeral.proofs.decimal.Reads as decimal_reads
use Rattle.numeral.proofs.hex.Kinds as hex_kinds
use Rattle.numeral.proofs.hex.Reads as hex_reads

pub pinned_decimal : Pins decimal_kinds.ps decimal_kinds.r {R = Option ℕ} decimal_reads.Post (λ κs r s. r)
pinned_decimal κs a x y s t p q = p ∙ sym q

pub pinned_hex : Pins hex_kinds.ps hex_kinds.r {R = Option ℕ} hex_reads.Post (λ κs r s. r)
pinned_hex κs a x y s t p q = p ∙ sym q
