-- `address_in` meets its contract: a text that begins with `0x` has two bytes.
use Rattle.std.proofs.Common.{[], ◌∷◌, sym, arith}
use Rattle.ground.proofs.Prefix.{long}
use Rattle.protocol.proofs.address_in.Goals as goal

pub slice_bounds-hex-count : goal.slice_bounds-hex-count
slice_bounds-hex-count c = omega (arith, long (48 ∷ 120 ∷ []) c.in-Some.text.now (sym c.if-not-starts_with.ensures))

pub slice_bounds-hex-start : goal.slice_bounds-hex-start
slice_bounds-hex-start c = omega (arith, long (48 ∷ 120 ∷ []) c.in-Some.text.now (sym c.if-not-starts_with.ensures))
