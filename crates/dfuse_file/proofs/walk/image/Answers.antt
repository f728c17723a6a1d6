-- `image` meets its contract: after the tests the walk.
use Rattle.std.proofs.Common.{◌≡◌, true, length, sym, inl, inr}
use Rattle.ground.proofs.Lists.{onwards}
use Rattle.dfuse_file.specs.Reading.{fits}
use Rattle.dfuse_file.proofs.ImageWalk.{accepted, fits_either}
use Rattle.dfuse_file.proofs.walk.image.Goals.{else-size-image-via-then-size-image+else-not-counted, else-size-image-via-else-size-image}
use Rattle.dfuse_file.proofs.walk.image.Goals as goal

pub returns : goal.returns
returns c =
    let a = c.args in
    let n = c.word_at-size.ensures in
    let t = simp (onwards 11 a.image.now) at c.in_ok-tally.ensures in
    let z : fits c.word_at-size.result (length a.image.now) ≡ true =
    elim c.else-size-image.branch [
      | else-size-image-via-then-size-image+else-not-counted w ↦ fits_either _ _ (inr w.if-not-counted.false)
      | else-size-image-via-else-size-image w ↦ fits_either _ _ (inl w.if-size-image.false)
    ] in
    let y = rw n at z in
    rw n (accepted a.image.now a.suffix a.wanted c.in_ok-tally.tally c.if-suffix-ne282.false c.if-image-lt11.false (sym c.if-not-starts_with.ensures) c.if-image-ne1.false y t)
