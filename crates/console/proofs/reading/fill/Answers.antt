use Rattle.std.proofs.Common.{◌≡◌, ℕ, ◌+◌, ◌-◌, ◌≤◌, List, ◌++◌, rules, length, take, sym, ap, ◌∙◌, subst, le_refl, drop_at, length-take-le}
use Rattle.std.proofs.lemmas.Slice.{take-put_mid_below}
use Rattle.std.specs.Io.KnownBytes.{Consumes}
use Rattle.std.proofs.KnownBytes.{Consumes-trans}
use borrow.Rule.Slice.PartMut.{put_mid, post_of}
use lib.Seq.{take-add, take-append-le}
use Rattle.console.proofs.reading.fill.Goals as goal

-- what came before, and after it the piece that was put behind it
pieces : (at room more : ℕ) (space piece : List ℕ) → at ≤ length space → more ≤ length piece
    → take at space ++ take more piece ≡ take (at + more) (put_mid at room space piece)
pieces at room more space piece within fits =
    let after = post_of at room space in
    let behind = drop_at (take at space) (piece ++ after) at (length-take-le at space within) in
    let put = ap (take more) behind ∙ take-append-le more piece after fits in
    let before = take-put_mid_below at room space piece at (le_refl at) within in
    ap (λ l. l ++ take more piece) (sym before) ∙ ap (λ l. take at (put_mid at room space piece) ++ l) (sym put) ∙ sym (take-add at more (put_mid at room space piece))

pub loop-n-preserved : goal.loop-n-preserved
loop-n-preserved g c =
    let joined = pieces c.loop-n.n (length c.loop-n.space - c.loop-n.n) c.in-Ok.more c.loop-n.space c.read.new.buf c.loop-n.invariant.0 c.in-Ok.ensures.bound.0 in
    (search rules, subst (Consumes _ _) joined (Consumes-trans _ _ _ _ _ c.loop-n.invariant.1 c.in-Ok.ensures.bytes.0))
