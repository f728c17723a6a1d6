-- `piece_at` meets its contract: a piece that came through all tests is a usual one.
use Rattle.std.proofs.Common.{◌<◌, length, sym, ◌∙◌, arith, length-drop, get_or-drop}
use Rattle.std.proofs.lemmas.Bool.Decides.{nat_tests}
use Rattle.ground.proofs.Lists.{onwards}
use Rattle.memory_layout.specs.Usual.{EndsAt}
use Rattle.memory_layout.proofs.OnePass.{CountedAt, piece_ends, usual_piece, is_run}
use Rattle.memory_layout.proofs.usual.piece_at.Goals as goal

pub returns : goal.returns
returns c =
    let s = c.args.text.now in
    let at = c.args.at in
    let count = c.in_ok-count.count in
    let size = c.in_ok-size.size in
    let a = c.in_ok-count.ensures in
    let b = c.in_ok-size.ensures in
    let o = onwards count.end s in
    let n = length-drop count.end s in
    let g = get_or-drop count.end s 0 0 in
    let l : count.end < length s = grind (arith, nat_tests, o, n) in
    let f : CountedAt s at count.end count.value = (a.0, l, grind (arith, nat_tests, o, g), a.1) in
    let e : EndsAt s size.end = c.is_end.ensures (cc (c.if-not-is_end.false)) in
    let r = is_run c.new.result c.in_ok-run.run' (sym c.in_ok-run.ensures.value) in
    (piece_ends s at count.end size.end count.value size.value f b.1 b.0 e, usual_piece s at count.end size.end count.value size.value f b.1 b.0 e ∙ sym c.new.ensures ∙ r)
