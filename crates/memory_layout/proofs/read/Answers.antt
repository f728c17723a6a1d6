-- `read` meets its contract: from a place on the pieces read as the whole text does, with the pages so far.
use Rattle.std.proofs.Common.{◌≡◌, ◌+◌, ◌-◌, ◌<◌, length, get_or, drop, sym, ◌∙◌, arith, length-drop, length-take}
use Rattle.std.proofs.lemmas.Bool.Decides.{nat_tests}
use Rattle.std.proofs.lemmas.Grind.{common_steps}
use Rattle.memory_layout.proofs.Scan.{stop, pass, end_from, end_in}
use Rattle.memory_layout.proofs.Turns.{met, no_star, fault, full, last, onward}
use Rattle.memory_layout.proofs.read.Goals as goal

pub bytes-preserved : goal.bytes-preserved
bytes-preserved c =
    let s = c.args.text.now in
    let l = c.bytes in
    let h : l.star < length s = grind (arith, nat_tests) in
    let b : get_or s l.star 0 ≡ c.in-Some.field-0.now = grind (arith, nat_tests) in
    (omega arith, omega arith, l.invariant.2 ∙ pass 44 s l.star h (λ (k : get_or s l.star 0 ≡ 44). omega arith), l.invariant.3 ∙ pass 42 s l.star h (λ (k : get_or s l.star 0 ≡ 42). omega arith))

pub returns-in-None : goal.returns-in-None
returns-in-None c =
    let s = c.args.text.now in
    let l = c.bytes in
    let o = c.pieces in
    sym (no_star c.args.room s o.at o.pages l.star (l.invariant.2 ∙ stop 44 s l.star (λ h. grind (arith, nat_tests))) (omega (arith, end_from 42 s l.star))) ∙ o.invariant.2

pub read_starred-requires-clause-star_in_bounds : goal.read_starred-requires-clause-star_in_bounds
read_starred-requires-clause-star_in_bounds c =
    let s = c.args.text.now in
    let a = c.pieces.at in
    let l = c.bytes in
    let n = c.piece_end-end.result - a in
    let h : l.star < length s = grind (arith, nat_tests) in
    let b : get_or s l.star 0 ≡ 42 = grind (arith, nat_tests) in
    let e : l.star < c.piece_end-end.result = omega (arith, c.piece_end-end.ensures, pass 44 s l.star h (λ (k : get_or s l.star 0 ≡ 44). omega arith), end_from 44 s (l.star + 1)) in
    omega (arith, length-take n (drop a s), length-drop a s, end_in 44 s l.star l.invariant.1, c.piece_end-end.ensures)

pub returns-in_err-run : goal.returns-in_err-run
returns-in_err-run c =
    let s = c.args.text.now in
    let o = c.pieces in
    let l = c.bytes in
    let h : l.star < length s = grind (arith, nat_tests) in
    let b : get_or s l.star 0 ≡ 42 = grind (arith, nat_tests) in
    let this = met s o.at l.star c.piece_end-end.result _ h l.invariant.2 l.invariant.3 b c.piece_end-end.ensures c.in_err-run.ensures in
    let t = sym (fault c.args.room s o.at o.pages _ this) ∙ o.invariant.2 in
    grind (arith, common_steps, t)

pub returns-then-room-pages : goal.returns-then-room-pages
returns-then-room-pages c =
    let s = c.args.text.now in
    let o = c.pieces in
    let l = c.bytes in
    let h : l.star < length s = grind (arith, nat_tests) in
    let b : get_or s l.star 0 ≡ 42 = grind (arith, nat_tests) in
    let this = met s o.at l.star c.piece_end-end.result _ h l.invariant.2 l.invariant.3 b c.piece_end-end.ensures c.in_ok-run.ensures in
    sym (full c.args.room s o.at o.pages _ this (omega arith)) ∙ o.invariant.2

pub returns-then-end-text : goal.returns-then-end-text
returns-then-end-text c =
    let s = c.args.text.now in
    let o = c.pieces in
    let l = c.bytes in
    let h : l.star < length s = grind (arith, nat_tests) in
    let b : get_or s l.star 0 ≡ 42 = grind (arith, nat_tests) in
    let this = met s o.at l.star c.piece_end-end.result _ h l.invariant.2 l.invariant.3 b c.piece_end-end.ensures c.in_ok-run.ensures in
    sym (last c.args.room s o.at o.pages _ this (omega arith) o.invariant.0 (l.invariant.2 ∙ sym c.piece_end-end.ensures ∙ c.if-end-text.true)) ∙ o.invariant.2

pub pieces-preserved : goal.pieces-preserved
pieces-preserved c =
    let s = c.args.text.now in
    let o = c.pieces in
    let l = c.bytes in
    let h : l.star < length s = grind (arith, nat_tests) in
    let b : get_or s l.star 0 ≡ 42 = grind (arith, nat_tests) in
    let e = c.piece_end-end in
    let this = met s o.at l.star e.result _ h l.invariant.2 l.invariant.3 b e.ensures c.in_ok-run.ensures in
    let q : e.result < length s = omega (arith, e.ensures, end_in 44 s l.star l.invariant.1) in (
      omega arith,
      omega arith,
      sym (onward c.args.room s o.at o.pages _ this (omega arith) e.result (e.ensures ∙ sym l.invariant.2) q) ∙ o.invariant.2,
    )
