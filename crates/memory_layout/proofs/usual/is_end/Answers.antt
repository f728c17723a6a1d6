-- `is_end` meets its contract: after all tests the piece ends.
use Rattle.std.proofs.Common.{◌+◌, ◌≤◌, length, arith, length-drop, get_or-drop}
use Rattle.std.proofs.lemmas.Bool.Decides.{nat_tests}
use Rattle.ground.proofs.Lists.{onwards}
use Rattle.memory_layout.proofs.Scan.{stop}
use Rattle.memory_layout.proofs.usual.is_end.Goals as goal

pub returns-in-len2 : goal.returns-in-len2
returns-in-len2 c =
    λ e.
    let s = c.args.text.now in
    let end = c.args.end in
    let o = onwards end s in
    let n = length-drop end s in
    let a = get_or-drop end s 0 0 in
    let b = get_or-drop end s 1 0 in
    let d = get_or-drop end s 2 0 in
    let l : end + 2 ≤ length s = grind (arith, nat_tests, o, n, length-drop) in
    (l, λ k. grind (arith, nat_tests, o, a), λ k. grind (arith, nat_tests, o, b), stop 44 s (end + 2) (λ h. grind (arith, nat_tests, o, d, n)))
