-- `digits` meets its contract: what was passed reads as the value so far.
use Rattle.std.proofs.Common.{◌≡◌, ℕ, ◌+◌, ◌*◌, ◌%◌, ◌<◌, ◌≤◌, List, length, get_or, sym, ap, ◌∙◌, arith, rules, subst, length-drop, get_or-drop}
use Rattle.std.proofs.lemmas.Grind.{common_steps}
use Rattle.ground.proofs.Lists.{onwards}
use Rattle.memory_layout.specs.Usual.{ReadAt}
use Rattle.memory_layout.proofs.OnePass.{grows, nothing_read}
use Rattle.memory_layout.proofs.usual.digits.Goals as goal

pub loop-byte-init : goal.loop-byte-init
loop-byte-init c = (omega arith, omega arith, nothing_read c.args.text.now c.args.from c.requires)

pub loop-byte-preserved : goal.loop-byte-preserved
loop-byte-preserved c =
    let s = c.args.text.now in
    let l = c.loop-byte in
    let d = (c.from-digit.result + 18446744073709551568) % 18446744073709551616 in
    let o = onwards c.args.from s in
    let h : l.end < length s = omega (arith, c.loop-byte-test.true, ap length o, length-drop c.args.from s, l.invariant.1) in
    let k : get_or s l.end 0 < 256 = search rules in
    let b = c.from-digit.ensures ∙ ap (λ (t : List ℕ). get_or t l.byte-index 0) o ∙ get_or-drop c.args.from s l.byte-index 0 ∙ ap (λ (i : ℕ). get_or s i 0) (sym l.invariant.1) in
    let w : c.in_ok-value.value ≡ l.value * 10 + d = grind (arith, common_steps) in
    let v : l.value * 10 + d ≤ 4294967295 = grind (arith, common_steps) in
    let P : ℕ → Type 0 = λ x. ReadAt s c.args.from (l.end + 1) x in
    (omega arith, omega arith, subst P (sym w) (grows s c.args.from l.end l.value d h k (ap (λ (x : ℕ). (x + 18446744073709551568) % 18446744073709551616) b) c.if-digit-gt9.false v l.invariant.2))
