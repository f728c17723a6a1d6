-- `walk_targets` meets its contract: a law for each way out of the loop.
use Rattle.std.proofs.Common.{◌≡◌, ℕ, ◌+◌, ◌-◌, Err, length, length-drop, ap, sym, ◌∙◌, arith, rules}
use Rattle.std.proofs.Math.ListN.{length-take}
use Rattle.dfuse_file.proofs.TargetWalk.{no_head, fits_in, faulty, onward, not_filled, done}
use Rattle.dfuse_file.proofs.walk.walk_targets.Goals as goal

pub returns-in_err-size : goal.returns-in_err-size
returns-in_err-size c =
    let l = c.loop-index in
    let a = c.args in
    let r : c.from_residual.result ≡ Err c.in_err-size.field-0.0 = search rules in
    r ∙ no_head l.index l.tally l.rest.at l.rest.bytes.now (a.n - l.index) _ (omega (arith, c.loop-index-test.true)) c.in_err-size.ensures ∙ l.invariant.1

pub up_to-elements-requires : goal.up_to-elements-requires
up_to-elements-requires c =
    let l = c.loop-index in
    let h = fits_in l.index l.tally l.rest.at l.rest.bytes.now c.in_ok-size.field-0 c.in_ok-size.ensures in
    rw c.after.ensures.bytes (omega (arith, h, length-drop 274 l.rest.bytes.now))

pub returns-in_err-tally : goal.returns-in_err-tally
returns-in_err-tally c =
    let l = c.loop-index in
    let a = c.args in
    let p = c.up_to-elements.ensures in
    let q = c.after.ensures in
    let r : c.from_residual-in_err-tally.result ≡ Err c.in_err-tally.field-0.0 = search rules in
    let v = simp (p.at, p.bytes, q.at, q.bytes, c.come_to.ensures, c.target-target.ensures) at c.in_err-tally.ensures.walked in
    r ∙ faulty l.index l.tally l.rest.at l.rest.bytes.now c.in_ok-size.field-0 c.in_ok-size.ensures (a.n - l.index) _ (omega (arith, c.loop-index-test.true)) v ∙ l.invariant.1

pub loop-index-preserved : goal.loop-index-preserved
loop-index-preserved c =
    let l = c.loop-index in
    let a = c.args in
    let s = l.rest.bytes.now in
    let z : ℕ = c.in_ok-size.field-0 in
    let w = c.in_ok-size.ensures in
    let p = c.up_to-elements.ensures in
    let q = c.after.ensures in
    let n = c.after-rest.ensures in
    let v = simp (p.at, p.bytes, q.at, q.bytes, c.come_to.ensures, c.target-target.ensures) at c.in_ok-tally.ensures.walked in
    let j : a.n - (l.index + 1) ≡ a.n - l.index - 1 = omega arith in
    rw (n.at, n.bytes, j) (
      omega (arith, c.in_ok-tally.ensures.bounded, p.at, q.at, ap length p.bytes, length-take z c.after.result.bytes.now),
      sym (onward l.index l.tally l.rest.at s z w (a.n - l.index) _ (omega (arith, c.loop-index-test.true)) v) ∙ l.invariant.1,
    )

pub returns-then-not-is_empty : goal.returns-then-not-is_empty
returns-then-not-is_empty c =
    let l = c.loop-index in
    not_filled l.index l.tally l.rest.at l.rest.bytes.now (c.args.n - l.index) (omega (arith, c.loop-index-test.false)) (sym c.if-not-is_empty.ensures) ∙ l.invariant.1

pub returns : goal.returns
returns c =
    let l = c.loop-index in
    done l.index l.tally l.rest.at l.rest.bytes.now (c.args.n - l.index) (omega (arith, c.loop-index-test.false)) (sym c.if-not-is_empty.ensures) ∙ l.invariant.1
