-- `walk_elements` meets its contract: a law for each way out of the loop.
use Rattle.std.proofs.Common.{◌≡◌, ℕ, ◌+◌, ◌-◌, Err, length-drop, sym, ◌∙◌, arith, rules}
use Rattle.dfuse_file.proofs.ElementWalk.{no_size, room, onward, not_filled, filled}
use Rattle.dfuse_file.proofs.walk.walk_elements.Goals as goal

pub returns-in_err-size-clause-walked : goal.returns-in_err-size-clause-walked
returns-in_err-size-clause-walked c =
    let l = c.loop in
    let a = c.args in
    let r : c.from_residual.result ≡ Err c.in_err-size.field-0.0 = search rules in
    r ∙ no_size l.rest.at l.rest.bytes.now a.index a.target.setting l.tally (a.target.elements - l.counter) _ (omega (arith, c.loop-test.true)) c.in_err-size.ensures ∙ l.invariant.2

pub loop-preserved : goal.loop-preserved
loop-preserved c =
    let l = c.loop in
    let a = c.args in
    let s = l.rest.bytes.now in
    let n = c.after-rest.ensures in
    let z : ℕ = c.in_ok-size.size in
    let h = room l.rest.at s z c.in_ok-size.ensures in
    let j : a.target.elements - (l.counter + 1) ≡ a.target.elements - l.counter - 1 = omega arith in
    rw (c.meet-tally.ensures, n.at, n.bytes, c.word_at.ensures, j) (
      omega (arith, l.invariant.0),
      omega (arith, l.invariant.1, h, length-drop (8 + z) s),
      sym (onward l.rest.at s a.index a.target.setting l.tally (a.target.elements - l.counter) z (omega (arith, c.loop-test.true)) c.in_ok-size.ensures) ∙ l.invariant.2,
    )

pub returns-then-not-is_empty-clause-walked : goal.returns-then-not-is_empty-clause-walked
returns-then-not-is_empty-clause-walked c =
    let l = c.loop in
    let a = c.args in
    not_filled l.rest.at l.rest.bytes.now a.index a.target.setting l.tally (a.target.elements - l.counter) (omega (arith, c.loop-test.false)) (sym c.if-not-is_empty.ensures) ∙ l.invariant.2

pub returns-clause-walked : goal.returns-clause-walked
returns-clause-walked c =
    let l = c.loop in
    let a = c.args in
    filled l.rest.at l.rest.bytes.now a.index a.target.setting l.tally (a.target.elements - l.counter) (omega (arith, c.loop-test.false)) (sym c.if-not-is_empty.ensures) ∙ l.invariant.2
