-- `numbers` meets its contract: the values so far stand in front, and the rest is read as the whole is.
use Rattle.std.proofs.Common.{refl, sym, ap, ◌∙◌}
use Rattle.cases.specs.Words.{stored}
use Rattle.cases.proofs.Numbers.{done, full, refused, onward}
use Rattle.cases.proofs.words.numbers.Goals as goal

pub loop-i-init : goal.loop-i-init
loop-i-init c = (refl, refl)

pub returns-in_err-value : goal.returns-in_err-value
returns-in_err-value c =
    let a = c.args in
    let l = c.loop-i in
    let e = c.in_err-value.ensures in
    ap (λ r. stored r l.values) c.from_residual.ensures
    ∙ refused a.line.now a.at a.limits.now a.values.now l.values l.from l.i l.invariant c.loop-i-test.true (sym e)

pub returns-then-values-i : goal.returns-then-values-i
returns-then-values-i c =
    let a = c.args in
    let l = c.loop-i in
    full a.line.now a.at a.limits.now a.values.now l.values l.from l.i l.invariant c.loop-i-test.true c.if-values-i.true

pub loop-i-preserved : goal.loop-i-preserved
loop-i-preserved c =
    let a = c.args in
    let l = c.loop-i in
    let e = c.in_ok-value.ensures in
    onward a.line.now a.at a.limits.now a.values.now l.values l.from l.i l.invariant c.loop-i-test.true c.if-values-i.false _ _ (sym e)

pub returns : goal.returns
returns c =
    let a = c.args in
    let l = c.loop-i in
    done a.line.now a.at a.limits.now a.values.now l.values l.from l.i l.invariant c.loop-i-test.false
