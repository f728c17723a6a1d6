-- `pages` meets its contract: how many there are, a page more, and cut off in one.
use Rattle.std.proofs.Common.{ℕ, take, ap, ◌∙◌, refl}
use Rattle.ground.proofs.Lists.{take_min}
use Rattle.cases.specs.Output.{joined, value_text, pages_text}
use Rattle.cases.proofs.Writes.{silent, same, then, cut, failed, more, all, broken}
use Rattle.cases.proofs.output.Transcript.pages.Goals as goal

pub returns-in_err-value-clause-told : goal.returns-in_err-value-clause-told
unfolding pages_text joined
returns-in_err-value-clause-told g c =
    let a = c.args in
    failed _ _ _ _ _ _ c.from_residual.result c.from_residual.ensures.0 (cut _ _ _ _ (value_text a.n) (joined value_text (take a.n a.store.now)) _ c.in_err-value.ensures.told)

pub loop-page-init : goal.loop-page-init
unfolding joined
loop-page-init g c = (silent _ _, refl)

pub loop-page-preserved : goal.loop-page-preserved
loop-page-preserved g c =
    let items = take c.min.result c.args.store.now in
    (more value_text _ _ _ _ _ _ items c.loop-page.page-index c.loop-page-test.true c.loop-page.invariant.0 (rw c.from.ensures at c.in_ok-value-2.ensures.told), c.in_ok-value-2.ensures.lent ∙ c.loop-page.invariant.1)

pub returns-in_err-value-2-clause-told : goal.returns-in_err-value-2-clause-told
unfolding pages_text joined
returns-in_err-value-2-clause-told g c =
    let a = c.args in
    let items = take c.min.result a.store.now in
    let cut_off = broken value_text _ _ _ _ _ _ items c.loop-page.page-index _ c.loop-page-test.true c.loop-page.invariant.0 (rw c.from.ensures at c.in_err-value-2.ensures.told) in
    failed _ _ _ _ _ _ c.from_residual-in_err-value-2.result c.from_residual-in_err-value-2.ensures.0
    (then _ _ _ _ _ _ (value_text a.n) (joined value_text (take a.n a.store.now)) _ c.in_ok-value.ensures.told
    (same _ _ _ _ _ _ _ (ap (joined value_text) (ap (λ (k : ℕ). take k a.store.now) c.min.ensures ∙ take_min a.n a.store.now)) cut_off))

pub returns-clause-told : goal.returns-clause-told
unfolding pages_text joined
returns-clause-told g c =
    let a = c.args in
    let items = take c.min.result a.store.now in
    let whole = all value_text _ _ _ _ items c.loop-page.page-index c.loop-page-test.false c.loop-page.invariant.0 in
    then _ _ _ _ _ _ (value_text a.n) (joined value_text (take a.n a.store.now)) _ c.in_ok-value.ensures.told
    (same _ _ _ _ _ _ _ (ap (joined value_text) (ap (λ (k : ℕ). take k a.store.now) c.min.ensures ∙ take_min a.n a.store.now)) whole)
