-- `values` meets its contract: a number more, and cut off in one.
use Rattle.std.proofs.Common.{refl, ◌∙◌}
use Rattle.cases.specs.Output.{joined, value_text}
use Rattle.cases.proofs.Writes.{silent, failed, more, all, broken}
use Rattle.cases.proofs.output.Transcript.values.Goals as goal

pub loop-x-init : goal.loop-x-init
unfolding joined
loop-x-init g c = (silent _ _, refl)

pub loop-x-preserved : goal.loop-x-preserved
loop-x-preserved g c = (more value_text _ _ _ _ _ _ c.args.xs.now c.loop-x.x-index c.loop-x-test.true c.loop-x.invariant.0 c.in_ok-value.ensures.told, c.in_ok-value.ensures.lent ∙ c.loop-x.invariant.1)

pub returns-in_err-value-clause-told : goal.returns-in_err-value-clause-told
returns-in_err-value-clause-told g c =
    failed _ _ _ _ _ _ c.from_residual.result c.from_residual.ensures.0
    (broken value_text _ _ _ _ _ _ c.args.xs.now c.loop-x.x-index _ c.loop-x-test.true c.loop-x.invariant.0 c.in_err-value.ensures.told)

pub returns-clause-told : goal.returns-clause-told
returns-clause-told g c = (all value_text _ _ _ _ c.args.xs.now c.loop-x.x-index c.loop-x-test.false c.loop-x.invariant.0)
