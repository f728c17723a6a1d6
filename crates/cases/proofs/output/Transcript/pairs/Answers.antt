-- `pairs` meets its contract: a byte more, and cut off in one.
use Rattle.std.proofs.Common.{refl, ◌∙◌}
use Rattle.cases.specs.Output.{joined, pair_text}
use Rattle.cases.proofs.Writes.{silent, failed, more, all, broken}
use Rattle.cases.proofs.output.Transcript.pairs.Goals as goal

pub loop-b-init : goal.loop-b-init
unfolding joined
loop-b-init g c = (silent _ _, refl)

pub loop-b-preserved : goal.loop-b-preserved
loop-b-preserved g c = (more pair_text _ _ _ _ _ _ c.args.bytes.now c.loop-b.b-index c.loop-b-test.true c.loop-b.invariant.0 c.in_ok-pair.ensures.told, c.in_ok-pair.ensures.lent ∙ c.loop-b.invariant.1)

pub returns-in_err-pair-clause-told : goal.returns-in_err-pair-clause-told
returns-in_err-pair-clause-told g c =
    failed _ _ _ _ _ _ c.from_residual.result c.from_residual.ensures.0
    (broken pair_text _ _ _ _ _ _ c.args.bytes.now c.loop-b.b-index _ c.loop-b-test.true c.loop-b.invariant.0 c.in_err-pair.ensures.told)

pub returns-clause-told : goal.returns-clause-told
returns-clause-told g c = (all pair_text _ _ _ _ c.args.bytes.now c.loop-b.b-index c.loop-b-test.false c.loop-b.invariant.0)
