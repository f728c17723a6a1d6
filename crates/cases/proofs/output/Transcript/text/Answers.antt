-- `text` meets its contract: a byte of it more, and cut off in one.
use Rattle.std.proofs.Common.{[], ◌∷◌, refl, ◌∙◌}
use Rattle.cases.specs.Output.{joined}
use Rattle.cases.proofs.Writes.{silent, same, failed, more, all, broken, each}
use Rattle.cases.proofs.output.Transcript.text.Goals as goal

pub loop-b-init : goal.loop-b-init
unfolding joined
loop-b-init g c = (silent _ _, refl)

pub loop-b-preserved : goal.loop-b-preserved
loop-b-preserved g c = (more (λ b. b ∷ []) _ _ _ _ _ _ c.args.s.now c.loop-b.b-index c.loop-b-test.true c.loop-b.invariant.0 c.in_ok-byte.ensures.told, c.in_ok-byte.ensures.lent ∙ c.loop-b.invariant.1)

pub returns-in_err-byte-clause-told : goal.returns-in_err-byte-clause-told
returns-in_err-byte-clause-told g c =
    failed _ _ _ _ _ _ c.from_residual.result c.from_residual.ensures.0
    (same _ _ _ _ _ _ _ (each c.args.s.now) (broken (λ b. b ∷ []) _ _ _ _ _ _ c.args.s.now c.loop-b.b-index _ c.loop-b-test.true c.loop-b.invariant.0 c.in_err-byte.ensures.told))

pub returns-clause-told : goal.returns-clause-told
returns-clause-told g c = same _ _ _ _ _ _ _ (each c.args.s.now) (all (λ b. b ∷ []) _ _ _ _ c.args.s.now c.loop-b.b-index c.loop-b-test.false c.loop-b.invariant.0)
