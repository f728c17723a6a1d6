-- `byte` meets its contract: each way is a law of the relation.
use Rattle.cases.proofs.Writes.{fits, anew, without, untaken}
use Rattle.cases.proofs.output.Transcript.byte.Goals as goal

pub returns-then-self-clause-told : goal.returns-then-self-clause-told
returns-then-self-clause-told g c = fits _ _ _ _ c.if-self.true

pub returns-in_err-flush-clause-told : goal.returns-in_err-flush-clause-told
returns-in_err-flush-clause-told g c =
    untaken _ _ _ _ _ c.from_residual.result c.from_residual.ensures.0 c.if-self.false
    (λ h. absurd (let z = c.in_err-flush.ensures.beyond h in cc))

pub returns-then-self-gt0-clause-told : goal.returns-then-self-gt0-clause-told
returns-then-self-gt0-clause-told g c = anew _ _ _ _ _ c.if-self.false c.if-self-gt0.true c.in_ok-flush.ensures.written

pub returns-else-self-gt0-clause-told : goal.returns-else-self-gt0-clause-told
returns-else-self-gt0-clause-told g c = without _ _ _ _ _ c.if-self.false c.if-self-gt0.false
