-- `refused` meets its contract: its word, its number and its values.
use Rattle.std.proofs.Common.{◌++◌, codes}
use Rattle.cases.specs.Output.{joined, value_text, counted_of, refused_text}
use Rattle.cases.proofs.Writes.{then, cut, failed}
use Rattle.cases.proofs.output.Transcript.refused.Goals as goal

pub returns-in_err-text-clause-told : goal.returns-in_err-text-clause-told
unfolding refused_text joined
returns-in_err-text-clause-told g c =
    let r = c.args.said in
    failed _ _ _ _ _ _ c.from_residual.result c.from_residual.ensures.0
    (cut _ _ _ _ (codes " refused") (value_text r.number ++ joined value_text (counted_of r)) _ c.in_err-text.ensures.told)

pub returns-in_err-value-clause-told : goal.returns-in_err-value-clause-told
unfolding refused_text joined
returns-in_err-value-clause-told g c =
    let r = c.args.said in
    failed _ _ _ _ _ _ c.from_residual-in_err-value.result c.from_residual-in_err-value.ensures.0
    (then _ _ _ _ _ _ (codes " refused") (value_text r.number ++ joined value_text (counted_of r)) _ c.in_ok-text.ensures.told
    (cut _ _ _ _ (value_text r.number) (joined value_text (counted_of r)) _ c.in_err-value.ensures.told))

pub returns-clause-told : goal.returns-clause-told
unfolding refused_text joined
returns-clause-told g c =
    let r = c.args.said in
    then _ _ _ _ _ _ (codes " refused") (value_text r.number ++ joined value_text (counted_of r)) c.counted.result c.in_ok-text.ensures.told
    (then _ _ _ _ _ _ (value_text r.number) (joined value_text (counted_of r)) c.counted.result c.in_ok-value.ensures.told c.counted.ensures.told)
