-- `value` meets its contract: a space, and the digits that the library writes.
use Rattle.std.proofs.Common.{[], ◌∷◌, List, ℕ, ap, ◌∙◌}
use Rattle.cases.specs.Output.{value_text, decimal_text}
use Rattle.cases.proofs.Spelled.{spelled}
use Rattle.cases.proofs.Writes.{then, cut, failed, same}
use Rattle.cases.proofs.output.Transcript.value.Goals as goal

pub returns-in_err-byte-clause-told : goal.returns-in_err-byte-clause-told
unfolding value_text
returns-in_err-byte-clause-told g c =
    failed _ _ _ _ _ _ c.from_residual.result c.from_residual.ensures.0 (cut _ _ _ _ (32 ∷ []) (decimal_text 20 c.args.x) _ c.in_err-byte.ensures.told)

pub returns-clause-told : goal.returns-clause-told
unfolding value_text
returns-clause-told g c =
    same _ _ _ _ _ _ c.text.result (ap (λ (t : List ℕ). 32 ∷ t) (c.as_bytes.ensures.value ∙ c.format.ensures.text ∙ spelled c.args.x c.ranges.x.fits))
    (then _ _ _ _ _ _ (32 ∷ []) c.as_bytes.result.now c.text.result c.in_ok-byte.ensures.told c.text.ensures.told)
