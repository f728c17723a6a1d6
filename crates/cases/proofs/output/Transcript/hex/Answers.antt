-- `hex` meets its contract: a hyphen for no bytes, or a space and the pairs.
use Rattle.std.proofs.Common.{[], ◌∷◌, sym}
use borrow.Author.Tests.{eqb-true, eqb-false}
use Rattle.cases.specs.Output.{joined, pair_text}
use Rattle.cases.proofs.Texts.{no_bytes, some_bytes}
use Rattle.cases.proofs.Writes.{then, cut, failed, same}
use Rattle.cases.proofs.output.Transcript.hex.Goals as goal

pub returns-then-is_empty-clause-told : goal.returns-then-is_empty-clause-told
returns-then-is_empty-clause-told g c = same _ _ _ _ _ _ c.text.result (no_bytes c.args.bytes.now (eqb-true _ 0 (sym c.if-is_empty.ensures))) c.text.ensures.told

pub returns-in_err-byte-clause-told : goal.returns-in_err-byte-clause-told
returns-in_err-byte-clause-told g c =
    failed _ _ _ _ _ _ c.from_residual.result c.from_residual.ensures.0
    (same _ _ _ _ _ _ _ (some_bytes c.args.bytes.now (eqb-false _ 0 (sym c.if-is_empty.ensures))) (cut _ _ _ _ (32 ∷ []) (joined pair_text c.args.bytes.now) _ c.in_err-byte.ensures.told))

pub returns-clause-told : goal.returns-clause-told
returns-clause-told g c =
    same _ _ _ _ _ _ c.pairs.result (some_bytes c.args.bytes.now (eqb-false _ 0 (sym c.if-is_empty.ensures)))
    (then _ _ _ _ _ _ (32 ∷ []) (joined pair_text c.args.bytes.now) c.pairs.result c.in_ok-byte.ensures.told c.pairs.ensures.told)
