-- `Suffix::read` meets its contract: a test after the other, as the definition has them.
use Rattle.std.proofs.Common.{Ok, sym, ap, ap₂, ◌∙◌, arith}
use Rattle.suffix.proofs.Tested.{no_signature, wrong_length, wrong_crc, all_read}
use Rattle.suffix.proofs.Suffix.read.Goals as goal

pub returns-then-not-starts_with : goal.returns-then-not-starts_with
returns-then-not-starts_with c =
    let cut = c.in-Some.ensures.cases in
    no_signature _ c.in-Some.suffix.now (omega (arith, cut.2)) (ap (λ x. x.now) c.in-Some.suffix-is ∙ cut.1) (sym c.starts_with.ensures ∙ c.if-not-starts_with.true)

pub returns-then-from-ne-LENGTH : goal.returns-then-from-ne-LENGTH
returns-then-from-ne-LENGTH c =
    let cut = c.in-Some.ensures.cases in
    wrong_length _ c.in-Some.suffix.now (omega (arith, cut.2)) (ap (λ x. x.now) c.in-Some.suffix-is ∙ cut.1) (sym c.starts_with.ensures ∙ c.if-not-starts_with.false)
    (λ e. c.if-from-ne-LENGTH.true (c.from.ensures ∙ e))

pub returns-then-crc-of : goal.returns-then-crc-of
returns-then-crc-of c =
    let cut = c.in-Some.ensures.cases in
    wrong_crc _ c.in-Some.suffix.now (omega (arith, cut.2)) (ap (λ x. x.now) c.in-Some.suffix-is ∙ cut.1) (sym c.starts_with.ensures ∙ c.if-not-starts_with.false)
    (sym c.from.ensures ∙ c.if-from-ne-LENGTH.false) (λ e. c.if-crc-of.true (c.word_at-crc.ensures ∙ e ∙ sym c.of.ensures))

pub returns : goal.returns
returns c =
    let cut = c.in-Some.ensures.cases in
    ap₂ (λ i n. Ok (record { identities = i; crc = n })) c.of-2.ensures c.word_at-crc.ensures
    ∙ all_read _ c.in-Some.suffix.now (omega (arith, cut.2)) (ap (λ x. x.now) c.in-Some.suffix-is ∙ cut.1) (sym c.starts_with.ensures ∙ c.if-not-starts_with.false)
    (sym c.from.ensures ∙ c.if-from-ne-LENGTH.false) (sym c.word_at-crc.ensures ∙ c.if-crc-of.false ∙ c.of.ensures)
