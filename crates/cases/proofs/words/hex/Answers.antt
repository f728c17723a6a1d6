-- `hex` meets its contract: each way is a law of the definition.
use Rattle.std.proofs.Common.{ap, sym, ◌∙◌, arith}
use borrow.Author.Tests.{ltb-false}
use Rattle.cases.specs.Words.{taken}
use Rattle.cases.proofs.Hex.{nothing, hyphen, other}
use Rattle.cases.proofs.words.hex.Goals as goal

pub returns-in_err-get : goal.returns-in_err-get
returns-in_err-get c =
    let a = c.args in
    ap (λ r. taken r a.bytes.now) c.from_residual.ensures ∙ nothing a.line.now a.at a.bytes.now (ltb-false _ _ (sym c.in_err-get.ensures.lookup.0))

pub returns-then-branch-eq45 : goal.returns-then-branch-eq45
returns-then-branch-eq45 c =
    let a = c.args in
    hyphen a.line.now a.at a.bytes.now (sym (c.in_ok-get.ensures.lookup.4 (omega arith) 0) ∙ c.if-branch-eq45.true)

pub returns : goal.returns
returns c =
    let a = c.args in
    let l = c.in_ok-get.ensures.lookup.4 (omega arith) 0 in
    other a.line.now a.at a.bytes.now _ (λ z. c.if-branch-eq45.false (l ∙ z)) c.pairs.ensures
