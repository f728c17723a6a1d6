-- `number` meets its contract: the byte behind the digits is tested as in the definition.
use Rattle.std.proofs.Common.{sym, ◌∙◌, arith, eq-eqb, ne_eqb}
use lib.ListN.{get_or-eq_default}
use borrow.Author.Tests.{ltb-false}
use Rattle.cases.specs.Words.{number_at}
use Rattle.cases.proofs.words.number.Goals as goal

pub returns-in_err-value : goal.returns-in_err-value
unfolding number_at
returns-in_err-value c = let e = c.in_err-value.ensures in c.from_residual.ensures ∙ simp (sym e)

pub returns-in_err-get : goal.returns-in_err-get
unfolding number_at
returns-in_err-get c =
    let e = c.in_ok-value.ensures in
    c.from_residual-in_err-get.ensures ∙ simp (sym e, get_or-eq_default c.args.line.now 0 (ltb-false _ _ (sym c.in_err-get.ensures.lookup.0)))

pub returns-then-branch-ne32 : goal.returns-then-branch-ne32
unfolding number_at
returns-then-branch-ne32 c =
    let e = c.in_ok-value.ensures in
    let l = c.in_ok-get.ensures.lookup.4 (omega arith) 0 in
    simp (sym e, ne_eqb _ 32 (λ z. c.if-branch-ne32.true (l ∙ z)))

pub returns : goal.returns
unfolding number_at
returns c =
    let e = c.in_ok-value.ensures in
    let l = c.in_ok-get.ensures.lookup.4 (omega arith) 0 in
    simp (sym e, eq-eqb _ 32 (sym l ∙ c.if-branch-ne32.false))
