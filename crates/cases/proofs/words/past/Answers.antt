-- `past` meets its contract: what is tested is the line from the place on.
use Rattle.std.proofs.Common.{ap, sym, ◌∙◌, lt-ltb, le-ltb}
use Rattle.ground.specs.Bytes.{prefix}
use Rattle.cases.specs.Words.{past_at}
use Rattle.cases.proofs.Parts.{past_end, onward}
use Rattle.cases.proofs.words.past.Goals as goal

pub returns-in_err-get : goal.returns-in_err-get
unfolding past_at
returns-in_err-get c =
    let h = past_end c.args.at _ c.in_err-get.ensures.lookup.0 in
    c.from_residual.ensures ∙ simp (lt-ltb _ _ h)

pub returns-then-not-starts_with : goal.returns-then-not-starts_with
unfolding past_at
returns-then-not-starts_with c =
    let g = c.args in
    let k = c.in_ok-get.ensures.lookup.0 in
    let p = ap (prefix g.text.now) (sym (onward g.line.now c.in_ok-get.field-0.now g.at k.2)) ∙ sym c.if-not-starts_with.ensures in
    simp (le-ltb _ _ k.0, p)

pub returns : goal.returns
unfolding past_at
returns c =
    let g = c.args in
    let k = c.in_ok-get.ensures.lookup.0 in
    let p = ap (prefix g.text.now) (sym (onward g.line.now c.in_ok-get.field-0.now g.at k.2)) ∙ sym c.if-not-starts_with.ensures in
    simp (le-ltb _ _ k.0, p)
