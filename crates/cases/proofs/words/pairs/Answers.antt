-- `pairs` meets its contract: the bytes so far stand in front, and what is left goes over the rest as the whole does over all.
use Rattle.std.proofs.Common.{◌≡◌, ◌+◌, ◌*◌, length, drop, add-zero, ap, sym, ◌∙◌, arith, length-drop}
use Rattle.cases.specs.Words.{taken}
use Rattle.cases.proofs.Pairs.{none, moved, outset, two_in, rest_in, at_end, at_other, done, full, onward}
use Rattle.cases.proofs.Parts as parts
use Rattle.cases.proofs.words.pairs.Goals as goal

pub returns-in_err-left : goal.returns-in_err-left
returns-in_err-left c =
    let a = c.args in
    let h = parts.past_end a.at _ c.in_err-left.ensures.lookup.0 in
    ap (λ r. taken r a.bytes.now) c.from_residual.ensures ∙ none a.line.now a.at a.bytes.now (omega arith)

pub loop-left-init : goal.loop-left-init
loop-left-init c =
    let a = c.args in
    let k = c.in_ok-left.ensures.lookup.0 in
    (outset a.line.now a.at a.bytes.now k.0, parts.onward a.line.now c.in_ok-left.left.now a.at k.2 ∙ ap (λ n. drop n a.line.now) (sym (add-zero a.at)))

pub returns-in_default-pair : goal.returns-in_default-pair
returns-in_default-pair c =
    let a = c.args in
    let l = c.loop-left in
    let i = a.at + 2 * l.n in
    let e = two_in a.line.now l.left.now i l.invariant.1 in
    ap (λ r. taken r l.bytes) c.some.ensures
    ∙ done a.line.now a.at a.bytes.now l.bytes l.n i l.invariant.0 (at_other a.line.now i _ (omega (arith, ap length l.invariant.1, length-drop i a.line.now)) e c.in_default-pair.ensures)

pub returns-then-bytes-n : goal.returns-then-bytes-n
returns-then-bytes-n c =
    let a = c.args in
    let l = c.loop-left in
    let i = a.at + 2 * l.n in
    let p = c.in-Some in
    let e = p.ensures.0 ∙ two_in a.line.now l.left.now i l.invariant.1 in
    full a.line.now a.at a.bytes.now l.bytes l.n i l.invariant.0 p.byte (omega (arith, ap length l.invariant.1, length-drop i a.line.now)) e p.ensures.1 c.if-bytes-n.true

pub loop-left-preserved : goal.loop-left-preserved
loop-left-preserved c =
    let a = c.args in
    let l = c.loop-left in
    let i = a.at + 2 * l.n in
    let p = c.in-Some in
    let e = p.ensures.0 ∙ two_in a.line.now l.left.now i l.invariant.1 in
    let j : i + 2 ≡ a.at + 2 * (l.n + 1) = omega arith in (
      moved a.line.now a.at a.bytes.now _ (l.n + 1) (i + 2) (a.at + 2 * (l.n + 1)) j
          (onward a.line.now a.at a.bytes.now l.bytes l.n i l.invariant.0 p.byte (omega (arith, ap length l.invariant.1, length-drop i a.line.now)) e p.ensures.1 c.if-bytes-n.false),
      rest_in a.line.now l.left.now i l.invariant.1 ∙ ap (λ n. drop n a.line.now) j,
    )

pub returns : goal.returns
returns c =
    let a = c.args in
    let l = c.loop-left in
    let i = a.at + 2 * l.n in
    ap (λ r. taken r l.bytes) c.some-2.ensures
    ∙ done a.line.now a.at a.bytes.now l.bytes l.n i l.invariant.0 (at_end a.line.now i (omega (arith, ap length l.invariant.1, length-drop i a.line.now)))
