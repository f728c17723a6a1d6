-- `digits` meets its contract: what is left to read goes on from the value so far as the whole does from 0.
use Rattle.std.proofs.Common.{◌≡◌, ◌+◌, ◌*◌, length, get_or, ap, ◌∙◌, arith}
use Rattle.cases.specs.Words.{digit_of, amount_from}
use Rattle.cases.proofs.Digits.{nothing, at_end, at_other, done, too_large, onward, moved, outset}
use Rattle.cases.proofs.Parts.{past_end, element}
use Rattle.cases.proofs.words.digits.Goals as goal

pub returns-in_err-b-items : goal.returns-in_err-b-items
returns-in_err-b-items c = let a = c.args in c.from_residual.ensures ∙ nothing a.line.now a.at a.limit (past_end a.at _ c.in_err-b-items.ensures.lookup.0)

pub loop-n-init : goal.loop-n-init
loop-n-init c = let a = c.args in outset a.line.now a.at a.limit

pub returns-in_default : goal.returns-in_default
returns-in_default c =
    let a = c.args in
    let l = c.loop-n in
    let k = c.in_ok-b-items.ensures.lookup.0 in
    let e = element a.line.now c.in_ok-b-items.b-items.now a.at l.n k.2 in
    c.ended.ensures
    ∙ done a.line.now a.at a.limit l.value (a.at + l.n) l.invariant (at_other a.line.now (a.at + l.n) (digit_of (get_or c.in_ok-b-items.b-items.now l.n 0)) (omega arith) (ap digit_of e) c.in_default.ensures)

pub returns-in_err-checked_mul : goal.returns-in_err-checked_mul
returns-in_err-checked_mul c =
    let a = c.args in
    let l = c.loop-n in
    let k = c.in_ok-b-items.ensures.lookup.0 in
    let d = c.in-Some in
    let e = d.ensures.0 ∙ ap digit_of (element a.line.now c.in_ok-b-items.b-items.now a.at l.n k.2) in
    c.from_residual-in_err-checked_mul.ensures
    ∙ too_large a.line.now a.at a.limit l.value (a.at + l.n) l.invariant d.d (omega arith) e d.ensures.1 (omega arith)

pub returns-in_err-value : goal.returns-in_err-value
returns-in_err-value c =
    let a = c.args in
    let l = c.loop-n in
    let k = c.in_ok-b-items.ensures.lookup.0 in
    let d = c.in-Some in
    let e = d.ensures.0 ∙ ap digit_of (element a.line.now c.in_ok-b-items.b-items.now a.at l.n k.2) in
    c.from_residual-in_err-value.ensures
    ∙ too_large a.line.now a.at a.limit l.value (a.at + l.n) l.invariant d.d (omega arith) e d.ensures.1 (omega arith)

pub returns-then-limit-value : goal.returns-then-limit-value
returns-then-limit-value c =
    let a = c.args in
    let l = c.loop-n in
    let k = c.in_ok-b-items.ensures.lookup.0 in
    let d = c.in-Some in
    let e = d.ensures.0 ∙ ap digit_of (element a.line.now c.in_ok-b-items.b-items.now a.at l.n k.2) in
    too_large a.line.now a.at a.limit l.value (a.at + l.n) l.invariant d.d (omega arith) e d.ensures.1 (omega arith)

pub loop-n-preserved : goal.loop-n-preserved
loop-n-preserved c =
    let a = c.args in
    let l = c.loop-n in
    let k = c.in_ok-b-items.ensures.lookup.0 in
    let d = c.in-Some in
    let e = d.ensures.0 ∙ ap digit_of (element a.line.now c.in_ok-b-items.b-items.now a.at l.n k.2) in
    let v : c.in_ok-value.value ≡ l.value * 10 + d.d = omega arith in
    let n = onward a.line.now a.at a.limit l.value (a.at + l.n) l.invariant d.d (omega arith) e d.ensures.1 (omega arith) in
    moved a.line.now a.at a.limit c.in_ok-value.value (a.at + l.n + 1) (a.at + (l.n + 1)) (omega arith) (rw v n)

pub returns : goal.returns
returns c =
    let a = c.args in
    let l = c.loop-n in
    let k = c.in_ok-b-items.ensures.lookup.0 in
    let i : length a.line.now ≡ a.at + l.n = omega arith in
    c.ended-2.ensures
    ∙ ap (λ n. amount_from l.value a.at n) i
    ∙ done a.line.now a.at a.limit l.value (a.at + l.n) l.invariant (at_end a.line.now (a.at + l.n) (omega arith))
