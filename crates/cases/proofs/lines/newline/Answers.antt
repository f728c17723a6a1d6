-- `newline` meets its contract: what the library finds in what is left.
use Rattle.std.proofs.Common.{◌≡◌, ◌+◌, length, ap, ◌∙◌, ⊎_elim, arith}
use Rattle.std.specs.Option.{unwrap_or}
use Rattle.cases.specs.Lines.{left_of, up_to}
use Rattle.cases.proofs.Pieces.{found, within}
use Rattle.cases.proofs.lines.newline.Goals as goal

pub overflow_add-result : goal.overflow_add-result
overflow_add-result c =
    let a = c.args in
    let l = c.left-left.result.now in
    let e : c.unwrap_or.result ≡ length (up_to (left_of a.input.now a.from a.end)) =
    c.unwrap_or.ensures ∙ ap (λ r. unwrap_or r (length l)) c.newline_in.ensures ∙ found l ∙ ap (λ s. length (up_to s)) c.left-left.ensures in
    ⊎_elim (λ h. omega arith) (λ h. omega arith) (within a.input.now a.from a.end)

pub returns : goal.returns
returns c =
    let l = c.left-left.result.now in
    ap (λ n. c.args.from + n)
    (c.unwrap_or.ensures ∙ ap (λ r. unwrap_or r (length l)) c.newline_in.ensures ∙ found l ∙ ap (λ s. length (up_to s)) c.left-left.ensures)
