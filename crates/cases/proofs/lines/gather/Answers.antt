-- `gather` meets its contract: as much as there is room for joins the line in one piece.
use Rattle.std.proofs.Common.{◌≡◌, ℕ, List, ap, ◌∙◌, length, min, ◌+◌, ◌-◌, take, ◌++◌, arith}
use borrow.Rule.Slice.PartMut.{post_of, Post-is}
use Rattle.cases.specs.Output.{filled}
use Rattle.cases.specs.Lines.{adds, left_of}
use Rattle.cases.proofs.Pieces.{joined_none, joined}
use Rattle.cases.proofs.lines.gather.Goals as goal
use Rattle.cases.proofs.lines.gather.Goals.{then-n-gt0, else-n-gt0}

pub returns : goal.returns
returns c =
    let a = c.args in
    let l = c.left-left.result.now in
    let n : c.min-n.result ≡ min (length l) (length a.line.now - a.len) = c.min-n.ensures ∙ ap (min (length l)) c.saturating_sub.ensures in
    let given : adds (filled a.line.now a.len) l ≡ adds (filled a.line.now a.len) (left_of a.input.now a.from a.to) = ap (adds (filled a.line.now a.len)) c.left-left.ensures in
    elim c.if-n-gt0.branch [
      | then-n-gt0 w ↦ ap (λ (x : List ℕ). filled x (a.len + c.min-n.result)) (w.line-is ∙ ap (λ (x : List ℕ). take a.len a.line.now ++ (x ++ post_of a.len (a.len + c.min-n.result - a.len) a.line.now)) w.copy_from_slice.ensures.after ∙ ap (λ (x : List ℕ). take a.len a.line.now ++ (take c.min-n.result l ++ x)) (Post-is a.len (a.len + c.min-n.result) a.line.now (omega arith))) ∙ joined l a.line.now a.len c.min-n.result n w.if-n-gt0.true ∙ given
      | else-n-gt0 w ↦ ap (λ (x : List ℕ). filled x (a.len + c.min-n.result)) w.line-is ∙ joined_none l a.line.now a.len c.min-n.result n w.if-n-gt0.false ∙ given
    ]
