-- `next` meets its contract: a turn through the piece is the definition's, and one that reads is counted.
use Prim.Native.Nat.{ℕ, ◌<◌, ◌≤◌}
use mathlib.Core.Path.{◌≡◌, refl, ap, subst, ◌∙◌}
use Rattle.std.proofs.Common.{Ok, Err}
use Rattle.std.specs.Result.{IfOk}
use Rattle.std.specs.declared.result.Result.{Result}
use native.Mathlib.Omega.{arith}
use mathlib.Core.List.{List}
use Rattle.std.specs.declared.option.Option.{Option}
use Rattle.cases.specs.declared.lines.Place.{Place}
use Rattle.cases.specs.Lines.{passed_of, Reads}
use Rattle.cases.proofs.Pieces.{turns_kept}
use Rattle.cases.proofs.lines.next.Goals as goal

fewer : {E : Type 0} (r : Result Place E) (m n : ℕ) → m < n → IfOk r (λ p. p.turns ≤ m) → IfOk r (λ p. p.turns < n)
fewer (Ok p) m n h k = omega arith
fewer (Err d) m n h k = tt

read_from : {E : Type 0} (r : Result Place E) (old new : Option (List ℕ)) (p q : Place) (input : List ℕ) → p ≡ q → IfOk r (Reads old new p input) → IfOk r (Reads old new q input)
read_from (Ok t) old new p q input e k = subst (λ (x : Place). Reads old new x input t) e k
read_from (Err d) old new p q input e k = tt

pub returns-then-now : goal.returns-then-now
returns-then-now g c =
    let a = c.args in
    let b = c.begun-now in
    let p = c.passed in
    let k = turns_kept b.result p.result a.input.now a.line.now _ p.ensures in
    record {
      turns_lt_turns = omega (arith, k, ap (λ (q : Place). q.turns) b.ensures);
      line_after = λ _. p.ensures ∙ ap (λ (q : Place). passed_of q a.input.now a.line.now) b.ensures;
      source_kept = λ _. refl;
      line_kept = λ h. absurd (omega (arith, h, c.if-now.true, ap (λ (q : Place). q.from) b.ensures, ap (λ (q : Place). q.end) b.ensures));
      piece = λ h. absurd (omega (arith, h, c.if-now.true, ap (λ (q : Place). q.from) b.ensures, ap (λ (q : Place). q.end) b.ensures));
      unread = tt;
    }

pub returns : goal.returns
returns g c =
    let a = c.args in
    let b = c.begun-now in
    let f = c.filled in
    record {
      turns_lt_turns = fewer f.result b.result.turns a.place.turns (omega (arith, ap (λ (q : Place). q.turns) b.ensures)) f.ensures.turns;
      line_after = λ h. absurd (omega (arith, h, c.if-now.false, ap (λ (q : Place). q.from) b.ensures, ap (λ (q : Place). q.end) b.ensures));
      source_kept = λ h. absurd (omega (arith, h, c.if-now.false, ap (λ (q : Place). q.from) b.ensures, ap (λ (q : Place). q.end) b.ensures));
      line_kept = λ _. refl;
      piece = λ _. read_from f.result _ _ _ _ f.new.input b.ensures f.ensures.piece;
      unread = f.ensures.unread;
    }
