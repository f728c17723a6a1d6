use Rattle.std.proofs.Common.{false, ◌≡◌, ◌≢◌, ◌⊎◌, ℕ, ◌<◌, Bool, List, Option, Result, Ok, Err, IfOk, length, take, inl, inr, arith, rules, sym, subst, length-take-le}
use Rattle.std.specs.Borrow.{MutBor}
use Rattle.std.specs.Fn.{Once}
use Rattle.std.specs.Io.KnownBytes.{IsAtEnd}
use Rattle.console.specs.Came.{Came}
use Rattle.console.specs.Whole.{Said}
use Rattle.console.proofs.reading.whole.Goals.{in-Ok, in-Ok-2}
use Rattle.console.proofs.reading.whole.Goals as goal

-- where k bytes came into the space and did not fill it, the function was asked about the first n of it, which are these
asked : {F W : Type 0} (calls : Once W (MutBor F × (Result ℕ ℕ × Unit {0})) (Bool × (MutBor F × Unit {0}))) (remaining : F → Option (List ℕ)) (is_whole : W) (before : F)
    (n k room : ℕ) (space : List ℕ) (filled : Result ℕ ℕ) (shown left : MutBor F) (given answer : Bool)
    → n ≡ k
    → Came (remaining before) (remaining shown.now) space k
    → (filled ≡ Ok k) ⊎ (filled ≡ Err k)
    → IfOk filled (λ _. IsAtEnd (remaining shown.now))
    → n ≢ length space
    → length space ≡ room
    → given ≡ answer
    → calls.post is_whole (shown, (filled, tt)) (given, (left, tt))
    → (length (take n space) < room) × Said calls remaining is_whole before (take n space) answer
asked calls remaining is_whole before n k room space filled shown left given answer same came counted ended apart held gave met =
    let e = length-take-le k space came.0 in
    let Goal : ℕ → Type 0 = λ m. (length (take m space) < room) × Said calls remaining is_whole before (take m space) answer in
    subst Goal (sym same) (
      omega arith,
      record {
        filled = filled;
        counted = subst (λ m. (filled ≡ Ok m) ⊎ (filled ≡ Err m)) (sym e) counted;
        shown = shown;
        came = came.1;
        ended = ended;
        left = left;
        met = subst (λ a. calls.post is_whole (shown, (filled, tt)) (a, (left, tt))) gave met;
      },
    )

pub returns-clause-ok : goal.returns-clause-ok
returns-clause-ok g c =
    elim c.match-filled.branch [
      | in-Ok w ↦ asked _ _ _ _ _ _ _ _ _ _ _ _ _ w.n-is w.in-Ok.ensures.ok (inl w.filled-is) (search rules) c.if-n-space.false c.fill-filled.auto.space c.if-not-is_whole.false c.is_whole.ensures
      | in-Ok-2 w ↦ asked _ _ _ _ _ _ _ _ _ _ _ _ _ w.n-is w.in-Ok.ensures.err (inr w.filled-is) (search rules) c.if-n-space.false c.fill-filled.auto.space c.if-not-is_whole.false c.is_whole.ensures
    ]

pub returns-then-not-is_whole-clause-cannot_read : goal.returns-then-not-is_whole-clause-cannot_read
returns-then-not-is_whole-clause-cannot_read g c _ =
    let no =
    elim c.match-filled.branch as (λ _. (length (take c.match-filled.n c.fill-filled.new.space) < length c.args.space.now) × Said g.W.FnOnce g.F.Read.remaining c.args.is_whole c.args.file.now (take c.match-filled.n c.fill-filled.new.space) false) [
      | in-Ok w ↦ asked _ _ _ _ _ _ _ _ _ _ _ _ _ w.n-is w.in-Ok.ensures.ok (inl w.filled-is) (search rules) c.if-n-space.false c.fill-filled.auto.space c.if-not-is_whole.true c.is_whole.ensures
      | in-Ok-2 w ↦ asked _ _ _ _ _ _ _ _ _ _ _ _ _ w.n-is w.in-Ok.ensures.err (inr w.filled-is) (search rules) c.if-n-space.false c.fill-filled.auto.space c.if-not-is_whole.true c.is_whole.ensures
    ]
    in
    (take c.match-filled.n c.fill-filled.new.space, no.0, no.1)
