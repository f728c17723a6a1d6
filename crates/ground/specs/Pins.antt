-- What it is for a contract to pin its outcome down: two outcomes that it allows at the same arguments are equal.
use Rattle.std.specs.Prelude.{ℕ, ◌≡◌, List}
use contract.Lifetimes.{Lfts}
use borrow.Fn.Kinds.{ParamKind, ResultKind, Dens, ended_of}
use denote.Triple.Clauses.{AtExit}

-- a contract's own `Post`: the result x and the lent things s at exit, of the arguments a; `out` is what is compared
module _ {n : ℕ} (ps : List (ParamKind n)) (r : ResultKind n) where
  abbrev pub Post : Type 0 → Type 1
  Post R = (κs : Lfts n) → Dens {n = n} κs ps → R → AtExit (ended_of n ps r) κs → Type 0

  abbrev pub Pins : {R O : Type 0} → Post R → ((κs : Lfts n) → R → AtExit (ended_of n ps r) κs → O) → Type 0
  Pins {R} post out =
      (κs : Lfts n) (a : Dens {n = n} κs ps) (x y : R) (s t : AtExit (ended_of n ps r) κs) → post κs a x s → post κs a y t → out κs x s ≡ out κs y t
