-- Laws of `prefix`: what it says, and that it is the library's test. Assumes nothing.
use Prim.Native.Nat.{ℕ, ◌<◌, ◌≤◌}
use mathlib.Core.Path.{◌≡◌, refl, sym}
use mathlib.Core.List.{List, [], ◌∷◌, ◌++◌}
use mathlib.Core.Logic.{⊎_elim}
use mathlib.Core.Bool.{Bool, true, false, ◌&&◌}
use native.Mathlib.Omega.{arith}
use lib.Dec.{eqb}
use lib.ListN.{length, take}
use Rattle.std.specs.Cmp.Lexicographic.{pointwise}
use borrow.Author.Tests.{eq-eqb, ne_eqb, eqb-true, eqb-false}
use Rattle.ground.specs.Pick.{pick}
use Rattle.ground.specs.Bytes.{prefix}
use Rattle.ground.proofs.Tests.{lt_or_ge}

-- what it says: the list's start is the other list
pub starts : (p s : List ℕ) → prefix p s ≡ true → take (length p) s ≡ p
unfolding prefix
starts [] s e = refl
starts (a ∷ p) [] e = absurd (let z : ◌≡◌ {A = ℕ} 0 1 = cc in omega arith)
starts (a ∷ p) (b ∷ s) e = go (eqb b a) refl e (starts p s)
  where
    go : (t : Bool) → eqb b a ≡ t → pick t (prefix p s) false ≡ true → (prefix p s ≡ true → take (length p) s ≡ p) → b ∷ take (length p) s ≡ a ∷ p
    go true h k f = cc (eqb-true b a h, f k)
    go false h k f = absurd (let z : ◌≡◌ {A = ℕ} 0 1 = cc in omega arith)

-- and it holds of a list that is made so
pub leads : (p s : List ℕ) → prefix p (p ++ s) ≡ true
unfolding prefix
leads [] s = refl
leads (a ∷ p) s = simp (eq-eqb a a refl) (leads p s)

pub short : (p s : List ℕ) → length s < length p → prefix p s ≡ false
unfolding prefix
short [] s h = absurd (omega arith)
short (a ∷ p) [] h = refl
short (a ∷ p) (b ∷ s) h = simp (short p s (omega arith)) (both (eqb b a))
  where
    both : (t : Bool) → pick t false false ≡ false
    both true = refl
    both false = refl

pub long : (p s : List ℕ) → prefix p s ≡ true → length p ≤ length s
long p s e = ⊎_elim (λ l. absurd (let f = short p s l in let z : ◌≡◌ {A = ℕ} 0 1 = cc in omega arith)) (λ g. g) (lt_or_ge (length s) (length p))

-- the library's test of the same
pub pointed : (p s : List ℕ) → pointwise eqb p (take (length p) s) ≡ prefix p s
unfolding prefix
pointed [] s = refl
pointed (a ∷ p) [] = refl
pointed (a ∷ p) (b ∷ s) = go (eqb b a) refl (pointed p s)
  where
    go : (t : Bool) → eqb b a ≡ t → pointwise eqb p (take (length p) s) ≡ prefix p s → (eqb a b && pointwise eqb p (take (length p) s)) ≡ pick t (prefix p s) false
    go true h f = let e : a ≡ b = sym (eqb-true b a h) in simp (eq-eqb a b e) f
    go false h f = let n : a ≡ b → ⊥ = λ e. eqb-false b a h (sym e) in simp (ne_eqb a b n)
