-- Laws on tests. Assumes nothing.
use Prim.Native.Nat.{ℕ, suc, ◌<◌, ◌≤◌}
use mathlib.Core.Path.{◌≡◌, refl}
use mathlib.Core.Logic.{◌⊎◌, inl, inr}
use mathlib.Core.Bool.{Bool, true, false}
use native.Mathlib.Omega.{arith}
use lib.Dec.{ltb}
use borrow.Author.Tests.{ltb-true, ltb-false}
use Rattle.ground.specs.Pick.{pick}

-- a number is below another, or it is not
pub lt_or_ge : (a b : ℕ) → (a < b) ⊎ (b ≤ a)
lt_or_ge a b = go (ltb a b) refl
  where
    go : (t : Bool) → ltb a b ≡ t → (a < b) ⊎ (b ≤ a)
    go true e = inl (ltb-true a b e)
    go false e = inr (ltb-false a b e)

-- from a bound on to the next: for a number that is none of several
pub above : {k b : ℕ} → k ≤ b → (b ≡ k → ⊥) → suc k ≤ b
above h n = omega arith

-- what holds of both that a test may pick holds of what it picks
pub picked {ℓ} : {A : Type ℓ} (P : A → Type 0) (t : Bool) (x y : A) → (t ≡ true → P x) → (t ≡ false → P y) → P (pick t x y)
picked P true x y f g = f refl
picked P false x y f g = g refl
