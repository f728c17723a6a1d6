-- Laws of `covering`: how the recursion on the pages' tail goes. Assumes nothing.
use Rattle.std.proofs.Common.{◌≡◌, ℕ, zero, suc, ◌+◌, ◌-◌, ◌<◌, ◌≤◌, List, [], ◌∷◌, length, get_or, take, drop, refl, ap, ◌∙◌, arith}
use Prim.Native.Nat.{zero-le, suc-le-suc}
use Rattle.ground.proofs.Lists.{onwards}
use Rattle.download.specs.Download.{covering}

pub none_left : (n : ℕ) (ps : List ℕ) → n ≡ 0 → 0 ≡ length (covering n ps)
unfolding covering
none_left n [] e = refl
none_left zero (p ∷ ps) e = refl
none_left (suc n) (p ∷ ps) e = absurd (omega arith)

pub no_page : (n : ℕ) (ps : List ℕ) → length ps ≡ 0 → 0 ≡ length (covering n ps)
unfolding covering
no_page n [] e = refl
no_page n (p ∷ ps) e = absurd (omega arith)

-- the first page, and then those covering what is left, among the tail
pub step : (n : ℕ) (ps : List ℕ) → (n ≡ 0 → ⊥) → 0 < length ps
    → 1 + length (covering (n - get_or ps 0 0) (take (length ps - 1) (drop 1 ps))) ≡ length (covering n ps)
unfolding covering
step n [] h l = absurd (omega arith)
step zero (p ∷ ps) h l = absurd (h refl)
step (suc n) (p ∷ ps) h l = ap (λ (t : List ℕ). 1 + length (covering (suc n - p) t)) (onwards 1 (p ∷ ps)) ∙ omega arith

pub bounded : (n : ℕ) (ps : List ℕ) → length (covering n ps) ≤ length ps
unfolding covering
bounded n [] = zero-le
bounded zero (p ∷ ps) = zero-le
bounded (suc n) (p ∷ ps) = suc-le-suc (bounded (suc n - p) ps)
