-- Laws of `covering`: the pages that are erased lead the layout, cover the target, and are as few as can be. Assumes nothing.
use Rattle.std.proofs.Common.{ℕ, zero, suc, ◌-◌, ◌<◌, ◌≤◌, ◌≡◌, refl, ap, List, [], ◌∷◌, ◌++◌, arith, length, take, drop}
use Rattle.papers.specs.Plan.{sum}
use Rattle.download.specs.Download.{covering}

-- nothing is erased for a target of 0 bytes; otherwise the first page, and then those for what is left
pub covering_zero : (ps : List ℕ) → covering 0 ps ≡ []
unfolding covering
covering_zero [] = refl
covering_zero (p ∷ ps) = refl

pub covering_more : (n p : ℕ) (ps : List ℕ) → 0 < n → covering n (p ∷ ps) ≡ p ∷ covering (n - p) ps
unfolding covering
covering_more zero p ps h = absurd (omega arith)
covering_more (suc n) p ps h = refl

pub sum_covering : (n : ℕ) (ps : List ℕ) → sum (covering n ps) ≤ sum ps
unfolding sum covering
sum_covering n [] = omega arith
sum_covering zero (p ∷ ps) = omega arith
sum_covering (suc n) (p ∷ ps) = omega (arith, sum_covering (suc n - p) ps)

-- the covering pages lead the layout
pub covering_leads : (n : ℕ) (ps : List ℕ) → covering n ps ++ drop (length (covering n ps)) ps ≡ ps
unfolding covering
covering_leads n [] = refl
covering_leads zero (p ∷ ps) = refl
covering_leads (suc n) (p ∷ ps) = ap (λ (x : List ℕ). p ∷ x) (covering_leads (suc n - p) ps)

-- they cover the target where the layout does, and no shorter run of leading pages does
pub covering_covers : (n : ℕ) (ps : List ℕ) → n ≤ sum ps → n ≤ sum (covering n ps)
unfolding sum covering
covering_covers n [] h = h
covering_covers zero (p ∷ ps) h = omega arith
covering_covers (suc n) (p ∷ ps) h = omega (arith, covering_covers (suc n - p) ps (omega arith))

pub covering_least : (n i : ℕ) (ps : List ℕ) → i < length (covering n ps) → sum (take i ps) < n
unfolding sum covering
covering_least n i [] h = absurd (omega arith)
covering_least zero i (p ∷ ps) h = absurd (omega arith)
covering_least (suc n) zero (p ∷ ps) h = omega arith
covering_least (suc n) (suc i) (p ∷ ps) h = omega (arith, covering_least (suc n - p) i ps (omega arith))
