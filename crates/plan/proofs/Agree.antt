-- The papers' covering pages and their block count are ours. Assumes nothing.
use Rattle.std.proofs.Common.{ℕ, zero, suc, ◌+◌, ◌-◌, ◌*◌, ◌/◌, ◌%◌, ◌<◌, min, mod-lt, div-add-mod', arith, ◌≡◌, refl, ap, sym, ◌∙◌, Bool, true, false, List, [], ◌∷◌, eqb, ltb, eqb-true, ltb-true, ltb-false}
use borrow.Author.Tests.{eqb-false}
use Rattle.ground.specs.Pick.{pick}
use Rattle.papers.specs.Plan.{leading, pages_for, blocks_for}
use Rattle.work.specs.Work.{block_count}
use Rattle.work.proofs.Fills.{block_count_sizeless, block_count_zero, block_count_fill}
use Rattle.download.specs.Download.{covering}
use Rattle.plan.proofs.Pages.{covering_zero, covering_more}

-- pages from a place on: those that cover what is left of the target there
leading_covers : (at n : ℕ) (ps : List ℕ) → leading at n ps ≡ covering (n - at) ps
unfolding leading covering
leading_covers at n [] = refl
leading_covers at n (p ∷ ps) = by (ltb at n) refl (leading_covers (at + p) n ps)
  where
    by : (b : Bool) → ltb at n ≡ b → leading (at + p) n ps ≡ covering (n - (at + p)) ps → pick b (p ∷ leading (at + p) n ps) [] ≡ covering (n - at) (p ∷ ps)
    by true e onward =
        let more : 0 < n - at = omega (arith, ltb-true at n e) in
        let rest : n - (at + p) ≡ n - at - p = omega arith in
        ap (λ (x : List ℕ). p ∷ x) (onward ∙ ap (λ (k : ℕ). covering k ps) rest) ∙ sym (covering_more (n - at) p ps more)
    by false e onward =
        let none : n - at ≡ 0 = omega (arith, ltb-false at n e) in
        sym (ap (λ (k : ℕ). covering k (p ∷ ps)) none ∙ covering_zero (p ∷ ps))

pub pages_agree : (n : ℕ) (ps : List ℕ) → pages_for n ps ≡ covering n ps
pages_agree n ps = leading_covers 0 n ps ∙ ap (λ (k : ℕ). covering k ps) (omega arith)

-- q full blocks and r bytes more
counted_out : (s q r : ℕ) → 0 < s → r < s → q + min 1 r ≡ block_count (q * s + r) s
counted_out s q (suc r) h l = let one : q + min 1 (suc r) ≡ suc q = omega arith in one ∙ sym (block_count_fill s q (suc r) (omega arith) (omega arith))
counted_out s zero zero h l = sym (ap (λ (x : ℕ). block_count x s) (omega arith) ∙ block_count_zero s h)
counted_out s (suc q) zero h l =
    let same : suc q * s + 0 ≡ q * s + s = omega arith in
    let one : suc q + min 1 0 ≡ suc q = omega arith in
    one ∙ sym (ap (λ (x : ℕ). block_count x s) same ∙ block_count_fill s q s h (omega arith))

pub blocks_agree : (n s : ℕ) → blocks_for n s ≡ block_count n s
unfolding blocks_for
blocks_agree n s = by (eqb s 0) refl
  where
    by : (b : Bool) → eqb s 0 ≡ b → pick b 0 (n / s + min 1 (n % s)) ≡ block_count n s
    by true e = sym (ap (λ (x : ℕ). block_count n x) (eqb-true s 0 e) ∙ block_count_sizeless n)
    by false e =
        let some : 0 < s = omega (arith, eqb-false s 0 e) in
        let parts : n / s * s + n % s ≡ n = div-add-mod' n s in
        counted_out s (n / s) (n % s) some (mod-lt n some) ∙ ap (λ (x : ℕ). block_count x s) parts
