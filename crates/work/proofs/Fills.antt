-- Laws of `block_count`: how many blocks so many bytes fill. Assumes nothing.
use Rattle.std.proofs.Common.{◌≡◌, ℕ, zero, suc, ◌+◌, ◌-◌, ◌*◌, ◌/◌, ◌<◌, ◌≤◌, Bool, true, false, refl, ap, sym, ◌∙◌, add-one, arith}
use Rattle.std.proofs.Math.Nat.{div-eq_of_lt, div-eq_of_lt-le, div-eq-sub-div, div-zero, div-le_self, le-div_iff_mul-le}
use Rattle.std.proofs.lemmas.Grind.{div_ceil_times}
use Rattle.std.specs.Int.{div_ceil}
use lib.Dec.{leb}
use borrow.Author.Tests.{leb-true, leb-false}
use Rattle.work.specs.Work.{block_count}

-- no blocks of size 0; and a bound, so that a sum with them fits
pub block_count_sizeless : (n : ℕ) → block_count n 0 ≡ 0
unfolding block_count
block_count_sizeless n = div-zero (n + (0 - 1))

pub block_count_bound : (n s : ℕ) → block_count n s ≤ n + s
unfolding block_count
block_count_bound n s = omega (arith, div-le_self (n + (s - 1)) s)

-- the library's rounding up gives it
pub block_count_ceil : (n s : ℕ) → 0 < s → div_ceil n s ≡ block_count n s
unfolding block_count
block_count_ceil n s h =
    let around = div_ceil_times n s h in
    sym (div-eq_of_lt-le {k = div_ceil n s} s (omega arith) (omega arith))

-- none for no bytes, otherwise one and those for what is left
pub block_count_zero : (s : ℕ) → 0 < s → block_count 0 s ≡ 0
unfolding block_count
block_count_zero s h = div-eq_of_lt (omega arith)

pub block_count_more : (n s : ℕ) → 0 < s → 0 < n → block_count n s ≡ suc (block_count (n - s) s)
unfolding block_count
block_count_more n s h k = div-eq-sub-div h (omega arith) ∙ add-one _ ∙ ap suc (same (leb s n) refl)
  where
    same : (b : Bool) → leb s n ≡ b → (n + (s - 1) - s) / s ≡ (n - s + (s - 1)) / s
    same true e = ap (λ (x : ℕ). x / s) (omega (arith, leb-true s n e))
    same false e = div-eq_of_lt (omega (arith, leb-false s n e)) ∙ sym (div-eq_of_lt (omega (arith, leb-false s n e)))

pub block_count_pos : (n s : ℕ) → 0 < s → 0 < block_count n s → 0 < n
block_count_pos zero s h k = absurd (omega (arith, block_count_zero s h))
block_count_pos (suc n) s h k = omega arith

pub block_count_none : (n s : ℕ) → 0 < s → block_count n s ≡ 0 → n ≡ 0
block_count_none zero s h e = refl
block_count_none (suc n) s h e = absurd (omega (arith, block_count_more (suc n) s h (omega arith)))

-- one block further, one block fewer
pub block_count_next : (n s i c : ℕ) → 0 < s → block_count (n - i * s) s ≡ suc c → block_count (n - suc i * s) s ≡ c
block_count_next n s i c h e =
    let pos : 0 < n - i * s = block_count_pos _ _ h (omega arith) in
    let m : block_count (n - i * s - s) s ≡ c = omega (arith, block_count_more _ _ h pos) in
    ap (λ (x : ℕ). block_count x s) (omega arith) ∙ m

-- i full blocks and some of the next are i + 1
pub block_count_fill : (s i m : ℕ) → 0 < m → m ≤ s → block_count (i * s + m) s ≡ suc i
block_count_fill s zero m h k =
    let z : m - s ≡ 0 = omega arith in
    ap (λ (x : ℕ). block_count x s) (omega arith)
    ∙ block_count_more m s (omega arith) h
    ∙ ap suc (ap (λ (x : ℕ). block_count x s) z ∙ block_count_zero s (omega arith))
block_count_fill s (suc i) m h k =
    let z : suc i * s + m - s ≡ i * s + m = omega arith in
    block_count_more (suc i * s + m) s (omega arith) (omega arith) ∙ ap suc (ap (λ (x : ℕ). block_count x s) z ∙ block_count_fill s i m h k)

-- each block begins inside the firmware
pub blocks_within : (n s i : ℕ) → 0 < s → i < block_count n s → i * s < n
unfolding block_count
blocks_within n s i h k =
    let m : suc i * s ≤ n + (s - 1) = (le-div_iff_mul-le h).0 k in
    omega arith
