-- A name as the code takes it: up to the first zero. Assumes nothing.
use Rattle.std.proofs.Common.{◌≡◌, ℕ, suc, ◌+◌, List, [], ◌∷◌, ◌==◌, eqb, ltb, cond, Bool, true, false, length, take, position, Some, None, refl, sym, ap, ◌∙◌, arith}
use Rattle.std.proofs.Math.Seq.{take_all}
use Rattle.std.specs.List.{position_or_len}
use borrow.Author.Tests.{ltb-false}
use Rattle.dfuse_file.specs.Placed.{name_in}

abbrev zero_at : List ℕ → ℕ
zero_at s = position_or_len (λ b. b == 0) s

up_to_zero : (s : List ℕ) → take (zero_at s) s ≡ name_in s
unfolding name_in
up_to_zero [] = refl
up_to_zero (b ∷ s) = by (eqb b 0) refl (up_to_zero s)
  where
    by : (t : Bool) → eqb b 0 ≡ t → take (zero_at s) s ≡ name_in s → take (zero_at (b ∷ s)) (b ∷ s) ≡ name_in (b ∷ s)
    by true e r = simp e
    by false e r = let w : 1 + zero_at s ≡ suc (zero_at s) = omega arith in simp e (rw w (ap (λ (l : List ℕ). b ∷ l) r))

-- where there is a zero, and where there is none
pub stops : (s : List ℕ) (n : ℕ) → Some n ≡ position (λ b. b == 0) s → take n s ≡ name_in s
stops s n e = by (ltb (zero_at s) (length s)) refl e
  where
    by : (t : Bool) → ltb (zero_at s) (length s) ≡ t → Some n ≡ cond t (Some (zero_at s)) None → take n s ≡ name_in s
    by true q e = let h : n ≡ zero_at s = cc in rw h (up_to_zero s)
    by false q e = absurd (cc)

pub goes_on : (s : List ℕ) → None ≡ position (λ b. b == 0) s → s ≡ name_in s
goes_on s e = by (ltb (zero_at s) (length s)) refl e
  where
    by : (t : Bool) → ltb (zero_at s) (length s) ≡ t → None ≡ cond t (Some (zero_at s)) None → s ≡ name_in s
    by true q e = absurd (cc)
    by false q e = sym (take_all (zero_at s) s (ltb-false (zero_at s) (length s) q)) ∙ up_to_zero s
