-- Laws on lists that the library lacks. Assumes nothing.
use Prim.Native.Nat.{ℕ, ◌-◌, ◌<◌, ◌≤◌, min}
use mathlib.Core.Path.{◌≡◌, refl, ap, sym, ◌∙◌}
use mathlib.Core.Bool.{Bool, true, false}
use mathlib.Core.List.{List, [], ◌∷◌, ◌++◌}
use native.Mathlib.Omega.{arith}
use lib.ListN.{length, take, drop, length-drop, drop_of_length-le}
use lib.Seq.{take_all}
use lib.Dec.{leb}
use borrow.Author.Tests.{leb-true, leb-false}

-- the part from a place to the end, as the code `&s[n..]` has it
pub onwards {ℓ} : {A : Type ℓ} (n : ℕ) (s : List A) → take (length s - n) (drop n s) ≡ drop n s
onwards n s = take_all (length s - n) (drop n s) (omega (arith, length-drop n s))

-- so many from the front, or all if there are fewer
pub take_min : (a : ℕ) (l : List ℕ) → take (min a (length l)) l ≡ take a l
take_min a l = by (leb a (length l)) refl
  where
    by : (b : Bool) → leb a (length l) ≡ b → take (min a (length l)) l ≡ take a l
    by true e =
        let h : a ≤ length l = leb-true _ _ e in
        let m : min a (length l) ≡ a = omega arith in
        ap (λ (x : ℕ). take x l) m
    by false e =
        let h : length l < a = leb-false _ _ e in
        let m : min a (length l) ≡ length l = omega arith in
        ap (λ (x : ℕ). take x l) m ∙ take_all (length l) l (omega arith) ∙ sym (take_all a l (omega arith))

-- a place past the end is the end
pub drop_min : (a : ℕ) (l : List ℕ) → drop (min a (length l)) l ≡ drop a l
drop_min a l = by (leb a (length l)) refl
  where
    by : (b : Bool) → leb a (length l) ≡ b → drop (min a (length l)) l ≡ drop a l
    by true e =
        let h : a ≤ length l = leb-true _ _ e in
        let m : min a (length l) ≡ a = omega arith in
        ap (λ (x : ℕ). drop x l) m
    by false e =
        let h : length l < a = leb-false _ _ e in
        let m : min a (length l) ≡ length l = omega arith in
        ap (λ (x : ℕ). drop x l) m ∙ drop_of_length-le l {i = length l} (omega arith) ∙ sym (drop_of_length-le l {i = a} (omega arith))

-- a text without the byte x, and two of them put together
abbrev pub Without : ℕ → List ℕ → Type 0
Without x [] = Unit
Without x (c ∷ cs) = (c ≡ x → ⊥) × Without x cs

pub without_both : (x : ℕ) (s t : List ℕ) → Without x s → Without x t → Without x (s ++ t)
without_both x [] t f g = g
without_both x (c ∷ s) t f g = (f.0, without_both x s t f.1 g)
