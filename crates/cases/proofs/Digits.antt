-- Laws of `digits_at`: how the reader of decimal digits goes. Assumes nothing.
use Prim.Native.Nat.{ℕ, ◌+◌, ◌*◌, ◌<◌, ◌≤◌}
use mathlib.Core.Path.{◌≡◌, refl, sym, ap, ◌∙◌}
use mathlib.Core.List.{List, [], ◌∷◌}
use native.Mathlib.Numerals.{add-one}
use native.Mathlib.Omega.{arith}
use lib.ListN.{length, drop, get_or, drop_of_length-le}
use lib.Seq.{drop-cons}
use borrow.Author.Tests.{lt-ltb, le-ltb, eq-eqb}
use Rattle.cases.specs.Words.{digit_of, digits_in, decimal, amount_from, digits_at}
use Rattle.std.specs.Prelude.{None}

-- where the digits end: at the line's end, or at a byte that is none
pub at_end : (line : List ℕ) (i : ℕ) → length line ≤ i → digits_in (drop i line) ≡ []
unfolding digits_in
at_end line i h = rw (drop_of_length-le line h)

pub at_other : (line : List ℕ) (i d : ℕ) → i < length line → d ≡ digit_of (get_or line i 0) → 9 < d → digits_in (drop i line) ≡ []
unfolding digits_in
at_other line i d h e p = rw (drop-cons line i 0 h) (simp (lt-ltb 9 (digit_of (get_or line i 0)) (omega arith)))

pub at_digit : (line : List ℕ) (i d : ℕ) → i < length line → d ≡ digit_of (get_or line i 0) → d ≤ 9
    → digits_in (drop i line) ≡ get_or line i 0 ∷ digits_in (drop (i + 1) line)
unfolding digits_in
at_digit line i d h e p = rw (add-one, drop-cons line i 0 h) (simp (le-ltb 9 (digit_of (get_or line i 0)) (omega arith)))

-- no digits past the line's end
pub nothing : (line : List ℕ) (at limit : ℕ) → length line < at → None ≡ digits_at line at limit
unfolding digits_at decimal
nothing line at limit h = simp (at_end line at (omega arith), le-ltb limit 0 (omega arith), eq-eqb (at + 0) at (omega arith))

-- digits behind a number never make it smaller
grows : (v : ℕ) (ds : List ℕ) → v ≤ decimal v ds
unfolding decimal
grows v [] = omega arith
grows v (c ∷ cs) = omega (arith, grows (v * 10 + digit_of c) cs)

-- the digits from the first place to a second are a value: what is left to read goes on from it as the whole does from 0
abbrev pub So : List ℕ → ℕ → ℕ → ℕ → ℕ → Type 0
So line at limit value i =
    (at ≤ i)
    × (value ≤ limit)
    × (decimal value (digits_in (drop i line)) ≡ decimal 0 (digits_in (drop at line)))
    × (i + length (digits_in (drop i line)) ≡ at + length (digits_in (drop at line)))

pub moved : (line : List ℕ) (at limit value i j : ℕ) → i ≡ j → So line at limit value i → So line at limit value j
moved line at limit value i j e s = rw (← e) s

pub outset : (line : List ℕ) (at limit : ℕ) → So line at limit 0 (at + 0)
outset line at limit = moved line at limit 0 at (at + 0) (omega arith) (omega arith, omega arith, refl, refl)

module _ (line : List ℕ) (at limit value i : ℕ) (s : So line at limit value i) where
  pub done : digits_in (drop i line) ≡ [] → amount_from value at i ≡ digits_at line at limit
  unfolding digits_at decimal
  done e =
      let v : value ≡ decimal 0 (digits_in (drop at line)) = ap (decimal value) (sym e) ∙ s.2 in
      let n : i ≡ at + length (digits_in (drop at line)) = omega (arith, ap length e, s.3) in
      simp (le-ltb limit (decimal 0 (digits_in (drop at line))) (omega (arith, s.1))) (cc)

  module _ (d : ℕ) (h : i < length line) (e : d ≡ digit_of (get_or line i 0)) (p : d ≤ 9) where
    next : decimal (value * 10 + d) (digits_in (drop (i + 1) line)) ≡ decimal 0 (digits_in (drop at line))
    unfolding decimal
    next =
        ap (λ (x : ℕ). decimal (value * 10 + x) (digits_in (drop (i + 1) line))) e
        ∙ ap (decimal value) (sym (at_digit line i d h e p))
        ∙ s.2

    pub too_large : limit < value * 10 + d → None ≡ digits_at line at limit
    unfolding digits_at
    too_large q =
        let g = grows (value * 10 + d) (digits_in (drop (i + 1) line)) in
        simp (lt-ltb limit (decimal 0 (digits_in (drop at line))) (omega (arith, next)))

    pub onward : value * 10 + d ≤ limit → So line at limit (value * 10 + d) (i + 1)
    onward q = (omega (arith, s.0), q, next, omega (arith, ap length (at_digit line i d h e p), s.3))
