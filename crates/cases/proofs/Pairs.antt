-- Laws of `pairs_at`: how the reader of pairs of hex digits goes. Assumes nothing.
use Prim.Native.Nat.{ℕ, suc, ◌+◌, ◌-◌, ◌*◌, ◌<◌, ◌≤◌}
use mathlib.Core.Path.{◌≡◌, refl, sym, ap, ◌∙◌}
use mathlib.Core.List.{List, [], ◌∷◌, ◌++◌}
use native.Mathlib.Numerals.{add-one}
use native.Mathlib.Omega.{arith}
use lib.ListN.{length, take, drop, get_or, set, length-set, drop_of_length-le, take-append-drop, length-drop}
use lib.Seq.{drop-cons}
use borrow.Author.Tests.{lt-ltb, le-ltb}
use Rattle.cases.specs.Words.{pair_of, pairs_of, over, taken, bytes_to, pairs_at}
use Rattle.std.specs.Prelude.{None}
use Rattle.std.proofs.lemmas.List.{get_or-drop, drop-drop}
use Rattle.ground.proofs.Lists.{onwards}
use Rattle.cases.proofs.Rows.{more, later, whole}

-- where the pairs end: with less than two bytes left, or at two that are none
short : (s : List ℕ) → length s < 2 → pairs_of s ≡ []
unfolding pairs_of
short [] h = refl
short (a ∷ []) h = refl
short (a ∷ b ∷ s) h = absurd (omega arith)

pub at_end : (line : List ℕ) (i : ℕ) → length line - i < 2 → pairs_of (drop i line) ≡ []
at_end line i h = short (drop i line) (omega (arith, length-drop i line))

two : (line : List ℕ) (i : ℕ) → 2 ≤ length line - i → drop i line ≡ get_or line i 0 ∷ get_or line (i + 1) 0 ∷ drop (i + 2) line
two line i h =
    let a : suc i ≡ i + 1 = omega arith in
    let b : suc (i + 1) ≡ i + 2 = omega arith in
    drop-cons line i 0 (omega arith)
    ∙ ap (λ (k : ℕ). get_or line i 0 ∷ drop k line) a
    ∙ ap (λ (t : List ℕ). get_or line i 0 ∷ t) (drop-cons line (i + 1) 0 (omega arith) ∙ ap (λ (k : ℕ). get_or line (i + 1) 0 ∷ drop k line) b)

pub at_other : (line : List ℕ) (i p : ℕ) → 2 ≤ length line - i → p ≡ pair_of (get_or line i 0) (get_or line (i + 1) 0) → 255 < p → pairs_of (drop i line) ≡ []
unfolding pairs_of
at_other line i p h e q = rw (two line i h) (simp (lt-ltb 255 (pair_of (get_or line i 0) (get_or line (i + 1) 0)) (omega arith)))

pub at_pair : (line : List ℕ) (i p : ℕ) → 2 ≤ length line - i → p ≡ pair_of (get_or line i 0) (get_or line (i + 1) 0) → p ≤ 255
    → pairs_of (drop i line) ≡ p ∷ pairs_of (drop (i + 2) line)
unfolding pairs_of
at_pair line i p h e q = rw (e, two line i h) (simp (le-ltb 255 (pair_of (get_or line i 0) (get_or line (i + 1) 0)) (omega arith)))

-- a list over a buffer, at its ends and on its way
pub over_none : (bs : List ℕ) → over [] bs ≡ bs
unfolding over
over_none [] = refl
over_none (b ∷ bs) = refl

over_full : (xs : List ℕ) → over xs [] ≡ []
unfolding over
over_full [] = refl
over_full (x ∷ xs) = refl

over_more : (x : ℕ) (xs bs : List ℕ) (n : ℕ) → n < length bs → over (x ∷ xs) (drop n bs) ≡ x ∷ over xs (drop (n + 1) bs)
unfolding over
over_more x xs bs n h = rw (add-one, drop-cons bs n 0 h)

pub none : (line : List ℕ) (at : ℕ) (bs : List ℕ) → length line ≤ at → taken None bs ≡ pairs_at line at bs
unfolding pairs_at
none line at bs h =
    let e = at_end line at (omega arith) in
    simp (e, le-ltb (length bs) 0 (omega arith)) (ap (taken None) (sym (over_none bs)))

-- n bytes of the pairs at the first place stand in front, up to a second place: what is left goes over the rest as the whole does over all
abbrev pub So : List ℕ → ℕ → List ℕ → List ℕ → ℕ → ℕ → Type 0
So line at bs₀ bs n i =
    (length bs ≡ length bs₀)
    × (i ≤ length line)
    × (i ≡ at + 2 * n)
    × (n ≤ length bs)
    × (n + length (pairs_of (drop i line)) ≡ length (pairs_of (drop at line)))
    × (take n bs ++ over (pairs_of (drop i line)) (drop n bs) ≡ over (pairs_of (drop at line)) bs₀)

pub moved : (line : List ℕ) (at : ℕ) (bs₀ bs : List ℕ) (n i j : ℕ) → i ≡ j → So line at bs₀ bs n i → So line at bs₀ bs n j
moved line at bs₀ bs n i j e s = rw (← e) s

pub outset : (line : List ℕ) (at : ℕ) (bs : List ℕ) → at ≤ length line → So line at bs bs 0 (at + 0)
outset line at bs h = moved line at bs bs 0 at (at + 0) (omega arith) (refl, h, omega arith, omega arith, omega arith, refl)

-- the two bytes at the front of what is left, and what is left behind them
pub two_in : (line left : List ℕ) (i : ℕ) → left ≡ drop i line → pair_of (get_or left 0 0) (get_or left 1 0) ≡ pair_of (get_or line i 0) (get_or line (i + 1) 0)
two_in line left i e =
    rw e (rw (get_or-drop i line 0 0, get_or-drop i line 1 0) (ap (λ (k : ℕ). pair_of (get_or line k 0) (get_or line (i + 1) 0)) (omega arith)))

pub rest_in : (line left : List ℕ) (i : ℕ) → left ≡ drop i line → take (length left - 2) (drop 2 left) ≡ drop (i + 2) line
rest_in line left i e = onwards 2 left ∙ ap (λ (l : List ℕ). drop 2 l) e ∙ drop-drop 2 i line

module _ (line : List ℕ) (at : ℕ) (bs₀ bs : List ℕ) (n i : ℕ) (s : So line at bs₀ bs n i) where
  pub done : pairs_of (drop i line) ≡ [] → taken (bytes_to n i) bs ≡ pairs_at line at bs₀
  unfolding pairs_at
  done e =
      let k : n ≡ length (pairs_of (drop at line)) = omega (arith, ap length e, s.4) in
      let o : bs ≡ over (pairs_of (drop at line)) bs₀ =
      sym (take-append-drop n bs)
      ∙ ap (λ (t : List ℕ). take n bs ++ t) (sym (over_none (drop n bs)) ∙ ap (λ (t : List ℕ). over t (drop n bs)) (sym e))
      ∙ s.5 in
      let p : i ≡ at + 2 * length (pairs_of (drop at line)) = omega (arith, s.2) in
      simp (le-ltb (length bs₀) (length (pairs_of (drop at line))) (omega (arith, s.0, s.3)))
      (ap (λ (m : ℕ). taken (bytes_to m i) bs) k ∙ ap (λ (m : ℕ). taken (bytes_to (length (pairs_of (drop at line))) m) bs) p ∙ ap (taken _) o)

  module _ (p : ℕ) (h : 2 ≤ length line - i) (e : p ≡ pair_of (get_or line i 0) (get_or line (i + 1) 0)) (q : p ≤ 255) where
    pub full : length bs ≤ n → taken None bs ≡ pairs_at line at bs₀
    unfolding pairs_at
    full f =
        let o : bs ≡ over (pairs_of (drop at line)) bs₀ =
        sym (whole bs n f)
        ∙ ap (λ (t : List ℕ). take n bs ++ t) (sym (over_full (pairs_of (drop i line))) ∙ ap (over (pairs_of (drop i line))) (sym (drop_of_length-le bs f)))
        ∙ s.5 in
        simp (lt-ltb (length bs₀) (length (pairs_of (drop at line))) (omega (arith, ap length (at_pair line i p h e q), s.0, s.4))) (ap (taken None) o)

    pub onward : n < length bs → So line at bs₀ (set bs n p) (n + 1) (i + 2)
    onward f = (
      length-set bs n p ∙ s.0,
      omega arith,
      omega (arith, s.2),
      omega (arith, length-set bs n p),
      omega (arith, ap length (at_pair line i p h e q), s.4),
      more bs n p (over (pairs_of (drop (i + 2) line)) (drop (n + 1) (set bs n p))) f
          ∙ ap (λ (t : List ℕ). take n bs ++ (p ∷ over (pairs_of (drop (i + 2) line)) t)) (later bs n p)
          ∙ ap (λ (t : List ℕ). take n bs ++ t) (sym (over_more p (pairs_of (drop (i + 2) line)) bs n f))
          ∙ ap (λ (t : List ℕ). take n bs ++ over t (drop n bs)) (sym (at_pair line i p h e q))
          ∙ s.5,
    )
