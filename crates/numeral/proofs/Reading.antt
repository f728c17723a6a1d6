-- Laws of `read_on` and `number_of`, over the base: one for each way that the reader goes. Assumes nothing.
use Rattle.std.proofs.Common.{◌≡◌, ℕ, suc, ◌+◌, ◌*◌, ◌<◌, ◌≤◌, Bool, true, false, ltb, leb, List, [], ◌∷◌, ◌++◌, length, get_or, drop, Option, Some, None, option_and_then, refl, ◌∙◌, add-one, arith, drop_of_length-le, drop-cons, le-ltb, lt-ltb, eq-eqb, ne_eqb, le-leb}
use borrow.Author.Tests.{lt-leb}
use Rattle.std.specs.Char.{digit_value}
use Rattle.std.proofs.lemmas.Bool.Decides.{nat_tests}
use Rattle.ground.specs.Pick.{pick}
use Rattle.ground.proofs.Lists.{Without, onwards}
use Rattle.numeral.specs.Number.{digit_of, read_on, number_of}

pub at_end : (b : ℕ) (s : List ℕ) (i v : ℕ) → length s ≤ i → read_on b (drop i s) v ≡ Some v
unfolding read_on
at_end b s i v h = rw (drop_of_length-le s h)

-- what the library's `to_digit` reads in a base up to 16 is what the definition does
by_value : (b c : ℕ) (f : ℕ → Option ℕ) → b ≤ 16 → option_and_then (λ d. pick (leb b d) None (f d)) (digit_of c) ≡ pick (leb b (digit_value c)) None (f (digit_value c))
by_value b c f h = grind (arith, nat_tests)

-- a turn of the loop at a place i, in a base b up to 16
module _ (b : ℕ) (s : List ℕ) (i v : ℕ) (k : b ≤ 16) (h : i < length s) where
  abbrev d : ℕ
  d = digit_value (get_or s i 0)

  step : read_on b (drop i s) v ≡ pick (leb b d) None (pick (ltb 4294967295 (v * b + d)) None (read_on b (drop (i + 1) s) (v * b + d)))
  unfolding read_on
  step = rw (add-one, drop-cons s i 0) (by_value b (get_or s i 0) (λ x. pick (ltb 4294967295 (v * b + x)) None (read_on b (drop (suc i) s) (v * b + x))) k)

  pub bad_digit : b ≤ d → read_on b (drop i s) v ≡ None
  bad_digit p = step ∙ simp (le-leb b d p)

  pub bad_value : d < b → 4294967295 < v * b + d → read_on b (drop i s) v ≡ None
  bad_value p q = step ∙ simp (lt-leb b d p, lt-ltb 4294967295 (v * b + d) q)

  pub go_on : d < b → v * b + d ≤ 4294967295 → read_on b (drop i s) v ≡ read_on b (drop (i + 1) s) (v * b + d)
  go_on p q = step ∙ simp (lt-leb b d p, le-ltb 4294967295 (v * b + d) q)

-- the turns of the plain reader's loop
pub ruleset turns = (at_end, bad_digit, bad_value, go_on)

-- the three ways of `number_of`
pub no_digits : (b : ℕ) (s : List ℕ) → length s ≡ 0 → number_of b s ≡ None
unfolding number_of
no_digits b [] h = refl
no_digits b (c ∷ cs) h = absurd (omega arith)

pub plus_alone : (b : ℕ) (s : List ℕ) → get_or s 0 0 ≡ 43 → length s ≡ 1 → number_of b s ≡ None
unfolding number_of
plus_alone b [] p h = absurd (omega arith)
plus_alone b (c ∷ []) p h = simp (eq-eqb c 43 p)
plus_alone b (c ∷ d ∷ cs) p h = absurd (omega arith)

pub after_plus : (b : ℕ) (s : List ℕ) → get_or s 0 0 ≡ 43 → 1 < length s → number_of b s ≡ read_on b (drop 1 s) 0
unfolding number_of
after_plus b [] p h = absurd (omega arith)
after_plus b (c ∷ []) p h = absurd (omega arith)
after_plus b (c ∷ d ∷ cs) p h = simp (eq-eqb c 43 p)

pub bare : (b : ℕ) (s : List ℕ) → 0 < length s → (get_or s 0 0 ≡ 43 → ⊥) → number_of b s ≡ read_on b s 0
unfolding number_of
bare b [] n p = absurd (omega arith)
bare b (c ∷ cs) n p = simp (ne_eqb c 43 p)

pub ruleset signs = (no_digits, plus_alone, after_plus, bare, onwards)

-- a number with no `+`
pub unsigned : (b : ℕ) (s : List ℕ) → 0 < length s → Without 43 s → number_of b s ≡ read_on b s 0
unsigned b [] h f = absurd (omega arith)
unsigned b (c ∷ s) h f = bare b (c ∷ s) h f.0

-- one digit more at the end
pub one_more : (b : ℕ) (xs : List ℕ) (c d w v : ℕ) → digit_of c ≡ Some d → read_on b xs w ≡ Some v → d < b → v * b + d ≤ 4294967295
    → read_on b (xs ++ (c ∷ [])) w ≡ Some (v * b + d)
unfolding read_on
one_more b [] c d w v g e p q =
    let k : w ≡ v = cc in
    rw k (simp (g, lt-leb b d p, le-ltb 4294967295 (v * b + d) q))
one_more b (x ∷ xs) c d w v g e p q = go (digit_of x) (λ y f. one_more b xs c d (w * b + y) v g f p q) e
  where
    tests : (s t : Bool) (r n : Option ℕ) → (r ≡ Some v → n ≡ Some (v * b + d)) → pick s None (pick t None r) ≡ Some v → pick s None (pick t None n) ≡ Some (v * b + d)
    tests true t r n f h = cc
    tests false true r n f h = cc
    tests false false r n f h = f h

    go : (o : Option ℕ) → ((y : ℕ) → read_on b xs (w * b + y) ≡ Some v → read_on b (xs ++ (c ∷ [])) (w * b + y) ≡ Some (v * b + d))
        → option_and_then (λ y. pick (leb b y) None (pick (ltb 4294967295 (w * b + y)) None (read_on b xs (w * b + y)))) o ≡ Some v
        → option_and_then (λ y. pick (leb b y) None (pick (ltb 4294967295 (w * b + y)) None (read_on b (xs ++ (c ∷ [])) (w * b + y)))) o ≡ Some (v * b + d)
    go None r h = cc
    go (Some y) r h = tests _ _ _ _ (r y) h

-- digits alone are a number
pub digits_alone : (s : List ℕ) (v : ℕ) → 0 < length s → read_on 10 s 0 ≡ Some v → number_of 10 s ≡ Some v
unfolding read_on
digits_alone [] v h e = absurd (omega arith)
digits_alone (c ∷ s) v h e = bare 10 (c ∷ s) h (λ (k : c ≡ 43). let f : read_on 10 (c ∷ s) 0 ≡ None = simp k in cc) ∙ e
