-- Laws of the fast decimal reader: its value is tested after the last digit, which answers as a test at each digit does. Assumes nothing.
use Rattle.std.proofs.Common.{◌≡◌, ◌==◌, not, position, true, false, ℕ, zero, suc, ◌+◌, ◌-◌, ◌*◌, ◌%◌, ◌^◌, ◌<◌, ◌≤◌, ltb, leb, List, [], ◌∷◌, length, get_or, drop, Option, Some, None, option_and_then, sym, refl, ap, ◌∙◌, ⊎_elim, pow-suc, add-one, arith, length-drop, drop_of_length-le, drop-cons, le-ltb, lt-ltb}
use borrow.Author.Tests.{lt-leb}
use Rattle.std.proofs.lemmas.Bool.Decides.{nat_tests}
use Rattle.std.specs.List.{position_or_len}
use Rattle.std.proofs.lemmas.List.Sums.{prefix_len_passes}
use Rattle.std.proofs.lemmas.List.Quantifiers.{position-Some}
use Rattle.ground.specs.Pick.{pick}
use Rattle.ground.proofs.Lists.{onwards}
use Rattle.ground.proofs.Tests.{lt_or_ge, picked}
use Rattle.numeral.specs.Number.{digit_of, read_on}

-- digits to the end, after a value v, with the value tested at the end alone
unfoldable pub late : List ℕ → ℕ → Option ℕ
late [] v = pick (ltb 4294967295 v) None (Some v)
late (c ∷ cs) v = option_and_then (λ d. pick (leb 10 d) None (late cs (v * 10 + d))) (digit_of c)

-- whatever the digit is
none_of : (f : ℕ → Option ℕ) (o : Option ℕ) → ((d : ℕ) → o ≡ Some d → f d ≡ None) → option_and_then f o ≡ None
none_of f None h = refl
none_of f (Some d) h = h d refl

same_of : (f g : ℕ → Option ℕ) (o : Option ℕ) → ((d : ℕ) → f d ≡ g d) → option_and_then f o ≡ option_and_then g o
same_of f g None h = refl
same_of f g (Some d) h = h d

-- a value too large never gets smaller
over : (s : List ℕ) (v : ℕ) → 4294967295 < v → late s v ≡ None
unfolding late
over [] v h = simp (lt-ltb 4294967295 v h)
over (c ∷ cs) v h =
    none_of _ (digit_of c)
    (λ d e. picked (λ (r : Option ℕ). r ≡ None) (leb 10 d) None (late cs (v * 10 + d)) (λ t. refl) (λ t. over cs (v * 10 + d) (omega arith)))

-- so the late test answers as the definition's
pub same : (s : List ℕ) (v : ℕ) → v ≤ 4294967295 → late s v ≡ read_on 10 s v
unfolding late read_on
same [] v h = simp (le-ltb 4294967295 v h)
same (c ∷ cs) v h =
    same_of _ _ (digit_of c)
    (λ d.
    let w = v * 10 + d in
    ap (λ (r : Option ℕ). pick (leb 10 d) None r)
    (⊎_elim (λ l. over cs w l ∙ simp (lt-ltb 4294967295 w l)) (λ g. same cs w g ∙ simp (le-ltb 4294967295 w g)) (lt_or_ge 4294967295 w)))

-- d is a byte c less 48, which wraps where c is below
module _ (c d : ℕ) (k : c < 256) (e : d ≡ (c + 18446744073709551568) % 18446744073709551616) where
  pub digit_in : d ≤ 9 → digit_of c ≡ Some d
  digit_in h = grind (arith, nat_tests)

  digit_out : (f : ℕ → Option ℕ) → 9 < d → option_and_then (λ x. pick (leb 10 x) None (f x)) (digit_of c) ≡ None
  digit_out f h = grind (arith, nat_tests)

-- a turn of the loop at a place i, where d is the byte less 48
module _ (s : List ℕ) (i v d : ℕ) (h : i < length s) (k : get_or s i 0 < 256) (e : d ≡ (get_or s i 0 + 18446744073709551568) % 18446744073709551616) where
  pub no_digit : 9 < d → late (drop i s) v ≡ None
  unfolding late
  no_digit p = rw (drop-cons s i 0) (digit_out (get_or s i 0) d k e (λ x. late (drop (suc i) s) (v * 10 + x)) p)

  pub next : d ≤ 9 → late (drop i s) v ≡ late (drop (i + 1) s) (v * 10 + d)
  unfolding late
  next p = rw (add-one, drop-cons s i 0) (simp (digit_in (get_or s i 0) d k e p, lt-leb 10 d (omega arith)))

pub ended : (s : List ℕ) (i v : ℕ) → length s ≤ i → late (drop i s) v ≡ pick (ltb 4294967295 v) None (Some v)
unfolding late
ended s i v h = rw (drop_of_length-le s h)

-- a value of so many digits, and one digit more
pub more : (v d i : ℕ) → v < 10 ^ i → d ≤ 9 → v * 10 + d < 10 ^ (i + 1)
more v d i h k = rw (add-one i) (omega (arith, pow-suc 10 i))

-- zeros before the digits that count
pub leading : (s : List ℕ) (k : ℕ) → k ≤ length s → ((i : ℕ) → i < k → get_or s i 0 ≡ 48) → read_on 10 s 0 ≡ read_on 10 (drop k s) 0
unfolding read_on
leading s zero h f = refl
leading [] (suc k) h f = absurd (omega arith)
leading (c ∷ s) (suc k) h f = simp (f 0 (omega arith)) (leading s k (omega arith) (λ i l. f (suc i) (omega arith)))

-- a value with k zeros after it: what k digits more make of it at least
abbrev wide : ℕ → ℕ → ℕ
wide zero v = v
wide (suc k) v = wide k (v * 10)

wider : (k v w : ℕ) → v ≤ w → wide k v ≤ wide k w
wider zero v w h = h
wider (suc k) v w h = wider k (v * 10) (w * 10) (omega arith)

-- so many that the value passes the limit
too_large : (k v : ℕ) (s : List ℕ) → k ≤ length s → 4294967295 < wide k v → late s v ≡ None
unfolding late
too_large zero v s h l = over s v l
too_large (suc k) v [] h l = absurd (omega arith)
too_large (suc k) v (c ∷ cs) h l =
    none_of _ (digit_of c)
    (λ d e.
    picked (λ (r : Option ℕ). r ≡ None) (leb 10 d) None (late cs (v * 10 + d)) (λ t. refl)
    (λ t. too_large k (v * 10 + d) cs (omega arith) (omega (arith, l, wider k (v * 10) (v * 10 + d) (omega arith)))))

-- a byte that is no `0` is worth something, and eleven digits from it on are too many
worth : (c d : ℕ) → (c ≡ 48 → ⊥) → digit_of c ≡ Some d → 1 ≤ d
worth c d n e = grind (arith, nat_tests)

pub eleven : (s : List ℕ) (i : ℕ) → 10 < length s - i → (get_or s i 0 ≡ 48 → ⊥) → read_on 10 (drop i s) 0 ≡ None
unfolding late
eleven s i h n =
    sym (same (drop i s) 0 (omega arith))
    ∙ ap (λ (l : List ℕ). late l 0) (drop-cons s i 0 (omega arith))
    ∙ none_of _ (digit_of (get_or s i 0))
    (λ d e.
    picked (λ (r : Option ℕ). r ≡ None) (leb 10 d) None (late (drop (suc i) s) (0 * 10 + d)) (λ t. refl)
    (λ t. too_large 10 (0 * 10 + d) (drop (suc i) s) (omega (arith, length-drop (suc i) s)) (omega (arith, worth (get_or s i 0) d n e))))

-- the first byte that is no zero, and a text of zeros alone
is_zero : (c : ℕ) → not (c == 48) ≡ false → c ≡ 48
is_zero c e = grind (arith, nat_tests)

no_zero : (c : ℕ) → not (c == 48) ≡ true → c ≡ 48 → ⊥
no_zero c e k = grind (arith, nat_tests)

pub from_first : (s : List ℕ) (k : ℕ) → position (λ x. not (x == 48)) s ≡ Some k → (k < length s) × (read_on 10 s 0 ≡ read_on 10 (drop k s) 0) × (get_or s k 0 ≡ 48 → ⊥)
from_first s k e =
    let p = position-Some (λ x. not (x == 48)) s k 0 e in
    (p.0, leading s k (omega (arith, p.0)) (λ i l. is_zero (get_or s i 0) (p.2 i l)), no_zero (get_or s k 0) p.1)

pub zeros_alone : (s : List ℕ) → position (λ x. not (x == 48)) s ≡ None → read_on 10 s 0 ≡ Some 0
unfolding read_on
zeros_alone s e =
    let n = position_or_len (λ x. not (x == 48)) s in
    let h : length s ≤ n = grind (arith, nat_tests) in
    leading s (length s) (omega arith) (λ i l. is_zero (get_or s i 0) (grind (arith, nat_tests, prefix_len_passes (λ x. not (not (x == 48))) s i 0 (omega arith)))) ∙ rw (drop_of_length-le s {i = length s} (omega arith))

pub ruleset turns = (same, no_digit, next, ended, more)

pub ruleset zeros = (from_first, zeros_alone, eleven, onwards)
