-- Laws of the reader of usual texts: a digit more, and a piece of digits, a star, digits, a unit and a type. Assumes nothing.
use Rattle.std.proofs.Common.{◌≡◌, ℕ, Some, Result, Ok, Err, suc, ◌+◌, ◌-◌, ◌*◌, ◌%◌, ◌<◌, ◌≤◌, eqb, ltb, List, [], ◌∷◌, ◌++◌, length, get_or, take, drop, sym, refl, ap, ◌∙◌, ap₂, arith, length-drop, length-take-le, get_or-drop, get_or-take, take-suc, take-take, drop-drop, take-add, drop_at, ltb-false}
use Rattle.std.specs.Result.{result_ok}
use Rattle.ground.proofs.Tests.{picked}
use Rattle.numeral.specs.Number.{read_on, number_of}
use Rattle.numeral.proofs.Reading.{one_more, digits_alone}
use Rattle.numeral.proofs.Decimals.{digit_in}
use Rattle.memory_layout.specs.declared.Error.{Error}
use Rattle.memory_layout.specs.declared.Run.{Run}
use Rattle.memory_layout.specs.Layout.{up_to, end_of, factor_of, scaled, counted, starred, piece_of}
use Rattle.memory_layout.specs.Usual.{ReadAt, EndsAt}
use Rattle.memory_layout.proofs.Scan.{stop_at, pass}
use Rattle.memory_layout.proofs.Pieces.{good}
use Rattle.memory_layout.proofs.Turns.{here}

-- no digit yet
pub nothing_read : (s : List ℕ) (from : ℕ) → from ≤ length s → ReadAt s from from 0
unfolding read_on
nothing_read s from h = let e : from - from ≡ 0 = omega arith in (omega arith, h, rw e refl, refl, refl)

-- a digit more
pub grows : (s : List ℕ) (from i v d : ℕ) → i < length s → get_or s i 0 < 256 → d ≡ (get_or s i 0 + 18446744073709551568) % 18446744073709551616 → d ≤ 9 → v * 10 + d ≤ 4294967295 → ReadAt s from i v → ReadAt s from (i + 1) (v * 10 + d)
grows s from i v d h m e p q r =
    let c = get_or s i 0 in
    let k : c ≡ d + 48 = omega arith in
    let n : i + 1 - from ≡ suc (i - from) = omega arith in
    let o : from + (i - from) ≡ i = omega arith in
    let part : take (i + 1 - from) (drop from s) ≡ take (i - from) (drop from s) ++ (c ∷ []) =
    ap (λ (m : ℕ). take m (drop from s)) n
    ∙ take-suc (drop from s) (i - from) 0 (omega (arith, length-drop from s))
    ∙ ap (λ (x : ℕ). take (i - from) (drop from s) ++ (x ∷ [])) (get_or-drop from s (i - from) 0 ∙ ap (λ (m : ℕ). get_or s m 0) o) in (
      omega arith,
      omega arith,
      ap (λ (t : List ℕ). read_on 10 t 0) part ∙ one_more 10 (take (i - from) (drop from s)) c d 0 v (digit_in c d m e p) r.2 (omega arith) (omega arith),
      r.3 ∙ pass 44 s i h (λ (z : get_or s i 0 ≡ 44). omega arith),
      r.4 ∙ pass 42 s i h (λ (z : get_or s i 0 ≡ 42). omega arith),
    )

-- differences
over : (a b : ℕ) → a < b → 0 < b - a
over a b h = omega arith

sum_less : (a x y e : ℕ) → a + x + 1 + y ≡ e → e + 2 - a ≡ x + 1 + (y + 2)
sum_less a x y e h = omega arith

-- a part of a part
drop-take : (n m : ℕ) (l : List ℕ) → n ≤ length l → drop n (take (n + m) l) ≡ take m (drop n l)
drop-take n m l h = ap (λ (t : List ℕ). drop n t) (take-add n m l) ∙ drop_at (take n l) (take m (drop n l)) n (length-take-le n l h)

-- digits from a place on are a number
part_number : (s : List ℕ) (from n v : ℕ) → 0 < n → from + n ≤ length s → read_on 10 (take n (drop from s)) 0 ≡ Some v → number_of 10 (take n (drop from s)) ≡ Some v
part_number s from n v h k e =
    let m : length (take n (drop from s)) ≡ n = length-take-le n (drop from s) (omega (arith, length-drop from s)) in
    digits_alone (take n (drop from s)) v (omega arith) e

-- a piece from a on: x digits, a star, y digits, a unit and a type
module _ (s : List ℕ) (a x y : ℕ) (l : a + x + 1 + y + 2 ≤ length s) where
  abbrev p : List ℕ
  p = take (x + 1 + (y + 2)) (drop a s)

  p_length : length p ≡ x + 1 + (y + 2)
  p_length = length-take-le (x + 1 + (y + 2)) (drop a s) (omega (arith, length-drop a s))

  rest : drop (x + 1) p ≡ take (y + 2) (drop (a + x + 1) s)
  rest =
      let o : a + (x + 1) ≡ a + x + 1 = omega arith in
      drop-take (x + 1) (y + 2) (drop a s) (omega (arith, length-drop a s))
      ∙ ap (λ (t : List ℕ). take (y + 2) t) (drop-drop (x + 1) a s ∙ ap (λ (i : ℕ). drop i s) o)

  rest_length : length (take (y + 2) (drop (a + x + 1) s)) ≡ y + 2
  rest_length = length-take-le (y + 2) (drop (a + x + 1) s) (omega (arith, length-drop (a + x + 1) s))

  usual_starred : (count size : ℕ) → 0 < x → 0 < y → read_on 10 (take x (drop a s)) 0 ≡ Some count → read_on 10 (take y (drop (a + x + 1) s)) 0 ≡ Some size
      → starred (take x p) (drop (x + 1) p) a ≡ scaled count size (factor_of (get_or s (a + x + 1 + y) 0)) (a + x + 1 + y)
  usual_starred count size h k c z =
      let t = take (y + 2) (drop (a + x + 1) s) in
      let y_is : length t - 2 ≡ y = omega (arith, rest_length) in
      let n1 : number_of 10 (take x p) ≡ Some count = ap (number_of 10) (take-take x (x + 1 + (y + 2)) (drop a s) (omega arith)) ∙ part_number s a x count h (omega arith) c in
      let n2 : number_of 10 (take (length t - 2) t) ≡ Some size =
      ap (λ (i : ℕ). number_of 10 (take i t)) y_is ∙ ap (number_of 10) (take-take y (y + 2) (drop (a + x + 1) s) (omega arith)) ∙ part_number s (a + x + 1) y size k (omega arith) z in
      let unit : get_or t (length t - 2) 0 ≡ get_or s (a + x + 1 + y) 0 =
      ap (λ (i : ℕ). get_or t i 0) y_is ∙ get_or-take (y + 2) (drop (a + x + 1) s) y 0 (omega arith) ∙ get_or-drop (a + x + 1) s y 0 in
      let unit_at : a + (length (take x p) + 1) + (length t - 2) ≡ a + x + 1 + y = omega (arith, y_is, length-take-le x p (omega (arith, p_length))) in
      ap (λ (r : List ℕ). starred (take x p) r a) rest
      ∙ good (take x p) t count size a (omega (arith, rest_length)) n1 n2
      ∙ ap₂ (λ (u i : ℕ). scaled count size (factor_of u) i) unit unit_at

-- a count of at least one digit, and the star after it
abbrev pub CountedAt : List ℕ → ℕ → ℕ → ℕ → Type 0
CountedAt s a star count = (a < star) × (star < length s) × (get_or s star 0 ≡ 42) × ReadAt s a star count

-- a piece whose count stands before its star, and whose size, unit and type stand after it
module _ (s : List ℕ) (a star end count size : ℕ) (f : CountedAt s a star count) (g : ReadAt s (star + 1) end size) (n : star + 1 < end) (o : EndsAt s end) where
  pub piece_ends : end + 2 ≡ end_of 44 s a
  piece_ends =
      let q : end + 1 + 1 ≡ end + 2 = omega arith in
      sym
      (f.3.3
      ∙ pass 44 s star f.1 (λ (k : get_or s star 0 ≡ 44). omega (arith, f.2))
      ∙ g.3
      ∙ pass 44 s end (omega (arith, o.0)) o.1
      ∙ pass 44 s (end + 1) (omega (arith, o.0)) o.2
      ∙ ap (λ (i : ℕ). end_of 44 s i) q
      ∙ o.3)

  star_first : end_of 42 s a ≡ star
  star_first = f.3.4 ∙ stop_at 42 s star f.1 f.2

  whole : starred (take (star - a) (take (end + 2 - a) (drop a s))) (drop (star - a + 1) (take (end + 2 - a) (drop a s))) a ≡ scaled count size (factor_of (get_or s end 0)) end
  whole =
      let x = star - a in
      let y = end - (star + 1) in
      let b : a + x ≡ star = omega (arith, f.0) in
      let c : star + 1 + y ≡ end = omega (arith, n) in
      let d : a + x + 1 + y ≡ end = ap (λ (i : ℕ). i + 1 + y) b ∙ c in
      let m : end + 2 - a ≡ x + 1 + (y + 2) = sum_less a x y end d in
      let v : read_on 10 (take y (drop (a + x + 1) s)) 0 ≡ Some size = ap (λ (i : ℕ). read_on 10 (take y (drop (i + 1) s)) 0) b ∙ g.2 in
      ap (λ (i : ℕ). starred (take x (take i (drop a s))) (drop (x + 1) (take i (drop a s))) a) m
      ∙ usual_starred s a x y (rw d o.0) count size (over a star f.0) (over (star + 1) end n) f.3.2 v
      ∙ ap (λ (i : ℕ). scaled count size (factor_of (get_or s i 0)) i) d

  pub usual_piece : piece_of (up_to 44 (drop a s)) a ≡ scaled count size (factor_of (get_or s end 0)) end
  usual_piece =
      here s a star (end + 2) (scaled count size (factor_of (get_or s end 0)) end) star_first (omega (arith, star_first, piece_ends, n)) piece_ends (sym whole)

-- a piece that is a run has three bytes at least
pub run_long : (p : List ℕ) (at : ℕ) (run : Run) → piece_of p at ≡ Ok run → 3 ≤ length p
unfolding piece_of starred
run_long p at run =
    let P : Result Run Error → Type 0 = λ r. r ≡ Ok run → 3 ≤ length p in
    let m = length (up_to 42 p) in
    let rest = drop (m + 1) p in
    picked P (eqb m (length p)) (Err (Error.InvalidPageFormat at (length p))) (starred (up_to 42 p) rest at) (λ b e. cc)
    (λ b. picked P (ltb (length rest) 2) (Err (Error.ParseErrorPageSize (at + (m + 1)) (length rest))) (counted (number_of 10 (up_to 42 p)) (up_to 42 p) rest at) (λ d e. cc)
    (λ d e. omega (arith, ltb-false (length rest) 2 d, length-drop (m + 1) p)))

-- a run that was read
pub is_run : (r : Result Run Error) (run : Run) → result_ok r ≡ Some run → r ≡ Ok run
is_run (Ok x) run e = cc
is_run (Err f) run e = cc
