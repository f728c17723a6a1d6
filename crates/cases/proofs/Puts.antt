-- Laws of `put` and `puts`: one byte, and how a text is gone through. Assumes nothing.
use Prim.Native.Nat.{ℕ, suc, ◌+◌, ◌/◌, ◌%◌, ◌<◌, ◌≤◌}
use mathlib.Core.Path.{◌≡◌, refl, ap, ◌∙◌}
use mathlib.Core.List.{List, [], ◌∷◌, ◌++◌}
use native.Mathlib.Numerals.{add-one}
use native.Mathlib.Omega.{arith}
use lib.ListN.{length, drop, get_or, set, drop_of_length-le}
use lib.Seq.{drop-cons}
use borrow.Author.Tests.{lt-ltb, le-ltb}
use Rattle.cases.specs.Output.{Filled, filled, put, puts, joined, hex_digit, pair_text}

-- room for the byte, a full buffer, and one of no bytes
pub fits : (out : List ℕ) (at b : ℕ) → at < length out → filled (set out at b) (at + 1) ≡ put (filled out at) b
unfolding put
fits out at b h = simp (lt-ltb at (length out) h)

pub full : (out : List ℕ) (at b : ℕ) → length out ≤ at → 0 < length out → filled (set out 0 b) 1 ≡ put (filled out at) b
unfolding put
full [] at b h k = absurd (omega arith)
full (x ∷ out) at b h k = simp (le-ltb at (length (x ∷ out)) h)

pub without : (out : List ℕ) (at b : ℕ) → length out ≤ at → length out ≤ 0 → filled out 0 ≡ put (filled out at) b
unfolding put
without [] at b h k = simp (le-ltb at 0 h)
without (x ∷ out) at b h k = absurd (omega arith)

-- one text behind another
pub both : (f : Filled) (s t : List ℕ) → puts f (s ++ t) ≡ puts (puts f s) t
unfolding puts
both f [] t = refl
both f (b ∷ s) t = both (put f b) s t

pub one : (f : Filled) (b : ℕ) → put f b ≡ puts f (b ∷ [])
unfolding puts
one f b = refl

-- a text for each number: one of them, and the end
pub each : (text : ℕ → List ℕ) (f : Filled) (xs : List ℕ) (i : ℕ) → i < length xs
    → puts f (joined text (drop i xs)) ≡ puts (puts f (text (get_or xs i 0))) (joined text (drop (i + 1) xs))
unfolding joined
each text f xs i h = rw (add-one, drop-cons xs i 0 h) (both f (text (get_or xs i 0)) (joined text (drop (suc i) xs)))

pub all : (text : ℕ → List ℕ) (f : Filled) (xs : List ℕ) (i : ℕ) → length xs ≤ i → puts f (joined text (drop i xs)) ≡ f
unfolding joined puts
all text f xs i h = rw (drop_of_length-le xs h)

-- a byte in two digits
pub two : (f g h : Filled) (b x y : ℕ) → x ≡ hex_digit (b / 16) → y ≡ hex_digit (b % 16) → g ≡ put f x → h ≡ put g y → h ≡ puts f (pair_text b)
unfolding puts pair_text
two f g h b x y p q c d =
    d ∙ ap (λ (t : Filled). put t y) c ∙ ap (λ (z : ℕ). put (put f z) y) p ∙ ap (put (put f (hex_digit (b / 16)))) q
