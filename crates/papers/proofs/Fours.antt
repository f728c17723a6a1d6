-- A number of four bytes, laid out and read: one is the other's inverse. Assumes nothing.
use Prim.Native.Nat.{ℕ, ◌+◌, ◌*◌, ◌/◌, ◌%◌, ◌<◌, ◌≤◌}
use mathlib.Core.Path.{◌≡◌, refl}
use mathlib.Core.List.{List, [], ◌∷◌, ◌++◌}
use native.Mathlib.Omega.{arith}
use lib.ListN.{length, take, drop}
use Rattle.ground.specs.Bytes.{little_endian_value, field, Bytes}
use Rattle.papers.specs.Suffix.{four}

-- the number that is laid out is read
quad : (n : ℕ) → (((0 * 256 + n / 16777216) * 256 + n / 65536 % 256) * 256 + n / 256 % 256) * 256 + n % 256 ≡ n
quad n = omega arith

pub field_four : (n : ℕ) (s : List ℕ) → field 0 4 (four n ++ s) ≡ n
unfolding field little_endian_value
field_four n s = quad n

pub field_drop : (k : ℕ) (s : List ℕ) → field k 4 s ≡ field 0 4 (drop k s)
unfolding field
field_drop k s = refl

-- and the number that four bytes are read as is laid out as them
module _ (a b c d : ℕ) (h : (a < 256) × (b < 256) × (c < 256)) where
  abbrev number : ℕ
  number = (((0 * 256 + d) * 256 + c) * 256 + b) * 256 + a

  back : (number % 256 ≡ a) × (number / 256 % 256 ≡ b) × (number / 65536 % 256 ≡ c) × (number / 16777216 ≡ d)
  back = (omega arith, omega arith, omega arith, omega arith)

pub four_field : (s : List ℕ) → Bytes s → 4 ≤ length s → four (field 0 4 s) ≡ take 4 s
unfolding field little_endian_value
four_field [] h n = absurd (omega arith)
four_field (a ∷ []) h n = absurd (omega arith)
four_field (a ∷ b ∷ []) h n = absurd (omega arith)
four_field (a ∷ b ∷ c ∷ []) h n = absurd (omega arith)
four_field (a ∷ b ∷ c ∷ d ∷ s) h n =
    let f = back a b c d (h.0, h.1.0, h.1.1.0) in
    simp (f.0, f.1, f.2, f.3)
