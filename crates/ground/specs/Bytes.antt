-- Numbers and fixed byte strings in a list of bytes.
use Rattle.std.specs.Prelude.{ℕ, zero, suc, ◌+◌, ◌*◌, ◌/◌, ◌%◌, ◌<◌, List, [], ◌∷◌, Bool, true, false, take, drop, ◌==◌}
use Rattle.ground.specs.Pick.{pick}

-- the number that bytes are, lowest byte first
unfoldable pub little_endian_value : List ℕ → ℕ
little_endian_value [] = 0
little_endian_value (b ∷ bs) = little_endian_value bs * 256 + b

-- a number's bytes, so many, lowest byte first
unfoldable pub bytes_low : ℕ → ℕ → List ℕ
bytes_low zero n = []
bytes_low (suc w) n = (n % 256) ∷ bytes_low w (n / 256)

-- the number that the n bytes at a place are; of bytes past the end nothing is read
unfoldable pub field : ℕ → ℕ → List ℕ → ℕ
field at n bs = little_endian_value (take n (drop at bs))

-- whether a list begins with another
unfoldable pub prefix : List ℕ → List ℕ → Bool
prefix [] s = true
prefix (a ∷ p) [] = false
prefix (a ∷ p) (b ∷ s) = pick (b == a) (prefix p s) false

-- every number of a list is a byte
abbrev pub Bytes : List ℕ → Type 0
Bytes [] = Unit
Bytes (b ∷ bs) = (b < 256) × Bytes bs
