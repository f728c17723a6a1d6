-- What the words of a line are: docs/CASES.md.
use Rattle.std.specs.Prelude.{ℕ, ◌+◌, ◌-◌, ◌*◌, List, [], ◌∷◌, length, drop, ◌==◌, nat_lt, nat_le, slice_index, Option, Some, None}
use Rattle.ground.specs.Pick.{pick}
use Rattle.ground.specs.Bytes.{prefix}
use Rattle.cases.specs.declared.words.Amount.{Amount}
use Rattle.cases.specs.declared.words.Bytes.{Bytes}

-- a byte's value as a digit: 0 to 9, a to f; 16 for no digit
abbrev pub digit_of : ℕ → ℕ
digit_of c = pick (nat_lt c 48) 16 (pick (nat_le c 57) (c - 48) (pick (nat_lt c 97) 16 (pick (nat_le c 102) (c - 97 + 10) 16)))

-- the decimal digits that a list begins with
unfoldable pub digits_in : List ℕ → List ℕ
digits_in [] = []
digits_in (c ∷ cs) = pick (nat_lt 9 (digit_of c)) [] (c ∷ digits_in cs)

-- the number that digits are, behind the digits of a number v
unfoldable pub decimal : ℕ → List ℕ → ℕ
decimal v [] = v
decimal v (c ∷ cs) = decimal (v * 10 + digit_of c) cs

abbrev pub amount : ℕ → ℕ → Amount
amount value end = record { value = value; end = end }

-- a number whose digits stand from a place to another: there is at least one
abbrev pub amount_from : ℕ → ℕ → ℕ → Option Amount
amount_from value at end = pick (end == at) None (Some (amount value end))

-- the digits at a place: a number up to the limit
unfoldable pub digits_at : List ℕ → ℕ → ℕ → Option Amount
digits_at line at limit =
    pick (nat_lt limit (decimal 0 (digits_in (drop at line)))) None
    (amount_from (decimal 0 (digits_in (drop at line))) at (at + length (digits_in (drop at line))))

-- with a space behind it: the next word starts there
abbrev pub spaced : List ℕ → Option Amount → Option Amount
spaced line None = None
spaced line (Some a) = pick (slice_index line a.end == 32) (Some (amount a.value (a.end + 1))) None

unfoldable pub number_at : List ℕ → ℕ → ℕ → Option Amount
number_at line at limit = spaced line (digits_at line at limit)

-- the byte that two hex digits are; 256 if one of them is none
abbrev pub pair_of : ℕ → ℕ → ℕ
pair_of a b = pick (nat_lt 15 (digit_of a)) 256 (pick (nat_lt 15 (digit_of b)) 256 (digit_of a * 16 + digit_of b))

-- the bytes that the pairs of hex digits are that a list begins with
unfoldable pub pairs_of : List ℕ → List ℕ
pairs_of [] = []
pairs_of (a ∷ []) = []
pairs_of (a ∷ b ∷ cs) = pick (nat_lt 255 (pair_of a b)) [] (pair_of a b ∷ pairs_of cs)

-- a list over the first of a buffer, as far as it fits
unfoldable pub over : List ℕ → List ℕ → List ℕ
over xs [] = []
over [] (b ∷ bs) = b ∷ bs
over (x ∷ xs) (b ∷ bs) = x ∷ over xs bs

-- an answer, and the buffer that was lent for the bytes
pub record Taken : Type 0 where
  pub answer : Option Bytes
  pub buffer : List ℕ

abbrev pub taken : Option Bytes → List ℕ → Taken
taken r bs = record { answer = r; buffer = bs }

abbrev pub hex_bytes : ℕ → ℕ → Bytes
hex_bytes len end = record { len = len; end = end }

-- so many bytes, whose pairs end at a place: there is at least one
abbrev pub bytes_to : ℕ → ℕ → Option Bytes
bytes_to len end = pick (len == 0) None (Some (hex_bytes len end))

-- the pairs at a place: no more than the buffer has bytes
unfoldable pub pairs_at : List ℕ → ℕ → List ℕ → Taken
pairs_at line at bs =
    taken
    (pick (nat_lt (length bs) (length (pairs_of (drop at line)))) None (bytes_to (length (pairs_of (drop at line))) (at + 2 * length (pairs_of (drop at line)))))
    (over (pairs_of (drop at line)) bs)

-- HEX: a hyphen for no bytes, or pairs
unfoldable pub hex_at : List ℕ → ℕ → List ℕ → Taken
hex_at line at bs = pick (slice_index line at == 45) (taken (Some (hex_bytes 0 (at + 1))) bs) (pairs_at line at bs)

-- HEX to the line's end
abbrev pub ending : List ℕ → Option Bytes → Option Bytes
ending line None = None
ending line (Some b) = pick (b.end == length line) (Some b) None

unfoldable pub last_hex_at : List ℕ → ℕ → List ℕ → Taken
last_hex_at line at bs = taken (ending line (hex_at line at bs).answer) (hex_at line at bs).buffer

-- a text at a place of the line: where it ends
unfoldable pub past_at : List ℕ → ℕ → List ℕ → Option ℕ
past_at line at text = pick (nat_lt (length line) at) None (pick (prefix text (drop at line)) (Some (at + length text)) None)

-- an answer, and the numbers that were lent for the values
pub record Stored : Type 0 where
  pub answer : Option ℕ
  pub values : List ℕ

abbrev pub stored : Option ℕ → List ℕ → Stored
stored r vs = record { answer = r; values = vs }

abbrev pub behind : ℕ → Stored → Stored
behind v s = stored s.answer (v ∷ s.values)

abbrev pub goes_on : Option Amount → List ℕ → (ℕ → ℕ → Stored) → Stored
goes_on None vs rest = stored None vs
goes_on (Some a) vs rest = rest a.value a.end

-- numbers with a space behind each, a limit for each: the values up to the first that is bad
unfoldable pub numbers_at : List ℕ → ℕ → List ℕ → List ℕ → Stored
numbers_at line at [] vs = stored (Some at) vs
numbers_at line at (m ∷ ms) [] = stored None []
numbers_at line at (m ∷ ms) (v ∷ vs) = goes_on (number_at line at m) (v ∷ vs) (λ value end. behind value (numbers_at line end ms vs))
