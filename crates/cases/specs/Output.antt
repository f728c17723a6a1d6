-- What stands in the transcript's buffer after a text was put behind its first bytes, and the text of each kind of word: docs/CASES.md.
use Rattle.std.specs.Prelude.{ℕ, zero, suc, ◌≡◌, ◌+◌, ◌-◌, ◌/◌, ◌%◌, ◌<◌, ◌≤◌, List, [], ◌∷◌, ◌++◌, length, take, set, ◌==◌, nat_lt, Result, IsOk, OnOk, OnErr}
use Rattle.std.specs.Io.KnownBytes.{append_known, Appends}
use Rattle.std.specs.declared.option.Option.{Option}
use Rattle.ground.specs.Pick.{pick}
use Rattle.std.specs.Prelude.{codes}
use Rattle.ground.specs.declared.Report.{Report}

-- a buffer, and how many bytes it holds
pub record Filled : Type 0 where
  pub bytes : List ℕ
  pub held : ℕ

abbrev pub filled : List ℕ → ℕ → Filled
filled bs n = record { bytes = bs; held = n }

-- the first byte of a buffer that was written out; one of no bytes holds none
abbrev pub anew : List ℕ → ℕ → Filled
anew [] b = filled [] 0
anew (x ∷ bs) b = filled (b ∷ bs) 1

-- one byte more, and the bytes of a text
unfoldable pub put : Filled → ℕ → Filled
put f b = pick (nat_lt f.held (length f.bytes)) (filled (set f.bytes f.held b) (f.held + 1)) (anew f.bytes b)

unfoldable pub puts : Filled → List ℕ → Filled
puts f [] = f
puts f (b ∷ bs) = puts (put f b) bs

-- no byte of a text comes to a buffer that is just full, so none of it is written out
abbrev pub NeverFull : Filled → List ℕ → Type 0
NeverFull f [] = Unit
NeverFull f (b ∷ s) = (f.held ≡ length f.bytes → ⊥) × NeverFull (put f b) s

-- a text that was begun in a buffer: some of its first bytes were put, and no more
abbrev pub Begun : Filled → List ℕ → Filled → Type 0
Begun f s g = (k : ℕ) × (g ≡ puts f (take k s))

-- the transcript so far, where it is known what the sink holds: that, and behind it what the buffer holds
abbrev pub so_far : Option (List ℕ) → Filled → Option (List ℕ)
so_far known f = append_known known (take f.held f.bytes)

-- a buffer with room, which holds no more bytes than it has
abbrev pub IsSound : Filled → Type 0
IsSound f = (0 < length f.bytes) × (f.held ≤ length f.bytes)

-- a text was told: it stands behind what the transcript was
abbrev pub Told : Option (List ℕ) → Filled → Option (List ℕ) → Filled → List ℕ → Type 0
Told old f new g s = IsSound f → IsSound g × Appends (so_far old f) (so_far new g) s

-- what it comes to that a text is told: on Ok it was put and no byte was lost, and only where a byte comes to a full
-- buffer can the sink fail; then some of the text's first bytes were put
pub record Tells {E : Type 0} (old : Option (List ℕ)) (f : Filled) (new : Option (List ℕ)) (g : Filled) (s : List ℕ) (r : Result (Unit {0}) E) : Type 0 where
  pub held : OnOk r (g ≡ puts f s)
  pub room : NeverFull f s → IsOk r
  pub whole : OnOk r (Told old f new g s)
  pub begun : OnErr r (Begun f s g)

-- a number's decimal digits, with no leading zeros: so many at most
unfoldable pub decimal_text : ℕ → ℕ → List ℕ
decimal_text zero x = []
decimal_text (suc n) x = pick (nat_lt x 10) ((48 + x) ∷ []) (decimal_text n (x / 10) ++ ((48 + x % 10) ∷ []))

-- a text for each number of a list
unfoldable pub joined : (ℕ → List ℕ) → List ℕ → List ℕ
joined text [] = []
joined text (x ∷ xs) = text x ++ joined text xs

-- a word that is a number, and one for each of several; a number of 64 bits has 20 digits at most
unfoldable pub value_text : ℕ → List ℕ
value_text x = 32 ∷ decimal_text 20 x

abbrev pub values_text : List ℕ → List ℕ
values_text xs = joined value_text xs

-- how many pages there are, and each of them
unfoldable pub pages_text : List ℕ → ℕ → List ℕ
pages_text pages n = values_text (n ∷ take n pages)

-- the values of an answer: of its eight places those that count
abbrev pub counted_of : Report → List ℕ
counted_of r = take r.count r.values

-- the words of a refusal: its number, and its values
unfoldable pub refused_text : Report → List ℕ
refused_text r = codes " refused" ++ values_text (r.number ∷ counted_of r)

-- the words of an answer: a refusal's, or the values alone
abbrev pub said_text : Report → List ℕ
said_text r = pick (r.number == 0) (values_text (counted_of r)) (refused_text r)

-- the digit of a value below 16
abbrev pub hex_digit : ℕ → ℕ
hex_digit x = pick (nat_lt x 10) (48 + x) (pick (nat_lt x 16) (97 + (x - 10)) 63)

-- a byte in two digits, several bytes, and a word that is HEX
unfoldable pub pair_text : ℕ → List ℕ
pair_text b = hex_digit (b / 16) ∷ hex_digit (b % 16) ∷ []

abbrev pub pairs_text : List ℕ → List ℕ
pairs_text bs = joined pair_text bs

unfoldable pub hex_text : List ℕ → List ℕ
hex_text [] = codes " -"
hex_text (b ∷ bs) = 32 ∷ pairs_text (b ∷ bs)
