-- ST's UM0424: the interface string of a DfuSe device, @NAME/0xADDRESS/COUNT*SIZEuT,COUNT*SIZEuT,.. Nothing of ours is used here.
use Rattle.std.specs.Prelude.{ℕ, zero, suc, ◌+◌, ◌*◌, ◌/◌, ◌%◌, ◌^◌, ◌<◌, ◌≤◌, List, [], ◌∷◌, ◌++◌, Bool, true, false, replicate, nat_lt}

-- a digit's glyph: `0` to `9`, then `A` to `F`
abbrev pub either : Bool → ℕ → ℕ → ℕ
either true a b = a
either false a b = b

abbrev pub glyph : ℕ → ℕ
glyph d = either (nat_lt d 10) (48 + d) (55 + d)

-- a number in a base, with so many digits, the highest first
unfoldable pub digits : ℕ → ℕ → ℕ → List ℕ
digits base zero n = []
digits base (suc w) n = digits base w (n / base) ++ (glyph (n % base) ∷ [])

-- a decimal number as it is printed: the paper has 2 digits for a count and 3 for a size, devices also print others
pub record Numeral : Type 0 where
  pub value : ℕ
  pub width : ℕ

abbrev pub decimal : Numeral → List ℕ
decimal n = digits 10 n.width n.value

abbrev pub Fits : Numeral → Type 0
Fits n = (0 < n.width) × (n.value < 10 ^ n.width)

-- the unit of a size
pub data Multiplier : Type 0 where
  bytes : Multiplier
  kilo : Multiplier
  mega : Multiplier

abbrev pub letter : Multiplier → ℕ
letter bytes = 66
letter kilo = 75
letter mega = 77

abbrev pub times : Multiplier → ℕ
times bytes = 1
times kilo = 1024
times mega = 1048576

-- a region: so many pages of a size, and a letter for what may be done with them, `a` to `g`
pub record Region : Type 0 where
  pub count : Numeral
  pub size : Numeral
  pub unit : Multiplier
  pub type : ℕ

abbrev pub region : Region → List ℕ
region r = decimal r.count ++ (42 ∷ (decimal r.size ++ (letter r.unit ∷ r.type ∷ [])))

-- one region, and more behind commas
unfoldable pub regions : Region → List Region → List ℕ
regions r [] = region r
regions r (q ∷ qs) = region r ++ (44 ∷ regions q qs)

-- the whole string, with one address and its layout: `@`, the name, `/0x`, eight hex digits, `/`, the regions
abbrev pub string : List ℕ → ℕ → Region → List Region → List ℕ
string name address r qs = 64 ∷ (name ++ (47 ∷ 48 ∷ 120 ∷ (digits 16 8 address ++ (47 ∷ regions r qs))))

-- what it announces: the pages' sizes in order
abbrev pub pages : Region → List ℕ
pages r = replicate r.count.value (r.size.value * times r.unit)

unfoldable pub all_pages : Region → List Region → List ℕ
all_pages r [] = pages r
all_pages r (q ∷ qs) = pages r ++ all_pages q qs

-- a region whose numbers have the digits they are printed with, and whose type is a letter `a` to `g`
abbrev pub Printable : Region → Type 0
Printable r = Fits r.count × Fits r.size × (97 ≤ r.type) × (r.type ≤ 103)
