-- What a layout text reads as: document 01, 'The interface string'.
use Rattle.std.specs.Prelude.{ℕ, ◌+◌, ◌-◌, ◌*◌, min, List, [], ◌∷◌, ◌++◌, length, take, drop, replicate, ◌==◌, nat_lt, slice_index, Option, Some, None, Result, Ok, Err}
use Rattle.ground.specs.Pick.{pick}
use Rattle.ground.specs.Said.{Said, says, said_result}
use Rattle.numeral.specs.Number.{number_of}
use Rattle.memory_layout.specs.declared.Error.{Error}
use Rattle.memory_layout.specs.declared.Run.{Run}
use Rattle.memory_layout.specs.declared.MemoryLayout.{MemoryLayout}

-- the limits of 22 and 20
abbrev pub max_pages : ℕ
max_pages = 4096

abbrev pub max_text : ℕ
max_text = 1024

-- the bytes before the first x, or all
unfoldable pub up_to : ℕ → List ℕ → List ℕ
up_to x [] = []
up_to x (c ∷ cs) = pick (c == x) [] (c ∷ up_to x cs)

-- the place of the first x at or after a, or the length
unfoldable pub end_of : ℕ → List ℕ → ℕ → ℕ
end_of x s a = a + length (up_to x (drop a s))

-- pieces are split at commas, an empty text being one empty piece
abbrev pub push : ℕ → List (List ℕ) → List (List ℕ)
push c [] = (c ∷ []) ∷ []
push c (p ∷ ps) = (c ∷ p) ∷ ps

unfoldable pub split : List ℕ → List (List ℕ)
split [] = [] ∷ []
split (c ∷ cs) = pick (c == 44) ([] ∷ split cs) (push c (split cs))

-- what a unit multiplies by, `K`, `M`, `B` or a space
abbrev pub factor_of : ℕ → Option ℕ
factor_of c = pick (c == 75) (Some 1024) (pick (c == 77) (Some 1048576) (pick (c == 66) (Some 1) (pick (c == 32) (Some 1) None)))

-- so many pages of a size, and a layout of so many pages
abbrev pub run_of : ℕ → ℕ → Run
run_of count size = record { count = count; size = size }

abbrev pub with_pages : ℕ → MemoryLayout
with_pages n = record { pages = n }

-- the unit at a place (12), and the size times it below 2^32 (21)
unfoldable pub scaled : ℕ → ℕ → Option ℕ → ℕ → Result Run Error
scaled count size None at = Err (Error.InvalidPrefix at 1)
scaled count size (Some factor) at = pick (nat_lt 4294967295 (size * factor)) (Err Error.PageTooLarge) (Ok (run_of count (size * factor)))

-- the size (11), all but the last two bytes after the star, which stand from a place on
abbrev pub sized : ℕ → Option ℕ → List ℕ → ℕ → Result Run Error
sized count None rest at = Err (Error.ParseErrorPageSize at (length rest - 2))
sized count (Some size) rest at = scaled count size (factor_of (slice_index rest (length rest - 2))) (at + (length rest - 2))

-- the count (10), a text from a place on, before the size
abbrev pub counted : Option ℕ → List ℕ → List ℕ → ℕ → Result Run Error
counted None count rest at = Err (Error.ParseErrorPageCount at (length count))
counted (Some n) count rest at = sized n (number_of 10 (take (length rest - 2) rest)) rest (at + (length count + 1))

-- under two bytes after the first star (11), before the count
unfoldable pub starred : List ℕ → List ℕ → ℕ → Result Run Error
starred count rest at =
    pick (nat_lt (length rest) 2) (Err (Error.ParseErrorPageSize (at + (length count + 1)) (length rest))) (counted (number_of 10 count) count rest at)

-- a piece from a place on: no star is 9
unfoldable pub piece_of : List ℕ → ℕ → Result Run Error
piece_of p at =
    pick (length (up_to 42 p) == length p) (Err (Error.InvalidPageFormat at (length p))) (starred (up_to 42 p) (drop (length (up_to 42 p) + 1) p) at)

-- n pages so far, and those of a piece: over what there is room for is 22
abbrev pub onward : ℕ → ℕ → Result Run Error → (ℕ → Result MemoryLayout Error) → Result MemoryLayout Error
onward room n (Err e) more = Err e
onward room n (Ok run) more = pick (nat_lt room (n + run.count)) (Err Error.TooManyPages) (more (n + run.count))

-- the pieces in order, up to the first fault
unfoldable pub pieces : ℕ → List (List ℕ) → ℕ → ℕ → Result MemoryLayout Error
pieces room [] at n = Ok (with_pages n)
pieces room (p ∷ ps) at n = onward room n (piece_of p at) (λ m. pieces room ps (at + length p + 1) m)

-- a text for a store of so many numbers; over 1,024 bytes is 20, first
unfoldable pub checked : ℕ → List ℕ → Result MemoryLayout Error
checked store text = pick (nat_lt max_text (length text)) (Err Error.TextTooLong) (pieces (min store max_pages) (split text) 0 0)

-- the page sizes of pieces
abbrev pub pages_of : Result Run Error → List ℕ
pages_of (Ok run) = replicate run.count run.size
pages_of (Err e) = []

unfoldable pub sizes : List (List ℕ) → ℕ → List ℕ
sizes [] at = []
sizes (p ∷ ps) at = pages_of (piece_of p at) ++ sizes ps (at + length p + 1)

-- the answer, and the store after it: the pages first, later numbers untouched; a refusal leaves all of it
pub record Done : Type 0 where
  pub answer : Result MemoryLayout Error
  pub store : List ℕ

abbrev pub done : Result MemoryLayout Error → List ℕ → Done
done r store = record { answer = r; store = store }

abbrev pub stored_by : Result MemoryLayout Error → List ℕ → List ℕ → List ℕ
stored_by (Ok layout) text store = sizes (split text) 0 ++ drop layout.pages store
stored_by (Err e) text store = store

unfoldable pub layout_of : List ℕ → List ℕ → Done
layout_of text store = done (checked (length store) text) (stored_by (checked (length store) text) text store)

-- document 01's number and values for each answer
abbrev pub said_error : Error → Said
said_error (Error.InvalidPageFormat at len) = says 9 (at ∷ len ∷ [])
said_error (Error.ParseErrorPageCount at len) = says 10 (at ∷ len ∷ [])
said_error (Error.ParseErrorPageSize at len) = says 11 (at ∷ len ∷ [])
said_error (Error.InvalidPrefix at len) = says 12 (at ∷ len ∷ [])
said_error Error.TextTooLong = says 20 []
said_error Error.PageTooLarge = says 21 []
said_error Error.TooManyPages = says 22 []

abbrev pub said_layout : MemoryLayout → Said
said_layout layout = says 0 (layout.pages ∷ [])

abbrev pub said_of : Result MemoryLayout Error → Said
said_of = said_result said_layout said_error
