-- What the reader of usual texts answers: of any other text it says nothing.
use Rattle.std.specs.Prelude.{◌≡◌, ℕ, ◌+◌, ◌<◌, ◌≤◌, List, length, take, drop, replicate, ◌≢◌, slice_index, slice_range, Option, Some, None, Ok}
use Rattle.std.specs.List.{flat_map}
use Rattle.numeral.specs.Number.{read_on}
use Rattle.memory_layout.specs.declared.Run.{Run}
use Rattle.memory_layout.specs.declared.usual.Scanned.{Scanned}
use Rattle.memory_layout.specs.declared.usual.Usual.{Usual}
use Rattle.memory_layout.specs.declared.usual.Quick.{Quick}
use Rattle.memory_layout.specs.Layout.{up_to, end_of, split, with_pages, piece_of, pieces, sizes}

-- digits that read as a value stand from a place to another, and no comma and no star is among them
abbrev pub ReadAt : List ℕ → ℕ → ℕ → ℕ → Type 0
ReadAt s from to v =
    (from ≤ to) × (to ≤ length s) × (read_on 10 (slice_range s from to) 0 ≡ Some v) × (end_of 44 s from ≡ end_of 44 s to) × (end_of 42 s from ≡ end_of 42 s to)

-- at least one digit
abbrev pub ScannedAt : List ℕ → ℕ → Option Scanned → Type 0
ScannedAt s from None = Unit
ScannedAt s from (Some r) = (from < r.end) × ReadAt s from r.end r.value

-- a unit and a type at a place, and no byte of the piece after them
abbrev pub EndsAt : List ℕ → ℕ → Type 0
EndsAt s end = (end + 2 ≤ length s) × (slice_index s end ≢ 44) × (slice_index s (end + 1) ≢ 44) × (end_of 44 s (end + 2) ≡ end + 2)

-- the piece at a place, and where it ends
abbrev pub UsualAt : List ℕ → ℕ → Option Usual → Type 0
UsualAt s a None = Unit
UsualAt s a (Some r) = (r.end ≡ end_of 44 s a) × (piece_of (up_to 44 (drop a s)) a ≡ Ok r.run)

-- the pages of runs
abbrev pub laid : List Run → List ℕ
laid runs = flat_map (λ run. replicate run.count run.size) runs

-- the text is accepted with so many pages, and the runs lay them out
abbrev pub QuickIn : List ℕ → ℕ → List Run → Option Quick → Type 0
QuickIn s room runs None = Unit
QuickIn s room runs (Some r) =
    (pieces room (split s) 0 0 ≡ Ok (with_pages r.pages))
    × (r.runs ≤ length runs)
    × (laid (take r.runs runs) ≡ sizes (split s) 0)
    × (length (laid (take r.runs runs)) ≡ r.pages)
    × (r.pages ≤ room)
