-- The elements and the targets of a file as parts of it, in the file's order.
use Rattle.std.specs.Prelude.{ℕ, ◌+◌, List, [], ◌∷◌, ◌++◌, length, take, drop, ◌==◌, slice_get, Option, Some, None, Result, Ok, Err}
use Rattle.ground.specs.Pick.{pick}
use Rattle.papers.specs.Um0391 as paper
use Rattle.papers.specs.Um0391.{elements_of}
use Rattle.dfuse_file.specs.declared.Element.{Element}
use Rattle.dfuse_file.specs.declared.Target.{Target}
use Rattle.dfuse_file.specs.declared.Dfuse.{Dfuse}
use Rattle.dfuse_file.specs.declared.error.Error.{Error}
use Rattle.dfuse_file.specs.Reading.{Held, dfuse_in}

-- an element whose header begins at a place, in a target with an index and a setting
abbrev pub placed : ℕ → ℕ → ℕ → paper.Element → Element
placed index setting at e = record { target = index; setting = setting; address = e.dw_element_address; place = at + 8; size = length e.Data }

unfoldable pub placed_in : ℕ → ℕ → ℕ → List paper.Element → List Element
placed_in index setting at [] = []
placed_in index setting at (e ∷ es) = placed index setting at e ∷ placed_in index setting (at + (8 + length e.Data)) es

-- those of all targets from an index on, of which the first begins at a place
unfoldable pub placed_all : ℕ → ℕ → List paper.Target → List Element
placed_all index at [] = []
placed_all index at (t ∷ ts) =
    placed_in index t.b_alternate_setting (at + 274) t.elements ++ placed_all (index + 1) (at + (274 + length (elements_of t.elements))) ts

-- a target that begins at a place, with the index of its first element; its name begins 11 bytes on
abbrev pub placed_target : ℕ → ℕ → paper.Target → Target
placed_target first at t =
    record { setting = t.b_alternate_setting; named = t.b_target_named; elements = length t.elements; first = first; place = at + 11 }

unfoldable pub placed_targets : ℕ → ℕ → List paper.Target → List Target
placed_targets first at [] = []
placed_targets first at (t ∷ ts) =
    placed_target first at t ∷ placed_targets (first + length t.elements) (at + (274 + length (elements_of t.elements))) ts

-- of a file: the first target begins after the prefix of 11 bytes; a file that is refused has none
abbrev pub elements_held : Result Held Error → List Element
elements_held (Ok h) = placed_all 0 11 h.targets
elements_held (Err e) = []

abbrev pub targets_held : Result Held Error → List Target
targets_held (Ok h) = placed_targets 0 11 h.targets
targets_held (Err e) = []

-- what the reader answers
abbrev pub summed : Held → Dfuse
summed h = record { targets = length h.targets; elements = length (placed_all 0 11 h.targets); counted = h.counted; identities = h.identities; crc = h.crc }

abbrev pub read_of : Result Held Error → Result Dfuse Error
read_of (Ok h) = Ok (summed h)
read_of (Err e) = Err e

-- what stands at an index of a list
unfoldable pub element_at : ℕ → List ℕ → Option Element
element_at i f = slice_get (elements_held (dfuse_in f)) i

unfoldable pub target_at : ℕ → List ℕ → Option Target
target_at i f = slice_get (targets_held (dfuse_in f)) i

-- the bytes of an element; none where there is no element
abbrev pub part_of : List ℕ → Option Element → List ℕ
part_of f (Some e) = take e.size (drop e.place f)
part_of f None = []

unfoldable pub part_at : ℕ → List ℕ → List ℕ
part_at i f = part_of f (element_at i f)

-- a name: all before the first zero
unfoldable pub name_in : List ℕ → List ℕ
name_in [] = []
name_in (b ∷ bs) = pick (b == 0) [] (b ∷ name_in bs)

abbrev pub name_of : List ℕ → Option Target → List ℕ
name_of f (Some t) = name_in (take 255 (drop t.place f))
name_of f None = []

unfoldable pub name_at : ℕ → List ℕ → List ℕ
name_at i f = name_of f (target_at i f)
