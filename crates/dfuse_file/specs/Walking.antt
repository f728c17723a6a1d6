-- What the walk over a file keeps: how many elements it has met, and the element and the target with the wanted index.
use Rattle.std.specs.Prelude.{ℕ, ◌+◌, ◌-◌, List, [], ◌∷◌, length, ◌==◌, nat_lt, slice_index, slice_get, Some, None, Result, Ok, Err}
use Rattle.ground.specs.Pick.{pick}
use Rattle.ground.specs.Bytes.{field, prefix}
use Rattle.papers.specs.Um0391 as paper
use Rattle.papers.specs.Um0391.{elements_of, sz_target}
use Rattle.dfuse_file.specs.declared.error.Error.{Error}
use Rattle.dfuse_file.specs.declared.Element.{Element}
use Rattle.dfuse_file.specs.declared.Target.{Target}
use Rattle.dfuse_file.specs.declared.walk.Tally.{Tally}
use Rattle.dfuse_file.specs.declared.walk.Survey.{Survey}
use Rattle.dfuse_file.specs.Reading.{Got, Held}
use Rattle.dfuse_file.specs.Placed.{placed_in, placed_all, placed_target, placed_targets, summed}

-- nothing met yet
abbrev pub fresh : ℕ → Tally
fresh wanted = record { wanted = wanted; seen = 0; element = None; target = None }

-- an element is met
abbrev pub met_of : Tally → Element → Tally
met_of t e = record { wanted = t.wanted; seen = t.seen + 1; element = pick (t.seen == t.wanted) (Some e) t.element; target = t.target }

unfoldable pub met_all : Tally → List Element → Tally
met_all t [] = t
met_all t (e ∷ es) = met_all (met_of t e) es

-- a target is come to
abbrev pub came_of : Tally → ℕ → Target → Tally
came_of t index u = record { wanted = t.wanted; seen = t.seen; element = t.element; target = pick (index == t.wanted) (Some u) t.target }

-- the target whose prefix begins at a place of a file with the bytes s
abbrev pub target_in : ℕ → ℕ → List ℕ → Target
target_in first at s = record { setting = slice_index s 6; named = field 7 4 s; elements = field 270 4 s; first = first; place = at + 11 }

-- its prefix's tests, 55 to 57
abbrev pub head_in : ℕ → List ℕ → Result ℕ Error
head_in at s =
    pick (nat_lt (length s) 274) (Err (Error.TargetTooShort at))
    (pick (prefix sz_target s)
    (pick (nat_lt (length s - 274) (field 266 4 s)) (Err (Error.TargetTooLong at)) (Ok (field 266 4 s)))
    (Err (Error.NoTarget at)))

-- an element's, 58 and 59
abbrev pub size_in : ℕ → List ℕ → Result ℕ Error
size_in at s =
    pick (nat_lt (length s) 8) (Err (Error.ElementTooShort at))
    (pick (nat_lt (length s - 8) (field 4 4 s)) (Err (Error.ElementTooLong at)) (Ok (field 4 4 s)))

-- the walk over a target's elements
abbrev pub walked_of : ℕ → ℕ → Tally → ℕ → Got paper.Element → Result Tally Error
walked_of index setting t at (Ok es) = Ok (met_all t (placed_in index setting at es))
walked_of index setting t at (Err e) = Err e

-- and over targets
unfoldable pub tallied_all : ℕ → Tally → ℕ → List paper.Target → Tally
tallied_all index t at [] = t
tallied_all index t at (u ∷ us) =
    tallied_all (index + 1)
    (met_all (came_of t index (placed_target t.seen at u)) (placed_in index u.b_alternate_setting (at + 274) u.elements))
    (at + (274 + length (elements_of u.elements)))
    us

abbrev pub walked_all : ℕ → Tally → ℕ → Got paper.Target → Result Tally Error
walked_all index t at (Ok us) = Ok (tallied_all index t at us)
walked_all index t at (Err e) = Err e

-- what the walk over a whole file ends with
abbrev pub survey_of : ℕ → Result Held Error → Result Survey Error
survey_of wanted (Ok h) = Ok (record { dfuse = summed h; element = slice_get (placed_all 0 11 h.targets) wanted; target = slice_get (placed_targets 0 11 h.targets) wanted })
survey_of wanted (Err e) = Err e
