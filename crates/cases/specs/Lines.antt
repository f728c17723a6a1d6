-- What a turn through a piece of the input makes of the place and of the line.
use Rattle.std.specs.Prelude.{ℕ, ◌≡◌, ◌<◌, ◌≤◌, ◌+◌, ◌-◌, true, false, List, [], ◌∷◌, length, take, drop, set, ◌==◌, nat_lt}
use Rattle.std.specs.Io.KnownBytes.{Consumes, IsAtEnd}
use Rattle.std.specs.declared.option.Option.{Option}
use Rattle.ground.specs.Pick.{pick}
use Rattle.cases.specs.Output.{Filled, filled}
use Rattle.cases.specs.declared.lines.Place.{Place}

-- before any input: no run uses up so many turns
abbrev pub outset : Place
outset = record { from = 0; end = 0; len = 0; whole = false; turns = 18446744073709551615 }

-- what is left of a piece
unfoldable pub left_of : List ℕ → ℕ → ℕ → List ℕ
left_of input from end = take (end - from) (drop from input)

-- the bytes before the first newline, or all
unfoldable pub up_to : List ℕ → List ℕ
up_to [] = []
up_to (c ∷ cs) = pick (c == 10) [] (c ∷ up_to cs)

-- bytes behind those that a buffer holds, as far as they fit
unfoldable pub adds : Filled → List ℕ → Filled
adds f [] = f
adds f (b ∷ bs) = pick (nat_lt f.held (length f.bytes)) (adds (filled (set f.bytes f.held b) (f.held + 1)) bs) f

-- a turn begins: one less is left, and a whole line gives way to an empty one
abbrev pub kept_of : Place → ℕ
kept_of p = pick p.whole 0 p.len

abbrev pub begun_of : Place → Place
begun_of p = record { from = p.from; end = p.end; len = kept_of p; whole = false; turns = p.turns - 1 }

-- a piece of so many bytes was read: none at the input's end, where the line is whole and no turn is left
abbrev pub refilled_of : Place → ℕ → Place
refilled_of p got =
    pick (got == 0)
    (record { from = 0; end = 0; len = p.len; whole = true; turns = 0 })
    (record { from = 0; end = got; len = p.len; whole = false; turns = p.turns })

-- the place after it; the piece is the next of the reader's bytes, where those are known, and empty only at their end
abbrev pub Reads : Option (List ℕ) → Option (List ℕ) → Place → List ℕ → Place → Type 0
Reads old new p input q =
    (q ≡ refilled_of p q.end)
    × (q.end ≤ length input)
    × Consumes old new (take q.end input)
    × (q.end ≡ 0 → 0 < length input → IsAtEnd new)

-- a place, and the line's buffer
pub record Passed : Type 0 where
  pub place : Place
  pub line : List ℕ

abbrev pub passes : Place → List ℕ → Passed
passes p line = record { place = p; line = line }

-- the bytes up to a newline join the line, which is whole where there is one
abbrev pub stopped : Place → ℕ → Filled → Passed
stopped p stop f =
    passes
    (pick (nat_lt stop p.end)
    (record { from = stop + 1; end = p.end; len = f.held; whole = true; turns = p.turns })
    (record { from = p.end; end = p.end; len = f.held; whole = false; turns = p.turns }))
    f.bytes

unfoldable pub passed_of : Place → List ℕ → List ℕ → Passed
passed_of p input line =
    stopped p (p.from + length (up_to (left_of input p.from p.end))) (adds (filled line p.len) (up_to (left_of input p.from p.end)))
