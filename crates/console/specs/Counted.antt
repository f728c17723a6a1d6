-- A number with its noun.
use Rattle.std.specs.Prelude.{ℕ, List, ◌∷◌, ◌++◌, ◌==◌, if◌then◌else◌}
use Rattle.std.specs.Fmt.{decimal}

-- the number in decimal, a blank (32), and the noun: the first for 1, else the second
abbrev pub counted_text : ℕ → List ℕ → List ℕ → List ℕ
counted_text n one many = decimal n ++ 32 ∷ (if n == 1 then one else many)
