-- What a reading brought.
use Rattle.std.specs.Prelude.{ℕ, ◌≤◌, List, length, take, Option}
use Rattle.std.specs.Io.KnownBytes.{Consumes}

-- n bytes, the first of the space; where the reader's bytes are known, they were its next ones
abbrev pub Came : Option (List ℕ) → Option (List ℕ) → List ℕ → ℕ → Type 0
Came before after space n = (n ≤ length space) × Consumes before after (take n space)
