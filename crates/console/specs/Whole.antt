-- What a caller's function said of a reading.
use Rattle.std.specs.Prelude.{◌≡◌, ℕ, ◌⊎◌, Bool, List, length, Option, Result, Ok, Err, IfOk}
use Rattle.std.specs.Borrow.{MutBor}
use Rattle.std.specs.Fn.{Once}
use Rattle.std.specs.Io.KnownBytes.{Consumes, IsAtEnd}

-- asked about a file from which these bytes came, and whether it ended there (Ok) or a read failed (Err), the function gave this answer; where
-- the file's bytes are known, these were its next ones, and at Ok its last
pub record Said {F W : Type 0} (calls : Once W (MutBor F × (Result ℕ ℕ × Unit {0})) (Bool × (MutBor F × Unit {0}))) (remaining : F → Option (List ℕ)) (is_whole : W) (before : F) (bytes : List ℕ) (answer : Bool) : Type 0 where
  pub filled : Result ℕ ℕ
  pub counted : (filled ≡ Ok (length bytes)) ⊎ (filled ≡ Err (length bytes))
  pub shown : MutBor F
  pub came : Consumes (remaining before) (remaining shown.now) bytes
  pub ended : IfOk filled (λ _. IsAtEnd (remaining shown.now))
  pub left : MutBor F
  pub met : calls.post is_whole (shown, (filled, tt)) (answer, (left, tt))
