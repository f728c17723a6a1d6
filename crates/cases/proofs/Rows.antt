-- A buffer that is filled from the front, a number a turn. Assumes nothing.
use Prim.Native.Nat.{ℕ, ◌+◌, ◌<◌, ◌≤◌}
use mathlib.Core.Path.{◌≡◌, ◌∙◌}
use mathlib.Core.List.{List, [], ◌∷◌, ◌++◌, append_assoc, append-nil}
use native.Mathlib.Numerals.{add-one}
use lib.ListN.{length, take, drop, set}
use lib.Seq.{take_all, take-suc-set, drop-set-lt}
use native.Mathlib.Omega.{arith}

-- one number more stands in front, whatever is behind it
pub more : (bs : List ℕ) (n b : ℕ) (rest : List ℕ) → n < length bs → take (n + 1) (set bs n b) ++ rest ≡ take n bs ++ (b ∷ rest)
more bs n b rest h = rw (add-one, take-suc-set bs n b h, append_assoc)

-- what is behind it is as it was
pub later : (bs : List ℕ) (n b : ℕ) → drop (n + 1) (set bs n b) ≡ drop (n + 1) bs
later bs n b = drop-set-lt (n + 1) bs n b (omega arith)

-- all of a buffer
pub whole : (bs : List ℕ) (n : ℕ) → length bs ≤ n → take n bs ++ [] ≡ bs
whole bs n h = append-nil (take n bs) ∙ take_all n bs h
