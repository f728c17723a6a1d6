-- Laws on what is lent: the command bytes that are filled, and the parts that are handed back. Assumes nothing.
use Prim.Native.Nat.{ℕ, ◌/◌, ◌%◌, ◌≤◌}
use mathlib.Core.Path.{◌≡◌}
use mathlib.Core.List.{List, [], ◌∷◌, ◌++◌}
use native.Mathlib.Omega.{arith}
use lib.ListN.{length, drop, set}
use borrow.Author.Tests.{le-ltb}
use borrow.Rule.Slice.PartMut.{put_mid}
use Rattle.ground.specs.Bytes.{bytes_low}
use Rattle.wire.specs.declared.Request.{Request}
use Rattle.wire.specs.Wire.{filled_for, filled_in}

-- a command's byte, and a number's four bytes copied behind it
pub five : (l : List ℕ) (op n : ℕ) → 5 ≤ length l
    → put_mid 1 4 (set l 0 op) (n % 256 ∷ n / 256 % 256 ∷ n / 65536 % 256 ∷ n / 16777216 % 256 ∷ []) ≡ op ∷ (bytes_low 4 n ++ drop 5 l)
unfolding bytes_low
five (a ∷ b ∷ c ∷ d ∷ e ∷ l) op n h =
    let p : n / 65536 ≡ n / 256 / 256 = omega arith in
    let q : n / 16777216 ≡ n / 256 / 256 / 256 = omega arith in
    rw (p, q)
five _ op n h = absurd (omega arith)

-- five bytes or more are filled
pub roomy : (q : Request) (cmd : List ℕ) → 5 ≤ length cmd → filled_in q cmd ≡ filled_for q cmd
roomy q cmd h = rw (le-ltb (length cmd) 5 h)
