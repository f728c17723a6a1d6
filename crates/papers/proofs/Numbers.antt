-- Laws of the plan's blocks: what their numbers mean, and how long they are. Assumes nothing.
use Prim.Native.Nat.{ℕ, ◌+◌, ◌-◌, ◌*◌, ◌≤◌, min}
use native.Mathlib.Omega.{arith}
use mathlib.Core.Path.{◌≡◌, ap}
use mathlib.Core.Bool.{true}
use mathlib.Core.List.{List}
use lib.ListN.{length, drop, length-take, length-drop}
use Rattle.papers.specs.Dfuse.{block_address}
use Rattle.papers.specs.Plan.{block_number, bytes_of}

-- DfuSe: up to 65,533 blocks no number wraps, and so each block is written where its bytes belong
pub block_number_lem : (i : ℕ) → i ≤ 65533 → block_number true i ≡ 2 + i
block_number_lem i h = omega arith

pub block_address_lem : (address size i : ℕ) → i ≤ 65533 → block_address address size (block_number true i) ≡ address + i * size
block_address_lem address size i h =
    let z : block_number true i - 2 ≡ i = omega (arith, block_number_lem i h) in
    ap (λ (x : ℕ). address + x * size) z

-- a block is full, or has what is left
pub block_length_lem : (size : ℕ) (fw : List ℕ) (i : ℕ) → length (bytes_of size fw i) ≡ min size (length fw - i * size)
block_length_lem size fw i = omega (arith, length-take size (drop (i * size) fw), length-drop (i * size) fw)
