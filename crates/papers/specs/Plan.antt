-- The download requests of an update as DFU 1.1 and ST's DfuSe lay them out: what goes over the wire, in order, said without a session.
use Rattle.std.specs.Prelude.{ℕ, zero, suc, ◌+◌, ◌*◌, ◌/◌, ◌%◌, min, Bool, List, [], ◌∷◌, ◌++◌, length, take, drop, ◌==◌, nat_lt}
use Rattle.ground.specs.Pick.{pick}
use Rattle.papers.specs.Requests.{SetupPacket, DFU_DNLOAD}
use Rattle.papers.specs.Dfuse.{erase_command, set_address_command}

-- a DFU_DNLOAD on the wire: its setup packet and its data
pub record Dnload : Type 0 where
  pub setup : SetupPacket
  pub bytes : List ℕ

abbrev pub dnload : ℕ → List ℕ → Dnload
dnload block bytes = record { setup = DFU_DNLOAD block (length bytes); bytes = bytes }

-- the leading pages in which a byte of the target lies: each that begins, `at` bytes behind the target's first, before its end
unfoldable pub leading : ℕ → ℕ → List ℕ → List ℕ
leading at len [] = []
leading at len (p ∷ ps) = pick (nat_lt at len) (p ∷ leading (at + p) len ps) []

abbrev pub pages_for : ℕ → List ℕ → List ℕ
pages_for len pages = leading 0 len pages

-- as many full blocks as fit, and one more for what is left; none of size 0
unfoldable pub blocks_for : ℕ → ℕ → ℕ
blocks_for len size = pick (size == 0) 0 (len / size + min 1 (len % size))

-- an erase for each page, from a position on
unfoldable pub erasing : ℕ → List ℕ → List Dnload
erasing at [] = []
erasing at (p ∷ ps) = dnload 0 (erase_command at) ∷ erasing (at + p) ps

-- how many bytes the pages have together
unfoldable pub sum : List ℕ → ℕ
sum [] = 0
sum (p ∷ ps) = p + sum ps

-- f at from, from + 1, .., n of them
unfoldable pub several {ℓ} : {A : Type ℓ} → (ℕ → A) → ℕ → ℕ → List A
several f from zero = []
several f from (suc n) = f from ∷ several f (suc from) n

-- block i: its number, from 2 (DfuSe) or 0 (plain) on, 65,535 followed by 0; and its bytes
abbrev pub block_number : Bool → ℕ → ℕ
block_number dfuse i = (pick dfuse 2 0 + i) % 65536

abbrev pub bytes_of : ℕ → List ℕ → ℕ → List ℕ
bytes_of size firmware i = take size (drop (i * size) firmware)

-- the bytes of all blocks, in order
unfoldable pub joined : List (List ℕ) → List ℕ
joined [] = []
joined (b ∷ bs) = b ++ joined bs

unfoldable pub block_of : Bool → ℕ → List ℕ → ℕ → Dnload
block_of dfuse size firmware i = dnload (block_number dfuse i) (bytes_of size firmware i)

-- the blocks, then the empty one
abbrev pub sending : Bool → ℕ → List ℕ → List Dnload
sending dfuse size firmware =
    several (block_of dfuse size firmware) 0 (blocks_for (length firmware) size)
    ++ (dnload (block_number dfuse (blocks_for (length firmware) size)) [] ∷ [])

-- DfuSe: an erase for each of the leading layout pages that cover the target, from its address on, and one address set; then, as in plain DFU, the blocks
unfoldable pub plan : Bool → ℕ → ℕ → List ℕ → List ℕ → List Dnload
plan dfuse address size firmware pages =
    pick dfuse (erasing address (pages_for (length firmware) pages) ++ (dnload 0 (set_address_command address) ∷ [])) []
    ++ sending dfuse size firmware

-- how many they are: P + B + 2 for DfuSe, B + 1 for plain DFU
abbrev pub commands : Bool → ℕ → ℕ → List ℕ → ℕ
commands dfuse length-of-firmware size pages =
    pick dfuse (length (pages_for length-of-firmware pages) + blocks_for length-of-firmware size + 2) (blocks_for length-of-firmware size + 1)
