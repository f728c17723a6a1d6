-- ST's DfuSe (UM0424, AN3156): the commands that a DFU_DNLOAD with w_value 0 carries, and the address that a block means. Nothing of ours is used here.
use Rattle.std.specs.Prelude.{ℕ, ◌+◌, ◌-◌, ◌*◌, ◌/◌, ◌%◌, List, [], ◌∷◌}

-- an address, low byte first
abbrev pub four_bytes : ℕ → List ℕ
four_bytes a = a % 256 ∷ a / 256 % 256 ∷ a / 65536 % 256 ∷ a / 16777216 % 256 ∷ []

-- erase the page at an address; set the address pointer
abbrev pub erase_command : ℕ → List ℕ
erase_command a = 0x41 ∷ four_bytes a

abbrev pub set_address_command : ℕ → List ℕ
set_address_command a = 0x21 ∷ four_bytes a

-- block n, from 2 on, is written at the pointer plus (n - 2) times the transfer size
abbrev pub block_address : ℕ → ℕ → ℕ → ℕ
block_address pointer size n = pointer + (n - 2) * size
