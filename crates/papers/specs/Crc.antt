-- DFU 1.1, appendix B: the CRC-32 of a file, a bit at a time.
use Rattle.std.specs.Prelude.{ℕ, ◌/◌, ◌%◌, List, [], ◌∷◌, ◌==◌}
use Rattle.std.specs.Int.Bits.{bit_xor}
use Rattle.ground.specs.Pick.{pick}

abbrev pub polynomial : ℕ
polynomial = 0xEDB88320

-- one bit: the register is shifted right, and where a 1 fell out the polynomial is added
unfoldable pub shifted : ℕ → ℕ
shifted c = pick ((c % 2) == 1) (bit_xor polynomial (c / 2)) (c / 2)

-- the eight bits of a byte
unfoldable pub eight : ℕ → ℕ
eight c = shifted (shifted (shifted (shifted (shifted (shifted (shifted (shifted c)))))))

-- the register after bytes: each is added at its low end, and then shifted through
unfoldable pub crc : ℕ → List ℕ → ℕ
crc c [] = c
crc c (b ∷ bs) = crc (eight (bit_xor c b)) bs

-- it starts as all ones, and is stored as it is: no final inversion
abbrev pub crc_of : List ℕ → ℕ
crc_of bytes = crc 0xFFFFFFFF bytes
