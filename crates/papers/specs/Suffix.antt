-- DFU 1.1, appendix B: a file with a suffix, byte for byte. Of ours only the CRC is used here, which is the appendix's too.
use Rattle.std.specs.Prelude.{ℕ, ◌/◌, ◌%◌, List, [], ◌∷◌, ◌++◌}
use Rattle.papers.specs.Crc.{crc_of}

pub record Ids : Type 0 where
  pub bcd_device : ℕ
  pub id_product : ℕ
  pub id_vendor : ℕ
  pub bcd_dfu : ℕ

-- numbers of two and of four bytes, the low byte first
abbrev pub two : ℕ → List ℕ
two n = n % 256 ∷ n / 256 ∷ []

abbrev pub four : ℕ → List ℕ
four n = n % 256 ∷ n / 256 % 256 ∷ n / 65536 % 256 ∷ n / 16777216 ∷ []

-- the suffix up to its CRC: the identities, `U`, `F`, `D`, and bLength
abbrev pub opening : Ids → List ℕ
opening i = two i.bcd_device ++ two i.id_product ++ two i.id_vendor ++ two i.bcd_dfu ++ (0x55 ∷ 0x46 ∷ 0x44 ∷ 16 ∷ [])

-- dw_crc is over every byte before it
abbrev pub dw_crc : List ℕ → Ids → ℕ
dw_crc firmware i = crc_of (firmware ++ opening i)

abbrev pub file_of : List ℕ → Ids → List ℕ
file_of firmware i = firmware ++ (opening i ++ four (dw_crc firmware i))
