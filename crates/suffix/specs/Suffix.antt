-- What a file is by its suffix: document 02, W1.
use Rattle.std.specs.Prelude.{ℕ, ◌-◌, List, [], ◌∷◌, length, take, drop, ◌==◌, nat_lt, slice_index, codes, Result, Ok, Err}
use Rattle.ground.specs.Pick.{pick}
use Rattle.ground.specs.Said.{Said, says, said_result}
use Rattle.ground.specs.Bytes.{field, prefix}
use Rattle.papers.specs.Crc.{crc_of}
use Rattle.suffix.specs.declared.Identities.{Identities}
use Rattle.suffix.specs.declared.Suffix.{Suffix}
use Rattle.suffix.specs.declared.Checked.{Checked}
use Rattle.suffix.specs.declared.Error.{Error}

-- the last 16 bytes
abbrev pub last_of : List ℕ → List ℕ
last_of file = drop (length file - 16) file

-- device, product, vendor and DFU version as little-endian pairs
abbrev pub identities_of : List ℕ → Identities
identities_of s = record {
  device = field 0 2 s;
  product = field 2 2 s;
  vendor = field 4 2 s;
  dfu_version = field 6 2 s;
}

-- then the signature `UFD` (41), length 16 (42), and a CRC-32 over all before it (43)
abbrev pub last_read : List ℕ → List ℕ → Result Suffix Error
last_read s before =
    pick (prefix (codes "UFD") (drop 8 s))
    (pick (slice_index s 11 == 16)
    (pick (field 12 4 s == crc_of before) (Ok (record { identities = identities_of s; crc = field 12 4 s })) (Err Error.WrongCrc))
    (Err Error.WrongLength))
    (Err Error.NoSignature)

-- under 16 bytes is 40, first
unfoldable pub suffix_of : List ℕ → Result Suffix Error
suffix_of file = pick (nat_lt (length file) 16) (Err Error.FileTooShort) (last_read (last_of file) (take (length file - 4) file))

-- the firmware part: all before the suffix, and nothing of a file that is refused
abbrev pub part_by : Result Suffix Error → List ℕ → List ℕ
part_by (Ok s) file = take (length file - 16) file
part_by (Err Error.FileTooShort) file = []
part_by (Err Error.NoSignature) file = []
part_by (Err Error.WrongLength) file = []
part_by (Err Error.WrongCrc) file = []

unfoldable pub firmware_of : List ℕ → List ℕ
firmware_of file = part_by (suffix_of file) file

-- both at once: the suffix, and how many bytes are firmware
abbrev pub checked_by : Result Suffix Error → ℕ → Result Checked Error
checked_by (Ok s) n = Ok (record { suffix = s; firmware = n - 16 })
checked_by (Err e) n = Err e

abbrev pub checked_of : List ℕ → Result Checked Error
checked_of file = checked_by (suffix_of file) (length file)

-- document 02's number and values for each answer
abbrev pub said_suffix : Suffix → Said
said_suffix s = let i = s.identities in says 0 (i.device ∷ i.product ∷ i.vendor ∷ i.dfu_version ∷ s.crc ∷ [])

abbrev pub said_error : Error → Said
said_error Error.FileTooShort = says 40 []
said_error Error.NoSignature = says 41 []
said_error Error.WrongLength = says 42 []
said_error Error.WrongCrc = says 43 []

abbrev pub said_of : Result Suffix Error → Said
said_of = said_result said_suffix said_error
