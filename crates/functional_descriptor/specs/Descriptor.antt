-- What bytes are as a functional descriptor: document 01, 'Descriptor and reply'.
use Rattle.std.specs.Prelude.{ℕ, ◌/◌, ◌%◌, List, [], ◌∷◌, Bool, length, ◌==◌, nat_lt, slice_index, Option, Some, None, Result, Ok, Err}
use Rattle.ground.specs.Pick.{pick}
use Rattle.ground.specs.Said.{Said, says, said_result, said_option}
use Rattle.ground.specs.Bytes.{field}
use Rattle.functional_descriptor.specs.declared.FunctionalDescriptor.{FunctionalDescriptor}
use Rattle.functional_descriptor.specs.declared.Error.{Error}

-- whether the bit of a weight is set
abbrev pub flag : ℕ → ℕ → Bool
flag weight b = (b / weight % 2) == 1

-- byte 2 bits 0 to 3; bytes 3-4 detach timeout, 5-6 transfer size; byte 7 minor, byte 8 major
abbrev pub fields_of : List ℕ → FunctionalDescriptor
fields_of bs = record {
  can_download = flag 1 (slice_index bs 2);
  can_upload = flag 2 (slice_index bs 2);
  manifestation_tolerant = flag 4 (slice_index bs 2);
  will_detach = flag 8 (slice_index bs 2);
  detach_timeout = field 3 2 bs;
  transfer_size = field 5 2 bs;
  dfu_version = record { 0 = slice_index bs 8; 1 = slice_index bs 7 };
}

-- fewer than 2 bytes, or byte 1 not 0x21: not one; then fewer than 9: too short
abbrev pub descriptor_of : List ℕ → Option (Result FunctionalDescriptor Error)
descriptor_of bs =
    pick (nat_lt (length bs) 2) None
    (pick (slice_index bs 1 == 0x21)
    (pick (nat_lt (length bs) 9) (Some (Err (Error.DataTooShort (length bs)))) (Some (Ok (fields_of bs))))
    None)

abbrev pub bit_of : Bool → ℕ
bit_of b = pick b 1 0

-- document 01's number and values for each answer
abbrev pub said_fields : FunctionalDescriptor → Said
said_fields d =
    says 0
    (bit_of d.can_download
    ∷ bit_of d.can_upload
    ∷ bit_of d.manifestation_tolerant
    ∷ bit_of d.will_detach
    ∷ d.detach_timeout
    ∷ d.transfer_size
    ∷ d.dfu_version.0
    ∷ d.dfu_version.1
    ∷ [])

abbrev pub said_error : Error → Said
said_error (Error.DataTooShort got) = says 14 (got ∷ [])

abbrev pub said_of : Option (Result FunctionalDescriptor Error) → Said
said_of = said_option (said_result said_fields said_error)
