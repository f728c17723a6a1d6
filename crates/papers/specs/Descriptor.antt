-- DFU 1.1, table 4.2: the functional descriptor's fields, and the bytes that they stand in. Nothing of ours is used here.
use Rattle.std.specs.Prelude.{ℕ, ◌+◌, ◌*◌, ◌/◌, ◌%◌, List, [], ◌∷◌, Bool, true, false}

pub record Functional : Type 0 where
  -- bm_attributes: bits 0 to 3, and the reserved bits 4 to 7 as a number
  pub bit_can_dnload : Bool
  pub bit_can_upload : Bool
  pub bit_manifestation_tolerant : Bool
  pub bit_will_detach : Bool
  pub reserved : ℕ
  pub w_detach_time_out : ℕ
  pub w_transfer_size : ℕ
  -- bcdDFUVersion: 0x0110 is 1 and 0x10
  pub major : ℕ
  pub minor : ℕ

abbrev pub weigh : Bool → ℕ → ℕ
weigh true w = w
weigh false w = 0

abbrev pub bm_attributes : Functional → ℕ
bm_attributes d =
    weigh d.bit_can_dnload 1 + weigh d.bit_can_upload 2 + weigh d.bit_manifestation_tolerant 4 + weigh d.bit_will_detach 8 + d.reserved * 16

-- bLength, bDescriptorType (DFU FUNCTIONAL), bm_attributes, and three numbers of two bytes, the low byte first
abbrev pub bytes_of : Functional → List ℕ
bytes_of d =
    9
    ∷ 0x21
    ∷ bm_attributes d
    ∷ d.w_detach_time_out % 256
    ∷ d.w_detach_time_out / 256
    ∷ d.w_transfer_size % 256
    ∷ d.w_transfer_size / 256
    ∷ d.minor
    ∷ d.major
    ∷ []
