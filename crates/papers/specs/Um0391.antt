-- UM0391: a DfuSe file as it is made, byte for byte: an image of targets with their elements, and DFU 1.1's suffix after it. Nothing of ours is used here.
use Rattle.std.specs.Prelude.{ℕ, ◌+◌, List, [], ◌∷◌, ◌++◌, Bool, ◌≡◌, length}
use Rattle.ground.specs.Pick.{pick}
use Rattle.papers.specs.Suffix.{Ids, four, file_of}

-- A size or a count is no field of these records: it is the length of what it counts, so it can't be wrong.
-- dwElementSize is how many bytes the data is
pub record Element : Type 0 where
  pub dw_element_address : ℕ
  pub Data : List ℕ

-- dwNbElements is how many elements there are, dwTargetSize how many bytes they take
pub record Target : Type 0 where
  pub b_alternate_setting : ℕ
  pub b_target_named : ℕ
  pub sz_target_name : List ℕ
  pub elements : List Element

abbrev pub element_of : Element → List ℕ
element_of e = four e.dw_element_address ++ (four (length e.Data) ++ e.Data)

unfoldable pub elements_of : List Element → List ℕ
elements_of [] = []
elements_of (e ∷ es) = element_of e ++ elements_of es

-- `Target`
abbrev pub sz_target : List ℕ
sz_target = 0x54 ∷ 0x61 ∷ 0x72 ∷ 0x67 ∷ 0x65 ∷ 0x74 ∷ []

-- the target prefix, 274 bytes, and the elements after it
abbrev pub target_of : Target → List ℕ
target_of t =
    sz_target
    ++ (t.b_alternate_setting ∷ (four t.b_target_named
    ++ (t.sz_target_name ++ (four (length (elements_of t.elements)) ++ (four (length t.elements) ++ elements_of t.elements)))))

unfoldable pub targets_of : List Target → List ℕ
targets_of [] = []
targets_of (t ∷ ts) = target_of t ++ targets_of ts

-- sz_target_name is 255 bytes in each target
abbrev pub Named : List Target → Type 0
Named [] = Unit
Named (t ∷ ts) = (length t.sz_target_name ≡ 255) × Named ts

-- `DfuSe`
abbrev pub sz_dfu_se : List ℕ
sz_dfu_se = 0x44 ∷ 0x66 ∷ 0x75 ∷ 0x53 ∷ 0x65 ∷ []

-- DFUImageSize: the file's length, with its suffix (`counted`) or without: the tools that make files write both
abbrev pub image_size : Bool → List Target → ℕ
image_size counted ts = 11 + length (targets_of ts) + pick counted 16 0

-- the prefix, 11 bytes with version 1, and the targets after it
abbrev pub image_of : Bool → List Target → List ℕ
image_of counted ts = sz_dfu_se ++ (1 ∷ (four (image_size counted ts) ++ (length ts ∷ targets_of ts)))

abbrev pub dfuse_of : Bool → List Target → Ids → List ℕ
dfuse_of counted ts i = file_of (image_of counted ts) i
