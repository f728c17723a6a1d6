-- What a DfuSe file holds, or why it is refused: the tests stand in the order of their numbers, and the first that fails is the answer.
use Rattle.std.specs.Prelude.{ℕ, zero, suc, ◌+◌, ◌-◌, List, [], ◌∷◌, Bool, true, length, take, drop, ◌==◌, nat_lt, slice_index, Result, Ok, Err}
use Rattle.ground.specs.Pick.{pick}
use Rattle.ground.specs.Bytes.{field, prefix}
use Rattle.papers.specs.Um0391.{Element, Target, sz_target, sz_dfu_se}
use Rattle.suffix.specs.declared.Identities.{Identities}
use Rattle.suffix.specs.declared.Suffix.{Suffix}
use Rattle.suffix.specs.declared.Error as suffix
use Rattle.suffix.specs.Suffix.{suffix_of, firmware_of}
use Rattle.dfuse_file.specs.declared.error.Error.{Error}

-- a list that was read, or why it wasn't
abbrev pub Got : Type 0 → Type 0
Got A = Result (List A) Error

-- one more before the others
abbrev pub more : {A : Type 0} → A → Got A → Got A
more x (Ok xs) = Ok (x ∷ xs)
more x (Err e) = Err e

-- n elements fill the bytes s of a target, which begin at a place of the file
unfoldable pub elements_in : ℕ → ℕ → List ℕ → Got Element
elements_in zero at s = pick (length s == 0) (Ok []) (Err (Error.TargetNotFilled at))
elements_in (suc n) at s =
    pick (nat_lt (length s) 8) (Err (Error.ElementTooShort at))
    (pick (nat_lt (length s - 8) (field 4 4 s)) (Err (Error.ElementTooLong at))
    (more (record { dw_element_address = field 0 4 s; Data = take (field 4 4 s) (drop 8 s) })
    (elements_in n (at + (8 + field 4 4 s)) (drop (8 + field 4 4 s) s))))

-- a target with the bytes s from its prefix on, its elements, and the targets after it
abbrev pub joined : List ℕ → Got Element → Got Target → Got Target
joined s (Ok es) g =
    more (record { b_alternate_setting = slice_index s 6; b_target_named = field 7 4 s; sz_target_name = take 255 (drop 11 s); elements = es }) g
joined s (Err e) g = Err e

-- n targets fill the bytes s before the suffix, which begin at a place of the file
unfoldable pub targets_in : ℕ → ℕ → List ℕ → Got Target
targets_in zero at s = pick (length s == 0) (Ok []) (Err (Error.ImageNotFilled at))
targets_in (suc n) at s =
    pick (nat_lt (length s) 274) (Err (Error.TargetTooShort at))
    (pick (prefix sz_target s)
    (pick (nat_lt (length s - 274) (field 266 4 s)) (Err (Error.TargetTooLong at))
    (joined s (elements_in (field 270 4 s) (at + 274) (take (field 266 4 s) (drop 274 s)))
    (targets_in n (at + (274 + field 266 4 s)) (drop (274 + field 266 4 s) s))))
    (Err (Error.NoTarget at)))

-- an image size is the length of what stands before the suffix, or with the suffix
abbrev pub fits : ℕ → ℕ → Bool
fits size long = pick (size == long) true (size == (long + 16))

-- all before the suffix
unfoldable pub image_in : List ℕ → Got Target
image_in s =
    pick (nat_lt (length s) 11) (Err Error.ImageTooShort)
    (pick (prefix sz_dfu_se s)
    (pick (slice_index s 5 == 1)
    (pick (fits (field 6 4 s) (length s)) (targets_in (slice_index s 10) 11 (drop 11 s)) (Err Error.WrongImageSize))
    (Err Error.WrongVersion))
    (Err Error.NoPrefix))

-- a file that was read: whether its image size counts the suffix, its identities, its CRC and its targets
pub record Held : Type 0 where
  pub counted : Bool
  pub identities : Identities
  pub crc : ℕ
  pub targets : List Target

abbrev pub held : Bool → Suffix → Got Target → Result Held Error
held counted s (Ok ts) = Ok (record { counted = counted; identities = s.identities; crc = s.crc; targets = ts })
held counted s (Err e) = Err e

abbrev pub whole : Suffix → List ℕ → Result Held Error
whole x s = pick (x.identities.dfu_version == 0x011A) (held (field 6 4 s == (length s + 16)) x (image_in s)) (Err Error.NotDfuse)

-- the suffix's refusals first: a file is trusted before it is read
abbrev pub by_suffix : Result Suffix suffix.Error → List ℕ → Result Held Error
by_suffix (Ok x) s = whole x s
by_suffix (Err e) s = Err (Error.Suffix e)

unfoldable pub dfuse_in : List ℕ → Result Held Error
dfuse_in f = by_suffix (suffix_of f) (firmware_of f)
