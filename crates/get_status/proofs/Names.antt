-- Bytes and names go back and forth. Assumes nothing.
use Rattle.std.proofs.Common.{◌≡◌, ℕ, ◌<◌, Bool, true, false, List, length, get_or, map, refl, sym, ap, ◌∙◌, arith}
use Rattle.std.proofs.Math.ListN.{get_or-map, get_or-eq_default}
use Rattle.std.proofs.lemmas.List.FromFn.{get_or-range_with_len, length-range_with_len}
use Rattle.std.specs.List.{range_with_len}
use lib.Dec.{ltb}
use borrow.Author.Tests.{ltb-true, ltb-false}
use Rattle.get_status.specs.Names.{state_names, state_of, state_byte, status_names, status_of, status_byte}
use Rattle.get_status.specs.declared.State.{State}
use Rattle.get_status.specs.declared.Status.{Status}

-- where the names' bytes count up from 0, the b-th of them has byte b, and so has what stands for a name past the last
counted : {A : Type 0} (f : A → ℕ) (l : List A) (b : ℕ) (d : A) → map f l ≡ range_with_len 0 (length l) → f d ≡ b → f (get_or l b d) ≡ b
counted f l b d e h = sym (get_or-map f l b d) ∙ ap (λ (ks : List ℕ). get_or ks b (f d)) e ∙ place (ltb b (length l)) refl
  where
    place : (t : Bool) → ltb b (length l) ≡ t → get_or (range_with_len 0 (length l)) b (f d) ≡ b
    place true r = get_or-range_with_len 0 (length l) b (f d) (ltb-true _ _ r) ∙ omega arith
    place false r = get_or-eq_default (range_with_len 0 (length l)) (f d) {n = b} (omega (arith, length-range_with_len 0 (length l), ltb-false b (length l) r)) ∙ h

-- byte to name to byte, for every byte
pub state_byte_lem : (b : ℕ) → state_byte (state_of b) ≡ b
state_byte_lem b = counted state_byte state_names b (State.Other b) refl refl

pub status_byte_lem : (b : ℕ) → status_byte (status_of b) ≡ b
status_byte_lem b = counted status_byte status_names b (Status.Other b) refl refl

-- a name that stands for its byte: any but `Other` of a byte that has a name of its own
abbrev pub NamedState : State → Type 0
NamedState State.AppIdle = Unit
NamedState State.AppDetach = Unit
NamedState State.DfuIdle = Unit
NamedState State.DfuDnloadSync = Unit
NamedState State.DfuDnbusy = Unit
NamedState State.DfuDnloadIdle = Unit
NamedState State.DfuManifestSync = Unit
NamedState State.DfuManifest = Unit
NamedState State.DfuManifestWaitReset = Unit
NamedState State.DfuUploadIdle = Unit
NamedState State.DfuError = Unit
NamedState (State.Other b) = 10 < b

-- name to byte to name
pub state_name : (s : State) → NamedState s → state_of (state_byte s) ≡ s
state_name State.AppIdle h = refl
state_name State.AppDetach h = refl
state_name State.DfuIdle h = refl
state_name State.DfuDnloadSync h = refl
state_name State.DfuDnbusy h = refl
state_name State.DfuDnloadIdle h = refl
state_name State.DfuManifestSync h = refl
state_name State.DfuManifest h = refl
state_name State.DfuManifestWaitReset h = refl
state_name State.DfuUploadIdle h = refl
state_name State.DfuError h = refl
state_name (State.Other b) h = get_or-eq_default state_names (State.Other b) {n = b} h

-- the same for a status
abbrev pub NamedStatus : Status → Type 0
NamedStatus Status.Ok = Unit
NamedStatus Status.ErrTarget = Unit
NamedStatus Status.ErrFile = Unit
NamedStatus Status.ErrWrite = Unit
NamedStatus Status.ErrErase = Unit
NamedStatus Status.ErrCheckErased = Unit
NamedStatus Status.ErrProg = Unit
NamedStatus Status.ErrVerify = Unit
NamedStatus Status.ErrAddress = Unit
NamedStatus Status.ErrNotdone = Unit
NamedStatus Status.ErrFirmware = Unit
NamedStatus Status.ErrVendor = Unit
NamedStatus Status.ErrUsbr = Unit
NamedStatus Status.ErrPor = Unit
NamedStatus Status.ErrUnknown = Unit
NamedStatus Status.ErrStalledpkt = Unit
NamedStatus (Status.Other b) = 15 < b

pub status_name : (s : Status) → NamedStatus s → status_of (status_byte s) ≡ s
status_name Status.Ok h = refl
status_name Status.ErrTarget h = refl
status_name Status.ErrFile h = refl
status_name Status.ErrWrite h = refl
status_name Status.ErrErase h = refl
status_name Status.ErrCheckErased h = refl
status_name Status.ErrProg h = refl
status_name Status.ErrVerify h = refl
status_name Status.ErrAddress h = refl
status_name Status.ErrNotdone h = refl
status_name Status.ErrFirmware h = refl
status_name Status.ErrVendor h = refl
status_name Status.ErrUsbr h = refl
status_name Status.ErrPor h = refl
status_name Status.ErrUnknown h = refl
status_name Status.ErrStalledpkt h = refl
status_name (Status.Other b) h = get_or-eq_default status_names (Status.Other b) {n = b} h

-- the reader gives no other name: what it gives comes back
pub state_read : (b : ℕ) → state_of (state_byte (state_of b)) ≡ state_of b
state_read b = ap state_of (state_byte_lem b)

pub status_read : (b : ℕ) → status_of (status_byte (status_of b)) ≡ status_of b
status_read b = ap status_of (status_byte_lem b)
