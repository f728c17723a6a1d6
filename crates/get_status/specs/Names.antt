-- The names of states and statuses: document 01, 'Descriptor and reply'; the numbers are DFU 1.1's.
use Rattle.std.specs.Prelude.{ℕ, List, [], ◌∷◌, slice_index_or}
use Rattle.get_status.specs.declared.State.{State}
use Rattle.get_status.specs.declared.Status.{Status}

-- states 0 to 10 have names; any other byte is kept
abbrev pub state_names : List State
state_names =
    State.AppIdle
    ∷ State.AppDetach
    ∷ State.DfuIdle
    ∷ State.DfuDnloadSync
    ∷ State.DfuDnbusy
    ∷ State.DfuDnloadIdle
    ∷ State.DfuManifestSync
    ∷ State.DfuManifest
    ∷ State.DfuManifestWaitReset
    ∷ State.DfuUploadIdle
    ∷ State.DfuError
    ∷ []

abbrev pub state_of : ℕ → State
state_of b = slice_index_or state_names b (State.Other b)

abbrev pub state_byte : State → ℕ
state_byte State.AppIdle = 0
state_byte State.AppDetach = 1
state_byte State.DfuIdle = 2
state_byte State.DfuDnloadSync = 3
state_byte State.DfuDnbusy = 4
state_byte State.DfuDnloadIdle = 5
state_byte State.DfuManifestSync = 6
state_byte State.DfuManifest = 7
state_byte State.DfuManifestWaitReset = 8
state_byte State.DfuUploadIdle = 9
state_byte State.DfuError = 10
state_byte (State.Other b) = b

-- statuses 0x00 to 0x0f have names; any other byte is kept
abbrev pub status_names : List Status
status_names =
    Status.Ok
    ∷ Status.ErrTarget
    ∷ Status.ErrFile
    ∷ Status.ErrWrite
    ∷ Status.ErrErase
    ∷ Status.ErrCheckErased
    ∷ Status.ErrProg
    ∷ Status.ErrVerify
    ∷ Status.ErrAddress
    ∷ Status.ErrNotdone
    ∷ Status.ErrFirmware
    ∷ Status.ErrVendor
    ∷ Status.ErrUsbr
    ∷ Status.ErrPor
    ∷ Status.ErrUnknown
    ∷ Status.ErrStalledpkt
    ∷ []

abbrev pub status_of : ℕ → Status
status_of b = slice_index_or status_names b (Status.Other b)

abbrev pub status_byte : Status → ℕ
status_byte Status.Ok = 0x00
status_byte Status.ErrTarget = 0x01
status_byte Status.ErrFile = 0x02
status_byte Status.ErrWrite = 0x03
status_byte Status.ErrErase = 0x04
status_byte Status.ErrCheckErased = 0x05
status_byte Status.ErrProg = 0x06
status_byte Status.ErrVerify = 0x07
status_byte Status.ErrAddress = 0x08
status_byte Status.ErrNotdone = 0x09
status_byte Status.ErrFirmware = 0x0a
status_byte Status.ErrVendor = 0x0b
status_byte Status.ErrUsbr = 0x0c
status_byte Status.ErrPor = 0x0d
status_byte Status.ErrUnknown = 0x0e
status_byte Status.ErrStalledpkt = 0x0f
status_byte (Status.Other b) = b

-- 6 is taken as 7, and 3 as 4
abbrev pub settled : State → State
settled State.AppIdle = State.AppIdle
settled State.AppDetach = State.AppDetach
settled State.DfuIdle = State.DfuIdle
settled State.DfuDnloadSync = State.DfuDnbusy
settled State.DfuDnbusy = State.DfuDnbusy
settled State.DfuDnloadIdle = State.DfuDnloadIdle
settled State.DfuManifestSync = State.DfuManifest
settled State.DfuManifest = State.DfuManifest
settled State.DfuManifestWaitReset = State.DfuManifestWaitReset
settled State.DfuUploadIdle = State.DfuUploadIdle
settled State.DfuError = State.DfuError
settled (State.Other b) = State.Other b
