-- What DFU 1.1's reply lays out is what the reader finds, whatever follows it. Assumes nothing.
use Rattle.std.proofs.Common.{◌≡◌, ℕ, ◌+◌, ◌*◌, ◌/◌, ◌%◌, List, ◌++◌, length, refl, arith}
use Rattle.std.specs.Prelude.{Ok}
use borrow.Author.Tests.{le-ltb}
use Rattle.ground.specs.Bytes.{little_endian_value, field}
use Rattle.papers.specs.Status.{StatusReply, bytes_of, DfuState, b_state_of, app_idle, app_detach, dfu_idle, dfu_dnload_sync, dfu_dnbusy, dfu_dnload_idle, dfu_manifest_sync, dfu_manifest, dfu_manifest_wait_reset, dfu_upload_idle, dfu_error}
use Rattle.papers.specs.Status.{DfuStatus, b_status_of, OK, err_target, err_file, err_write, err_erase, err_check_erased, err_prog, err_verify, err_address, err_notdone, err_firmware, err_vendor, err_usbr, err_por, err_unknown, err_stalledpkt}
use Rattle.get_status.specs.declared.State.{State}
use Rattle.get_status.specs.declared.Status.{Status}
use Rattle.get_status.specs.declared.GetStatusMessage.{GetStatusMessage}
use Rattle.get_status.specs.Names.{state_of, state_byte, status_of, status_byte, settled}
use Rattle.get_status.specs.Reply.{reply_of}

-- the reply's fields under the Rust's names, 6 taken as 7 and 3 as 4
abbrev pub named : StatusReply → GetStatusMessage
named r = record {
  status = status_of r.b_status;
  poll_timeout = r.bw_poll_timeout;
  state = settled (state_of r.b_state);
  index = r.i_string;
}

triple : (n : ℕ) → ((0 * 256 + n / 65536) * 256 + n / 256 % 256) * 256 + n % 256 ≡ n
triple n = omega arith

pub reads_the_reply : (r : StatusReply) (more : List ℕ) → reply_of (bytes_of r ++ more) ≡ Ok (named r)
unfolding field little_endian_value
reads_the_reply r more = simp (le-ltb (length (bytes_of r ++ more)) 6 (omega arith), triple r.bw_poll_timeout)

-- the paper's states under the Rust's names have the paper's numbers
abbrev pub state_named : DfuState → State
state_named app_idle = State.AppIdle
state_named app_detach = State.AppDetach
state_named dfu_idle = State.DfuIdle
state_named dfu_dnload_sync = State.DfuDnloadSync
state_named dfu_dnbusy = State.DfuDnbusy
state_named dfu_dnload_idle = State.DfuDnloadIdle
state_named dfu_manifest_sync = State.DfuManifestSync
state_named dfu_manifest = State.DfuManifest
state_named dfu_manifest_wait_reset = State.DfuManifestWaitReset
state_named dfu_upload_idle = State.DfuUploadIdle
state_named dfu_error = State.DfuError

pub state_numbers : (s : DfuState) → (state_byte (state_named s) ≡ b_state_of s) × (state_of (b_state_of s) ≡ state_named s)
state_numbers app_idle = (refl, refl)
state_numbers app_detach = (refl, refl)
state_numbers dfu_idle = (refl, refl)
state_numbers dfu_dnload_sync = (refl, refl)
state_numbers dfu_dnbusy = (refl, refl)
state_numbers dfu_dnload_idle = (refl, refl)
state_numbers dfu_manifest_sync = (refl, refl)
state_numbers dfu_manifest = (refl, refl)
state_numbers dfu_manifest_wait_reset = (refl, refl)
state_numbers dfu_upload_idle = (refl, refl)
state_numbers dfu_error = (refl, refl)

-- and so have its statuses
abbrev pub status_named : DfuStatus → Status
status_named OK = Status.Ok
status_named err_target = Status.ErrTarget
status_named err_file = Status.ErrFile
status_named err_write = Status.ErrWrite
status_named err_erase = Status.ErrErase
status_named err_check_erased = Status.ErrCheckErased
status_named err_prog = Status.ErrProg
status_named err_verify = Status.ErrVerify
status_named err_address = Status.ErrAddress
status_named err_notdone = Status.ErrNotdone
status_named err_firmware = Status.ErrFirmware
status_named err_vendor = Status.ErrVendor
status_named err_usbr = Status.ErrUsbr
status_named err_por = Status.ErrPor
status_named err_unknown = Status.ErrUnknown
status_named err_stalledpkt = Status.ErrStalledpkt

pub status_numbers : (s : DfuStatus) → (status_byte (status_named s) ≡ b_status_of s) × (status_of (b_status_of s) ≡ status_named s)
status_numbers OK = (refl, refl)
status_numbers err_target = (refl, refl)
status_numbers err_file = (refl, refl)
status_numbers err_write = (refl, refl)
status_numbers err_erase = (refl, refl)
status_numbers err_check_erased = (refl, refl)
status_numbers err_prog = (refl, refl)
status_numbers err_verify = (refl, refl)
status_numbers err_address = (refl, refl)
status_numbers err_notdone = (refl, refl)
status_numbers err_firmware = (refl, refl)
status_numbers err_vendor = (refl, refl)
status_numbers err_usbr = (refl, refl)
status_numbers err_por = (refl, refl)
status_numbers err_unknown = (refl, refl)
status_numbers err_stalledpkt = (refl, refl)
