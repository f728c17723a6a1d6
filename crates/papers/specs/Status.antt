-- DFU 1.1, section 6.1.2: the reply to DFU_GETSTATUS, its states and its statuses. Nothing of ours is used here.
use Rattle.std.specs.Prelude.{ℕ, ◌/◌, ◌%◌, List, [], ◌∷◌}

pub record StatusReply : Type 0 where
  pub b_status : ℕ
  -- milliseconds to wait before the next DFU_GETSTATUS
  pub bw_poll_timeout : ℕ
  -- the state that the device enters right after this reply
  pub b_state : ℕ
  pub i_string : ℕ

-- six bytes; bw_poll_timeout has three, the low byte first
abbrev pub bytes_of : StatusReply → List ℕ
bytes_of r =
    r.b_status
    ∷ r.bw_poll_timeout % 256
    ∷ r.bw_poll_timeout / 256 % 256
    ∷ r.bw_poll_timeout / 65536
    ∷ r.b_state
    ∷ r.i_string
    ∷ []

-- b_state
pub data DfuState : Type 0 where
  app_idle : DfuState
  app_detach : DfuState
  dfu_idle : DfuState
  dfu_dnload_sync : DfuState
  dfu_dnbusy : DfuState
  dfu_dnload_idle : DfuState
  dfu_manifest_sync : DfuState
  dfu_manifest : DfuState
  dfu_manifest_wait_reset : DfuState
  dfu_upload_idle : DfuState
  dfu_error : DfuState

abbrev pub b_state_of : DfuState → ℕ
b_state_of app_idle = 0
b_state_of app_detach = 1
b_state_of dfu_idle = 2
b_state_of dfu_dnload_sync = 3
b_state_of dfu_dnbusy = 4
b_state_of dfu_dnload_idle = 5
b_state_of dfu_manifest_sync = 6
b_state_of dfu_manifest = 7
b_state_of dfu_manifest_wait_reset = 8
b_state_of dfu_upload_idle = 9
b_state_of dfu_error = 10

-- b_status
pub data DfuStatus : Type 0 where
  OK : DfuStatus
  err_target : DfuStatus
  err_file : DfuStatus
  err_write : DfuStatus
  err_erase : DfuStatus
  err_check_erased : DfuStatus
  err_prog : DfuStatus
  err_verify : DfuStatus
  err_address : DfuStatus
  err_notdone : DfuStatus
  err_firmware : DfuStatus
  err_vendor : DfuStatus
  err_usbr : DfuStatus
  err_por : DfuStatus
  err_unknown : DfuStatus
  err_stalledpkt : DfuStatus

abbrev pub b_status_of : DfuStatus → ℕ
b_status_of OK = 0x00
b_status_of err_target = 0x01
b_status_of err_file = 0x02
b_status_of err_write = 0x03
b_status_of err_erase = 0x04
b_status_of err_check_erased = 0x05
b_status_of err_prog = 0x06
b_status_of err_verify = 0x07
b_status_of err_address = 0x08
b_status_of err_notdone = 0x09
b_status_of err_firmware = 0x0a
b_status_of err_vendor = 0x0b
b_status_of err_usbr = 0x0c
b_status_of err_por = 0x0d
b_status_of err_unknown = 0x0e
b_status_of err_stalledpkt = 0x0f
