-- DFU 1.1, section 3: the class requests that a download uses. Nothing of ours is used here.
use Rattle.std.specs.Prelude.{ℕ}

-- the setup packet without wIndex, the interface, which is the host's
pub record SetupPacket : Type 0 where
  pub bm_request_type : ℕ
  pub b_request : ℕ
  pub w_value : ℕ
  pub w_length : ℕ

abbrev pub packet : ℕ → ℕ → ℕ → ℕ → SetupPacket
packet type request val len = record { bm_request_type = type; b_request = request; w_value = val; w_length = len }

-- 0x21 sends to the device, 0xA1 takes from it
abbrev pub DFU_DETACH : ℕ → SetupPacket
DFU_DETACH timeout = packet 0x21 0 timeout 0

abbrev pub DFU_DNLOAD : ℕ → ℕ → SetupPacket
DFU_DNLOAD block len = packet 0x21 1 block len

abbrev pub DFU_GETSTATUS : SetupPacket
DFU_GETSTATUS = packet 0xA1 3 0 6

abbrev pub DFU_CLRSTATUS : SetupPacket
DFU_CLRSTATUS = packet 0x21 4 0 0
