-- Devices and answers for cases that are computed.
use Rattle.std.specs.Prelude.{ℕ, Bool, true, [], ◌∷◌}
use Rattle.start.specs.Start.{new_io}
use Rattle.promises.specs.Words.{Answer, reply, DfuSansIo}

-- a device by what start looks at: tolerant, will detach, transfer size
abbrev pub device_of : Bool → Bool → ℕ → DfuSansIo
device_of tolerant detach size =
    new_io
    (record {
      can_download = true;
      can_upload = true;
      manifestation_tolerant = tolerant;
      will_detach = detach;
      detach_timeout = 0;
      transfer_size = size;
      dfu_version = record { 0 = 1; 1 = 0x10 };
    })

-- a reply that shows a state
abbrev pub shows : ℕ → Answer
shows b = reply (0 ∷ 0 ∷ 0 ∷ 0 ∷ b ∷ 0 ∷ [])
