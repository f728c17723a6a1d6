-- The wire is what the papers say; and what start doesn't look at decides nothing. Assumes nothing.
use Rattle.std.proofs.Common.{Option, ℕ, ◌/◌, ◌%◌, ◌≡◌, refl, ap, ◌∙◌, Bool, List, [], ◌∷◌, arith}
use Rattle.ground.specs.Bytes.{bytes_low}
use Rattle.ground.specs.declared.Version.{Version}
use Rattle.papers.specs.Requests.{DFU_DNLOAD, DFU_GETSTATUS, DFU_CLRSTATUS}
use Rattle.papers.specs.Dfuse.{four_bytes, erase_command, set_address_command}
use Rattle.functional_descriptor.specs.declared.FunctionalDescriptor.{FunctionalDescriptor}
use Rattle.protocol.specs.declared.DfuProtocol.{DfuProtocol}
use Rattle.wire.specs.Wire.{wire_of, filled_for, request_data}
use Rattle.wire.specs.declared.Command.{Command}
use Rattle.wire.specs.declared.Request.{Request}
use Rattle.start.specs.Start.{begin_of}
use Rattle.plan.specs.Sent.{carried, taken}

pub status_agrees : taken (wire_of Request.GetStatus) ≡ (DFU_GETSTATUS, 0)
status_agrees = refl

pub clear_agrees : carried (wire_of Request.ClearStatus) ≡ (DFU_CLRSTATUS, 0)
clear_agrees = refl

pub block_agrees : (n f m : ℕ) → carried (wire_of (Request.Command (Command.Block n f m))) ≡ (DFU_DNLOAD n m, 0)
block_agrees n f m = refl

pub empty_agrees : (n : ℕ) → carried (wire_of (Request.Command (Command.Empty n))) ≡ (DFU_DNLOAD n 0, 0)
empty_agrees n = refl

pub erase_agrees : (a : ℕ) → carried (wire_of (Request.Command (Command.Erase a))) ≡ (DFU_DNLOAD 0 5, 0)
erase_agrees a = refl

pub address_agrees : (a : ℕ) → carried (wire_of (Request.Command (Command.SetAddress a))) ≡ (DFU_DNLOAD 0 5, 0)
address_agrees a = refl

-- the command bytes that a call fills, handed back as the request's data, are the paper's command
four : (a : ℕ) → bytes_low 4 a ≡ four_bytes a
unfolding bytes_low
four a =
    let c : a / 256 / 256 ≡ a / 65536 = omega arith in
    let d : a / 256 / 256 / 256 ≡ a / 16777216 = omega arith in
    ap (λ (x : ℕ). a % 256 ∷ a / 256 % 256 ∷ x % 256 ∷ a / 256 / 256 / 256 % 256 ∷ []) c
    ∙ ap (λ (x : ℕ). a % 256 ∷ a / 256 % 256 ∷ a / 65536 % 256 ∷ x % 256 ∷ []) d

pub erase_command_lem : (a : ℕ) (fw cmd : List ℕ) → request_data (Request.Command (Command.Erase a)) fw (filled_for (Request.Command (Command.Erase a)) cmd) ≡ erase_command a
erase_command_lem a fw cmd = rw (four a)

pub address_command : (a : ℕ) (fw cmd : List ℕ) → request_data (Request.Command (Command.SetAddress a)) fw (filled_for (Request.Command (Command.SetAddress a)) cmd) ≡ set_address_command a
address_command a fw cmd = rw (four a)

-- no answer depends on the download and upload bits, the detach timeout or the version: start reads none of them
abbrev seen : Bool → Bool → ℕ → Version → Bool → Bool → ℕ → FunctionalDescriptor
seen d u t v tolerant detach size = record {
  can_download = d;
  can_upload = u;
  manifestation_tolerant = tolerant;
  will_detach = detach;
  detach_timeout = t;
  transfer_size = size;
  dfu_version = v;
}

pub ignores : (d u d' u' : Bool) (t t' : ℕ) (v v' : Version) (tolerant detach : Bool) (size : ℕ) (o : Option ℕ) (p : DfuProtocol) (n pages budget : ℕ)
    → begin_of (record { descriptor = seen d u t v tolerant detach size; override_address = o }) p n pages budget
    ≡ begin_of (record { descriptor = seen d' u' t' v' tolerant detach size; override_address = o }) p n pages budget
unfolding begin_of
ignores d u d' u' t t' v v' tolerant detach size o p n pages budget = refl
