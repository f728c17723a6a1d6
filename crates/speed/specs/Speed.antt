-- What the exported functions answer, in one number.
use Rattle.std.specs.Prelude.{ℕ, zero, suc, ◌+◌, ◌-◌, true, false, List, [], ◌∷◌, length, Result, Ok, Err}
use Rattle.ground.specs.Pick.{pick}
use Rattle.ground.specs.Said.{Said}
use Rattle.memory_layout.specs.Layout.{Done, said_error}
use Rattle.memory_layout.specs.declared.Error.{Error}
use Rattle.memory_layout.specs.declared.MemoryLayout.{MemoryLayout}
use Rattle.protocol.specs.declared.DfuProtocol.{DfuProtocol}
use Rattle.machine.specs.declared.Phase.{Phase}
use Rattle.machine.specs.Machine.{endb}
use Rattle.session.specs.Calls.{Outcome, call_of}
use Rattle.session.specs.declared.Session.{Session}
use Rattle.start.specs.Start.{new_io, begin_of}
use Rattle.start.specs.declared.DfuSansIo.{DfuSansIo}
use Rattle.start.specs.declared.StartError.{StartError}
use Rattle.plan.specs.Answers.{ideal}
use Rattle.suffix.specs.declared.Checked.{Checked}
use Rattle.suffix.specs.declared.Error.{Error as FileError}
use Rattle.suffix.specs.Suffix as suffix

-- 2^63 and document 01's number of the refusal
abbrev pub refusal_of : Said → ℕ
refusal_of s = 9223372036854775808 + s.number

-- how many bytes of a file are firmware, or the refusal
abbrev pub verified_of : Result Checked FileError → ℕ
verified_of (Ok c) = c.firmware
verified_of (Err e) = refusal_of (suffix.said_error e)

-- how many pages, or the refusal
abbrev pub layout_number : Result MemoryLayout Error → ℕ
layout_number (Ok layout) = layout.pages
layout_number (Err e) = refusal_of (said_error e)

-- a number, and the store after the call
pub record Answered : Type 0 where
  pub number : ℕ
  pub store : List ℕ

abbrev pub answered : ℕ → List ℕ → Answered
answered n store = record { number = n; store = store }

-- what a layout's reading comes to
abbrev pub answered_of : Done → Answered
answered_of d = answered (layout_number d.answer) d.store

-- the transfers that a finished session has asked: what is gone of its budget; 0 for any other
abbrev pub asked_at : Phase → ℕ → ℕ
asked_at Phase.First left = 0
asked_at Phase.Clear left = 0
asked_at Phase.Second left = 0
asked_at (Phase.Sent c) left = 0
asked_at (Phase.Waiting x) left = 0
asked_at Phase.Resetting left = 0
asked_at (Phase.Finished e) left = 18446744073709551615 - left
asked_at (Phase.Refused e) left = 0

abbrev pub asked_of : Session → ℕ
asked_of s = asked_at s.phase s.left

-- after a call: the end, or going on
abbrev pub turn_of : Outcome → (List ℕ → Session → ℕ) → ℕ
turn_of o on = pick (endb o.step.says) (asked_of o.step.next) (on o.command o.step.next)

-- n calls at most, each telling at once what is awaited
unfoldable pub ran_of : List ℕ → List ℕ → ℕ → List ℕ → Session → ℕ
ran_of fw ps zero cmd s = asked_of s
ran_of fw ps (suc n) cmd s = turn_of (call_of fw ps cmd s (ideal s.phase)) (ran_of fw ps n)

-- a session for a tolerant device with a transfer size, its budget as large as can be
abbrev pub device_of : ℕ → DfuSansIo
device_of size =
    new_io
    (record {
      can_download = true;
      can_upload = false;
      manifestation_tolerant = true;
      will_detach = false;
      detach_timeout = 0;
      transfer_size = size;
      dfu_version = record { 0 = 1; 1 = 0x1a };
    })

-- the session that was begun is run; none if start refuses
abbrev pub run_of : List ℕ → List ℕ → Result Session StartError → ℕ
run_of fw ps (Ok s) = ran_of fw ps 1000000 (0 ∷ 0 ∷ 0 ∷ 0 ∷ 0 ∷ []) s
run_of fw ps (Err e) = 0

abbrev pub session_of : List ℕ → List ℕ → ℕ → ℕ → ℕ
session_of fw ps address size = run_of fw ps (begin_of (device_of size) (DfuProtocol.Dfuse address) (length fw) (length ps) 18446744073709551615)
