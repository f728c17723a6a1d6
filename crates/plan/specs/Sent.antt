-- The download requests of a run on the wire, and the plan of start's own arguments.
use Rattle.std.specs.Prelude.{ℕ, ◌≡◌, List, [], length, Ok}
use Rattle.papers.specs.Requests.{SetupPacket, packet}
use Rattle.papers.specs.Plan.{Dnload, plan}
use Rattle.protocol.specs.Interface.{dfuseb}
use Rattle.protocol.specs.declared.DfuProtocol.{DfuProtocol}
use Rattle.wire.specs.declared.Command.{Command}
use Rattle.wire.specs.declared.Control.{Control}
use Rattle.wire.specs.Wire.{wire_of, filled_for, request_data}
use Rattle.wire.specs.declared.Request.{Request}
use Rattle.session.specs.declared.Session.{Session}
use Rattle.start.specs.declared.DfuSansIo.{DfuSansIo}
use Rattle.start.specs.Start.{target_of, begin_of}

-- our control transfers as setup packets, with both lengths: the bytes that they carry, and beside the packet those that they take; and the other way round
abbrev pub carried : Control → SetupPacket × ℕ
carried c = (packet c.request_type c.request c.value c.carries, c.takes)

abbrev pub taken : Control → SetupPacket × ℕ
taken c = (packet c.request_type c.request c.value c.takes, c.carries)

-- a download request: its packet, and the bytes that `data` hands over for it
abbrev pub on_wire : List ℕ → Command → Dnload
on_wire firmware c = record { setup = (carried (wire_of (Request.Command c))).0; bytes = request_data (Request.Command c) firmware (filled_for (Request.Command c) []) }

-- the papers' requests for start's own arguments
abbrev pub plan_of : DfuSansIo → DfuProtocol → List ℕ → List ℕ → List Dnload
plan_of io p firmware pages = plan (dfuseb p) (target_of p io.override_address) io.descriptor.transfer_size firmware pages

-- start begins a session, or has finished it at once
abbrev pub Begins : DfuSansIo → DfuProtocol → List ℕ → List ℕ → ℕ → Session → Type 0
Begins io p firmware pages budget s = begin_of io p (length firmware) (length pages) budget ≡ Ok s
