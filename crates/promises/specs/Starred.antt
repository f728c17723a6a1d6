-- Document 01's starred cases, the failed write of W4 and published interface strings: a table, run on the definitions.
use Rattle.std.specs.Prelude.{ℕ, List, [], ◌∷◌, Bool, true, false, replicate, length as count, Result, Ok, Err}
use Prim.Native.String.{String}
use Rattle.ground.specs.Said.{Said, says}
use Rattle.std.specs.Prelude.{codes}
use Rattle.papers.specs.Plan.{sum}
use Rattle.memory_layout.specs.Layout as layout
use Rattle.protocol.specs.Interface as protocol
use Rattle.machine.specs.Machine.{asks_at, said_ask}
use Rattle.session.specs.Told.{count as counts}
use Rattle.wire.specs.Wire.{wire_of, filled_for, request_data}
use Rattle.wire.specs.declared.Control.{Control}
use Rattle.start.specs.declared.StartError.{StartError}
use Rattle.start.specs.Start.{begin_of, said_start}
use Rattle.promises.specs.Words.{DfuProtocol, Command, Request, Stage, End, Error, download, Phase, Session, Answer, reply, waited, was_reset, mk, DfuSansIo}
use Rattle.promises.specs.Samples.{device_of, shows}
use Rattle.promises.specs.Run.{Event, sends, hears, waits, resets, opened, after, in_time}

-- the data of a transfer: none, these bytes, or a part of the firmware by its place and length
pub data Carried : Type 0 where
  none : Carried
  these : List ℕ → Carried
  part : ℕ → ℕ → Carried

-- what a host is asked to do, as it sees it: a transfer by its type, request and value, with the bytes that it asks for or the data that it carries; a wait; the reset
pub data Done : Type 0 where
  asks : ℕ → ℕ → ℕ → ℕ → Done
  gives : ℕ → ℕ → ℕ → Carried → Done
  waiting : ℕ → Done
  resetting : Done

-- what a case comes to: a text read as document 01's number and values, with the bytes of all its pages; a start that says no; all that a run
-- asks, in order, with what it says last; the same with its last session
pub data Outcome : Type 0 where
  reads : Said → ℕ → Outcome
  unbegun : Said → Outcome
  runs : List Done → Said → Outcome
  ends : List Done → Session → Outcome

-- a request on the wire, with the bytes that the call which issues it fills in
abbrev pub asked : Control → Done
asked c = asks c.request_type c.request c.value c.takes

abbrev pub given : Control → Carried → Done
given c d = gives c.request_type c.request c.value d

abbrev pub on_bus : Request → Done
on_bus Request.GetStatus = asked (wire_of Request.GetStatus)
on_bus Request.ClearStatus = given (wire_of Request.ClearStatus) none
on_bus (Request.Command (Command.Erase a)) =
    given (wire_of (Request.Command (Command.Erase a))) (these (request_data (Request.Command (Command.Erase a)) [] (filled_for (Request.Command (Command.Erase a)) [])))
on_bus (Request.Command (Command.SetAddress a)) =
    given (wire_of (Request.Command (Command.SetAddress a)))
    (these (request_data (Request.Command (Command.SetAddress a)) [] (filled_for (Request.Command (Command.SetAddress a)) [])))
on_bus (Request.Command (Command.Block n f m)) = given (wire_of (Request.Command (Command.Block n f m))) (part f m)
on_bus (Request.Command (Command.Empty n)) = given (wire_of (Request.Command (Command.Empty n))) none

unfoldable pub done_in : List Event → List Done
done_in [] = []
done_in (sends q ∷ more) = on_bus q ∷ done_in more
done_in (hears st ms ∷ more) = done_in more
done_in (waits ms ∷ more) = waiting ms ∷ done_in more
done_in (resets ∷ more) = resetting ∷ done_in more

-- a layout text, for a store of 8,192 numbers
abbrev pub layout_run : List ℕ → Outcome
layout_run t = reads (layout.said_of (layout.checked 8192 t)) (sum (layout.stored_by (layout.checked 8192 t) t []))

-- an interface string of a DfuSe device, for a store of as many zeros as there may be pages
abbrev pub announced : List ℕ → protocol.Done
announced t = protocol.interface_of t (record { 0 = 1; 1 = 0x1a }) (replicate layout.max_pages 0)

abbrev pub string_run : List ℕ → Outcome
string_run t = reads (protocol.said_of (announced t).answer) (sum (announced t).store)

-- a start's own arguments
pub record Setting : Type 0 where
  pub protocol : DfuProtocol
  pub size : ℕ
  pub tolerant : Bool
  pub detach : Bool
  pub length : ℕ
  pub pages : List ℕ
  pub budget : ℕ

abbrev pub device : Setting → DfuSansIo
device x = device_of x.tolerant x.detach x.size

abbrev pub begins : Setting → Result Session StartError
begins x = begin_of (device x) x.protocol x.length (count x.pages) x.budget

-- the run of a started session over told answers: all that it asks, in order, and what it says last, or its last session
abbrev pub run_of : List ℕ → List Answer → Result Session StartError → Outcome
run_of ps more (Ok s) =
    runs (done_in (in_time (after (download ps) (opened s) more).past)) (said_ask (asks_at (after (download ps) (opened s) more).session.phase))
run_of ps more (Err e) = unbegun (said_start e)

abbrev pub end_of : List ℕ → List Answer → Result Session StartError → Outcome
end_of ps more (Ok s) = ends (done_in (in_time (after (download ps) (opened s) more).past)) (after (download ps) (opened s) more).session
end_of ps more (Err e) = unbegun (said_start e)

-- a write that is taken whole, waited for and answered with a state
abbrev pub write : ℕ → ℕ → List Answer → List Answer
write n b more = counts n ∷ waited ∷ shows b ∷ more

abbrev pub idle : List Answer → List Answer
idle more = shows 2 ∷ shows 2 ∷ more

-- a reply that shows a state, with the status of a failed write
abbrev pub failing : ℕ → Answer
failing b = reply (3 ∷ 0 ∷ 0 ∷ 0 ∷ b ∷ 0 ∷ [])

-- a case: what is read, and what it is read as
pub data Case : Type 0 where
  layout_text : String → Outcome → Case
  interface_string : String → Outcome → Case
  session_run : Setting → List Answer → Outcome → Case
  session_end : Setting → List Answer → Outcome → Case

abbrev pub at : ℕ → ℕ → List ℕ → ℕ → Setting
at a n ps b = record { protocol = DfuProtocol.Dfuse a; size = 2048; tolerant = false; detach = false; length = n; pages = ps; budget = b }

abbrev pub plain : ℕ → ℕ → ℕ → Setting
plain size n b = record { protocol = DfuProtocol.Dfu; size = size; tolerant = false; detach = false; length = n; pages = []; budget = b }

abbrev pub dfuse : ℕ → ℕ → ℕ → Setting
dfuse size n b = record { protocol = DfuProtocol.Dfuse 0; size = size; tolerant = false; detach = false; length = n; pages = []; budget = b }

abbrev pub tolerant : Setting
tolerant = record { protocol = DfuProtocol.Dfu; size = 8; tolerant = true; detach = false; length = 4; pages = []; budget = 64 }

-- document 01's whole case: the first case's 12 pages, a device that replies each awaited state at once
abbrev pub whole_case : ℕ → Setting
whole_case b =
    at 0x08000000 4100
    (16384 ∷ 16384 ∷ 16384 ∷ 16384 ∷ 65536 ∷ 131072 ∷ 131072 ∷ 131072 ∷ 131072 ∷ 131072 ∷ 131072 ∷ 131072 ∷ [])
    b

abbrev pub whole_answers : List Answer
whole_answers = idle (write 5 5 (write 5 5 (write 2048 5 (write 2048 5 (write 4 5 (write 0 7 (was_reset ∷ [])))))))

-- GETSTATUS; a write, its wait of 0 ms and the look after it
abbrev pub status : Done
status = asks 0xA1 3 0 6

abbrev pub opening : List Done → List Done
opening more = status ∷ status ∷ more

abbrev pub sent : ℕ → Carried → List Done → List Done
sent number d more = gives 0x21 1 number d ∷ waiting 0 ∷ status ∷ more

abbrev pub whole_list : List Done → List Done
whole_list last =
    opening
    (sent 0 (these (0x41 ∷ 0 ∷ 0 ∷ 0 ∷ 8 ∷ []))
    (sent 0 (these (0x21 ∷ 0 ∷ 0 ∷ 0 ∷ 8 ∷ []))
    (sent 2 (part 0 2048)
    (sent 3 (part 2048 2048)
    (sent 4 (part 4096 4) (gives 0x21 1 5 none ∷ waiting 0 ∷ last))))))

abbrev pub cases : List Case
cases =
    layout_text "04*016Kg,01*064Kg,07*128Kg" (reads (says 0 (12 ∷ [])) 1048576)
    ∷ layout_text "1*4095Mg" (reads (says 0 (1 ∷ [])) 4293918720)
    ∷ layout_text "1*4096Mg" (reads (says 21 []) 0)
    ∷ layout_text "0*16Kg" (reads (says 0 (0 ∷ [])) 0)
    ∷ layout_text "4*Kg" (reads (says 11 (2 ∷ 0 ∷ [])) 0)
    ∷ layout_text "4096*1Kg" (reads (says 0 (4096 ∷ [])) 4194304)
    ∷ layout_text "4097*1Kg" (reads (says 22 []) 0)
    ∷ interface_string "@Internal Flash  /0x08000000/04*016Kg,01*064Kg,07*128Kg" (reads (says 0 (0x08000000 ∷ 12 ∷ [])) 1048576)
    ∷ interface_string "@Option Bytes  /0x1FFFC000/01*016 e" (reads (says 0 (0x1FFFC000 ∷ 1 ∷ [])) 16)
    ∷ interface_string "@OTP Memory /0x1FFF7800/01*512 e,01*016 e" (reads (says 0 (0x1FFF7800 ∷ 2 ∷ [])) 528)
    ∷ interface_string "@Device Feature/0xFFFF0000/01*004 e" (reads (says 0 (0xFFFF0000 ∷ 1 ∷ [])) 4)
    ∷ interface_string "@Internal Flash  /0x08000000/12*001Ka,116*001Kg" (reads (says 0 (0x08000000 ∷ 128 ∷ [])) 131072)
    ∷ interface_string "@SPI Flash : M25P64/0x00000000/128*064Kg" (reads (says 0 (0 ∷ 128 ∷ [])) 8388608)
    ∷ interface_string "@NOR Flash : M29W128F/0x64000000/0256*64Kg" (reads (says 0 (0x64000000 ∷ 256 ∷ [])) 16777216)
    ∷ interface_string "@Option Bytes  /0x1FFFF800/01*016Be" (reads (says 0 (0x1FFFF800 ∷ 1 ∷ [])) 16)
    ∷ session_run (at 0xFFFFF000 4095 (4096 ∷ []) 64) (idle []) (runs (opening []) (says 4 []))
    ∷ session_run (at 0xFFFFF000 4096 (4096 ∷ []) 64) [] (unbegun (says 5 []))
    ∷ session_run (at 0 2048 (1024 ∷ 1024 ∷ []) 64) (idle (write 5 5 (write 5 5 [])))
    (runs (opening (sent 0 (these (0x41 ∷ 0 ∷ 0 ∷ 0 ∷ 0 ∷ [])) (sent 0 (these (0x41 ∷ 0 ∷ 4 ∷ 0 ∷ 0 ∷ [])) (gives 0x21 1 0 (these (0x21 ∷ 0 ∷ 0 ∷ 0 ∷ 0 ∷ [])) ∷ [])))) (says 0 (1 ∷ 0x21 ∷ 1 ∷ 0 ∷ 0 ∷ 5 ∷ [])))
    ∷ session_run (at 0 2049 (1024 ∷ 1024 ∷ []) 64) (idle (write 5 5 (write 5 5 [])))
    (runs (opening (sent 0 (these (0x41 ∷ 0 ∷ 0 ∷ 0 ∷ 0 ∷ [])) (sent 0 (these (0x41 ∷ 0 ∷ 4 ∷ 0 ∷ 0 ∷ [])) []))) (says 5 []))
    ∷ session_run (plain 8 10 64) (idle (write 5 5 (write 5 5 []))) (runs (opening (gives 0x21 1 0 (part 0 8) ∷ [])) (says 28 (5 ∷ 8 ∷ [])))
    ∷ session_run (dfuse 8 524264 64) [] (runs (status ∷ []) (says 0 (1 ∷ 0xA1 ∷ 3 ∷ 0 ∷ 6 ∷ 0 ∷ [])))
    ∷ session_run (dfuse 8 524280 64) [] (unbegun (says 29 []))
    ∷ session_run (plain 8 10 64) (failing 10 ∷ counts 0 ∷ shows 2 ∷ counts 8 ∷ waited ∷ failing 5 ∷ [])
    (runs (status ∷ gives 0x21 4 0 none ∷ status ∷ sent 0 (part 0 8) []) (says 27 (3 ∷ [])))
    ∷ session_run (whole_case 14) whole_answers (runs (whole_list (status ∷ resetting ∷ [])) (says 0 (5 ∷ [])))
    ∷ session_run (whole_case 13) whole_answers (runs (whole_list []) (says 23 []))
    ∷ session_end tolerant (idle (write 4 5 (write 0 2 [])))
    (ends (opening (sent 0 (part 0 4) (sent 1 none [])))
    (mk (record { dfuse = false; address = 0; length = 4; pages = 0; size = 8; tolerant = true; detach = false })
    (record { stage = Stage.Ending; erased = 0; page = 0; accepted = 4 })
    58
    (Phase.Finished End.Stays)))
    ∷ session_end (at 16 4 (8 ∷ []) 2) (idle [])
    (ends (opening [])
    (mk (record { dfuse = true; address = 16; length = 4; pages = 1; size = 2048; tolerant = false; detach = false })
    (record { stage = Stage.Erasing; erased = 16; page = 0; accepted = 0 })
    0
    (Phase.Refused Error.BudgetSpent)))
    ∷ []

abbrev pub run : Case → Outcome
run (layout_text t o) = layout_run (codes t)
run (interface_string t o) = string_run (codes t)
run (session_run x more o) = run_of x.pages more (begins x)
run (session_end x more o) = end_of x.pages more (begins x)

abbrev pub wanted : Case → Outcome
wanted (layout_text t o) = o
wanted (interface_string t o) = o
wanted (session_run x more o) = o
wanted (session_end x more o) = o
