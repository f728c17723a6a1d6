-- A call with what is lent to it, and the data of its request: document 01, 'One session, step by step'.
use Rattle.std.specs.Prelude.{ℕ, Bool, true, false, List, [], length, ◌==◌, nat_lt, Result, Ok, Err}
use Rattle.ground.specs.Pick.{pick}
use Rattle.wire.specs.Wire.{filled_for, request_data}
use Rattle.work.specs.declared.Setup.{Setup}
use Rattle.work.specs.declared.Error.{Error}
use Rattle.download.specs.Download.{download}
use Rattle.machine.specs.declared.Ask.{Ask}
use Rattle.machine.specs.Machine.{asks_at, liveb}
use Rattle.session.specs.declared.Session.{Session}
use Rattle.session.specs.declared.Step.{Step}
use Rattle.session.specs.Told.{Answer, told}

-- firmware and page count as at start, and 5 command bytes; plain DFU doesn't count pages
unfoldable pub as_at_start : Setup → ℕ → ℕ → ℕ → Bool
as_at_start su firmware pages command =
    pick (firmware == su.length) (pick (nat_lt command 5) false (pick su.dfuse (pages == su.pages) true)) false

-- an ended session repeats its answer; on a live one 25 is tested before all else
unfoldable pub guard_of : Session → ℕ → ℕ → ℕ → Result Unit Ask
guard_of s firmware pages command =
    pick (liveb s.phase) (pick (as_at_start s.setup firmware pages command) (Ok tt) (Err (Ask.Refused Error.NotAsAtStart))) (Err (asks_at s.phase))

abbrev pub through : Result Unit Ask → Session → Step → Step
through (Ok opened) s st = st
through (Err ask) s st = record { next = s; says = ask }

-- a call, with what is lent to it
unfoldable pub called : ℕ → List ℕ → ℕ → Session → Answer → Step
called firmware ps command s a = through (guard_of s firmware (length ps) command) s (told (download ps) s a)

-- the command bytes after a call: filled for the request that it issues
abbrev pub filled_by : Ask → List ℕ → List ℕ
filled_by (Ask.Transfer q) cmd = filled_for q cmd
filled_by (Ask.Wait ms) cmd = cmd
filled_by Ask.Reset cmd = cmd
filled_by (Ask.Finished e) cmd = cmd
filled_by (Ask.Refused e) cmd = cmd

-- what a call answers, and the command bytes after it
pub record Outcome : Type 0 where
  pub step : Step
  pub command : List ℕ

abbrev pub out : Step → List ℕ → Outcome
out st cmd = record { step = st; command = cmd }

abbrev pub filled : Step → List ℕ → Outcome
filled st cmd = out st (filled_by st.says cmd)

unfoldable pub call_of : List ℕ → List ℕ → List ℕ → Session → Answer → Outcome
call_of firmware ps cmd s a = filled (called (length firmware) ps (length cmd) s a) cmd

-- the data of what is asked
abbrev pub ask_data : Ask → List ℕ → List ℕ → List ℕ
ask_data (Ask.Transfer q) fw cmd = request_data q fw cmd
ask_data (Ask.Wait ms) fw cmd = []
ask_data Ask.Reset fw cmd = []
ask_data (Ask.Finished e) fw cmd = []
ask_data (Ask.Refused e) fw cmd = []

-- where firmware length and command bytes are as the tellings ask; else nothing
unfoldable pub data_of : Session → List ℕ → List ℕ → List ℕ
data_of s fw cmd = pick (length fw == s.setup.length) (pick (nat_lt (length cmd) 5) [] (ask_data (asks_at s.phase) fw cmd)) []
