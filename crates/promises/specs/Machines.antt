-- The promises as predicates on a machine, and machines that each lack one.
use Rattle.std.specs.Prelude.{ℕ, ◌+◌, ◌*◌, ◌<◌, ◌≤◌, ◌≡◌, List, ◌++◌, map, length, nat_lt, Result, Ok, Err}
use Rattle.papers.specs.Plan.{Dnload}
use Rattle.work.specs.Work.{whole_of}
use Rattle.download.specs.Download.{erase_next, next_of, took_of}
use Rattle.machine.specs.Machine.{proceed}
use Rattle.session.specs.Told.{over, go, stay}
use Rattle.start.specs.Start.{begin_of, said_started}
use Rattle.start.specs.declared.StartError.{StartError}
use Rattle.plan.specs.Sent.{on_wire, plan_of}
use Rattle.promises.specs.Words.{pick, DfuProtocol, Command, Request, Setup, Progress, Stage, Todo, End, Error, download, Phase, Ask, Session, Step, Answer, count, reply, waited, was_reset, failed, mk, told, DfuSansIo}
use Rattle.promises.specs.Run.{opened, after, after_by, transfers, commanded, cleared, Over}
use Rattle.promises.specs.Whole.{Listed}
use Rattle.promises.specs.Fair.{heeded_by, FairBy, Ready, requests_of, bound}
use Rattle.promises.specs.Finish.{FinishesBy}
use Rattle.promises.specs.Believed.{WholeAt, AllAtBy}

-- how it starts, from start's own numbers, and how it is told an answer, with the pages that are lent
pub record Machine : Type 0 where
  pub start : DfuSansIo → DfuProtocol → ℕ → ℕ → ℕ → Result Session StartError
  pub told : List ℕ → Session → Answer → Step

abbrev pub ours : Machine
ours = record { start = begin_of; told = λ ps s a. told (download ps) s a }

abbrev pub Began : Machine → DfuSansIo → DfuProtocol → List ℕ → List ℕ → ℕ → Session → Type 0
Began m io p fw ps budget s = m.start io p (length fw) (length ps) budget ≡ Ok s

-- 2: a finished run has sent the plan, and every run a leading part of it
abbrev pub SendsThePlan : Machine → Type 0
SendsThePlan m =
    (io : DfuSansIo) (p : DfuProtocol) (fw ps : List ℕ) (budget : ℕ) (s : Session) (more : List Answer)
    → 0 < length fw → 0 < io.descriptor.transfer_size → Began m io p fw ps budget s
    → Over (after_by (m.told ps) (opened s) more).session.phase
    → map (on_wire fw) (commanded (after_by (m.told ps) (opened s) more).past) ≡ plan_of io p fw ps

abbrev pub LeadsThePlan : Machine → Type 0
LeadsThePlan m =
    (io : DfuSansIo) (p : DfuProtocol) (fw ps : List ℕ) (budget : ℕ) (s : Session) (more : List Answer)
    → 0 < length fw → 0 < io.descriptor.transfer_size → Began m io p fw ps budget s
    → (rest : List Dnload) × (map (on_wire fw) (commanded (after_by (m.told ps) (opened s) more).past) ++ rest ≡ plan_of io p fw ps)

-- the transfers of every run, whatever is told, are those of the definition, which the comparison with the Rust runs
abbrev pub RequestsAll : Machine → Type 0
RequestsAll m =
    (io : DfuSansIo) (p : DfuProtocol) (fw ps : List ℕ) (budget : ℕ) (s : Session) (more : List Answer) → Began m io p fw ps budget s
    → transfers (after_by (m.told ps) (opened s) more).past ≡ transfers (after (download ps) (opened s) more).past

-- start is refused exactly when document 01 says, under its number
abbrev pub RefusesExactly : Machine → Type 0
RefusesExactly m = (io : DfuSansIo) (p : DfuProtocol) (n pages budget : ℕ) → said_started (m.start io p n pages budget) ≡ said_started (begin_of io p n pages budget)

-- 3: all that happens in a finished run
abbrev pub ListsAll : Machine → Type 0
ListsAll m =
    (io : DfuSansIo) (p : DfuProtocol) (fw ps : List ℕ) (budget : ℕ) (s : Session) (more : List Answer)
    → 0 < length fw → 0 < io.descriptor.transfer_size → Began m io p fw ps budget s
    → Over (after_by (m.told ps) (opened s) more).session.phase → Listed io p fw ps (after_by (m.told ps) (opened s) more).past

-- 4: it starts, and with a fair device and the budget it finishes
abbrev pub Starts : Machine → Type 0
Starts m = (io : DfuSansIo) (p : DfuProtocol) (fw ps : List ℕ) (budget : ℕ) → Ready io p fw ps → 0 < budget → (s : Session) × Began m io p fw ps budget s

abbrev pub Finishing : Machine → Type 0
Finishing m =
    (io : DfuSansIo) (p : DfuProtocol) (fw ps : List ℕ) (k budget : ℕ) (s : Session) (more : List Answer) → Ready io p fw ps → Began m io p fw ps budget s
    → FairBy k 0 (m.told ps) s (heeded_by (m.told ps) s more)
    → bound k (cleared (after_by (m.told ps) (opened s) more).past) (requests_of io p fw ps) ≤ budget → FinishesBy (m.told ps) k io p fw ps s more

-- 5: 3 + (P + B + 2)(k + 2) always suffices
abbrev pub Sufficing : Machine → Type 0
Sufficing m =
    (io : DfuSansIo) (p : DfuProtocol) (fw ps : List ℕ) (k budget : ℕ) (s : Session) (more : List Answer) → Ready io p fw ps → Began m io p fw ps budget s
    → FairBy k 0 (m.told ps) s (heeded_by (m.told ps) s more) → 3 + requests_of io p fw ps * (k + 2) ≤ budget → FinishesBy (m.told ps) k io p fw ps s more

-- 6: what is spent is the length of the transfer list
abbrev pub Spends : Machine → Type 0
Spends m =
    (io : DfuSansIo) (p : DfuProtocol) (fw ps : List ℕ) (budget : ℕ) (s : Session) (more : List Answer) → Began m io p fw ps budget s
    → (after_by (m.told ps) (opened s) more).session.left + length (transfers (after_by (m.told ps) (opened s) more).past) ≡ budget

-- every block of a finished run was taken whole
abbrev pub WholeBlocks : Machine → Type 0
WholeBlocks m =
    (io : DfuSansIo) (p : DfuProtocol) (fw ps : List ℕ) (budget : ℕ) (s : Session) (more : List Answer) → Began m io p fw ps budget s
    → Over (after_by (m.told ps) (opened s) more).session.phase → AllAtBy WholeAt (m.told ps) s more

-- always refusing
abbrev pub refusing : Machine
refusing = record { start = λ io p n pages budget. Err StartError.NoSpaceLeft; told = ours.told }

-- one fixed answer
abbrev pub fixed : Machine
fixed = record { start = begin_of; told = λ ps s a. record { next = s; says = Ask.Transfer Request.GetStatus } }

-- doing nothing
abbrev pub idle : Machine
idle = record { start = begin_of; told = λ ps s a. stay s Error.NotAwaited }

-- finishing at the first call
abbrev pub hasty : Machine
hasty = record { start = begin_of; told = λ ps s a. go (mk s.setup s.progress s.left (Phase.Finished End.Stays)) }

-- blocks without asking for status: a count leads to the next request at once
abbrev pub at_once : List ℕ → Setup → ℕ → Progress → Session
at_once ps su l then = over su (proceed then l (next_of ps su then))

-- ours, but for the count of a command, from which it makes a step of its own
abbrev pub counting_by : List ℕ → (Command → Step) → Session → Phase → Answer → Step
counting_by ps f s (Phase.Sent c) (count n) = f c
counting_by ps f s (Phase.Sent c) (reply bs) = told (download ps) s (reply bs)
counting_by ps f s (Phase.Sent c) waited = told (download ps) s waited
counting_by ps f s (Phase.Sent c) was_reset = told (download ps) s was_reset
counting_by ps f s (Phase.Sent c) failed = told (download ps) s failed
counting_by ps f s Phase.First a = told (download ps) s a
counting_by ps f s Phase.Clear a = told (download ps) s a
counting_by ps f s Phase.Second a = told (download ps) s a
counting_by ps f s (Phase.Waiting x) a = told (download ps) s a
counting_by ps f s Phase.Resetting a = told (download ps) s a
counting_by ps f s (Phase.Finished e) a = told (download ps) s a
counting_by ps f s (Phase.Refused e) a = told (download ps) s a

abbrev pub blind : Machine
blind = record {
  start = begin_of;
  told = λ ps s a. counting_by ps (λ c. go (at_once ps s.setup s.left (took_of s.setup s.progress c))) s s.phase a;
}

-- never waiting: where a pause is asked for it is told over at once
abbrev pub awake : List ℕ → Session → Ask → Step
awake ps s (Ask.Transfer q) = record { next = s; says = Ask.Transfer q }
awake ps s (Ask.Wait ms) = told (download ps) s waited
awake ps s Ask.Reset = record { next = s; says = Ask.Reset }
awake ps s (Ask.Finished e) = record { next = s; says = Ask.Finished e }
awake ps s (Ask.Refused e) = record { next = s; says = Ask.Refused e }

abbrev pub restless : Machine
restless = record { start = begin_of; told = λ ps s a. awake ps (told (download ps) s a).next (told (download ps) s a).says }

-- never resetting: every device stays
abbrev pub staying : Result Todo Error → Result Todo Error
staying (Ok (Todo.Send c then)) = Ok (Todo.Send c then)
staying (Ok (Todo.End e)) = Ok (Todo.End End.Stays)
staying (Err e) = Err e

abbrev pub unreset : Machine
unreset = record { start = begin_of; told = λ ps s a. told (record { next = λ su pr. staying (next_of ps su pr); took = λ su pr c n. took_of su pr c }) s a }

-- any count taken for a whole block
abbrev pub credulous : Machine
credulous = record { start = begin_of; told = λ ps s a. counting_by ps (λ c. told (download ps) s (count (whole_of c))) s s.phase a }

-- an invented spend: nothing is ever left
abbrev pub spent_all : Step → Step
spent_all x = record { next = mk x.next.setup x.next.progress 0 x.next.phase; says = x.says }

abbrev pub inventive : Machine
inventive = record { start = begin_of; told = λ ps s a. spent_all (told (download ps) s a) }

-- the first number 3: every block's is one up
abbrev pub one_up : Result Todo Error → Result Todo Error
one_up (Ok (Todo.Send (Command.Erase a) then)) = Ok (Todo.Send (Command.Erase a) then)
one_up (Ok (Todo.Send (Command.SetAddress a) then)) = Ok (Todo.Send (Command.SetAddress a) then)
one_up (Ok (Todo.Send (Command.Block n f m) then)) = Ok (Todo.Send (Command.Block (n + 1) f m) then)
one_up (Ok (Todo.Send (Command.Empty n) then)) = Ok (Todo.Send (Command.Empty (n + 1)) then)
one_up (Ok (Todo.End e)) = Ok (Todo.End e)
one_up (Err e) = Err e

abbrev pub numbered_from_three : Machine
numbered_from_three = record { start = begin_of; told = λ ps s a. told (record { next = λ su pr. one_up (next_of ps su pr); took = λ su pr c n. took_of su pr c }) s a }

-- one page more: the erases go on to one byte past the target
abbrev pub longer : Setup → Setup
longer su = record {
  dfuse = su.dfuse;
  address = su.address;
  length = su.length + 1;
  pages = su.pages;
  size = su.size;
  tolerant = su.tolerant;
  detach = su.detach;
}

abbrev pub one_page_more_at : Stage → List ℕ → Setup → Progress → Result Todo Error
one_page_more_at Stage.Erasing ps su pr = erase_next ps (longer su) pr
one_page_more_at Stage.Writing ps su pr = next_of ps su pr
one_page_more_at Stage.Ending ps su pr = next_of ps su pr

abbrev pub one_page_more : Machine
one_page_more = record {
  start = begin_of;
  told = λ ps s a. told (record { next = λ su pr. one_page_more_at pr.stage ps su pr; took = λ su pr c n. took_of su pr c }) s a;
}

-- the address set twice: once more before the first block, which the page index marks
abbrev pub marked : Progress → Progress
marked pr = record {
  stage = Stage.Writing;
  erased = pr.erased;
  page = 1000;
  accepted = pr.accepted;
}

abbrev pub twice_at : Stage → List ℕ → Setup → Progress → Result Todo Error
twice_at Stage.Erasing ps su pr = next_of ps su pr
twice_at Stage.Writing ps su pr = pick (nat_lt pr.page 1000) (Ok (Todo.Send (Command.SetAddress su.address) (marked pr))) (next_of ps su pr)
twice_at Stage.Ending ps su pr = next_of ps su pr

abbrev pub address_twice : Machine
address_twice = record {
  start = begin_of;
  told = λ ps s a. told (record { next = λ su pr. twice_at pr.stage ps su pr; took = λ su pr c n. took_of su pr c }) s a;
}
