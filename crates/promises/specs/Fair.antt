-- A device and a host that do as they ought to: the premises under which an update finishes, and how many transfers it may take.
use Rattle.std.specs.Prelude.{ℕ, ◌+◌, ◌-◌, ◌*◌, ◌<◌, ◌≤◌, Bool, true, false, ◌⊎◌, ◌≡◌, List, [], ◌∷◌, length}
use Rattle.papers.specs.Plan.{sum, commands}
use Rattle.get_status.specs.Names.{state_byte, status_byte}
use Rattle.get_status.specs.Reply.{message_of}
use Rattle.get_status.specs.declared.GetStatusMessage.{GetStatusMessage}
use Rattle.memory_layout.specs.Layout.{max_pages}
use Rattle.work.specs.Work.{limit, block_count}
use Rattle.download.specs.Download.{covering}
use Rattle.protocol.specs.Interface.{dfuseb}
use Rattle.start.specs.Start.{target_of, max_blocks}
use Rattle.promises.specs.Words.{pick, DfuProtocol, Wait, End, Work, Phase, Ask, Session, Step, Answer, count, reply, waited, was_reset, failed, told, DfuSansIo}
use Rattle.promises.specs.Run.{Taken}

-- whether an answer is of the kind that is awaited; a failure is, but in a wait
abbrev pub awaits_reply : Answer → Bool
awaits_reply (count n) = false
awaits_reply (reply bs) = true
awaits_reply waited = false
awaits_reply was_reset = false
awaits_reply failed = true

abbrev pub awaits_count : Answer → Bool
awaits_count (count n) = true
awaits_count (reply bs) = false
awaits_count waited = false
awaits_count was_reset = false
awaits_count failed = true

abbrev pub awaits_wait : Answer → Bool
awaits_wait (count n) = false
awaits_wait (reply bs) = false
awaits_wait waited = true
awaits_wait was_reset = false
awaits_wait failed = false

abbrev pub awaits_reset : Answer → Bool
awaits_reset (count n) = false
awaits_reset (reply bs) = false
awaits_reset waited = false
awaits_reset was_reset = true
awaits_reset failed = true

abbrev pub awaited : Phase → Answer → Bool
awaited Phase.First a = awaits_reply a
awaited Phase.Clear a = awaits_count a
awaited Phase.Second a = awaits_reply a
awaited (Phase.Sent c) a = awaits_count a
awaited (Phase.Waiting (Wait.Pause b t ms)) a = awaits_wait a
awaited (Phase.Waiting (Wait.Poll b t)) a = awaits_reply a
awaited Phase.Resetting a = awaits_reset a
awaited (Phase.Finished e) a = true
awaited (Phase.Refused e) a = true

-- the answers of a run that aren't refused by 24
unfoldable pub heeded_by : (Session → Answer → Step) → Session → List Answer → List Answer
heeded_by f s [] = []
heeded_by f s (a ∷ more) = pick (awaited s.phase a) (a ∷ heeded_by f (f s a).next more) (heeded_by f (f s a).next more)

abbrev pub heeded : Work → Session → List Answer → List Answer
heeded w s more = heeded_by (told w) s more

-- a reply of 6 bytes or more whose message fits
abbrev pub FineReply : (GetStatusMessage → Type 0) → Answer → Type 0
FineReply fits (count n) = ⊥
FineReply fits (reply bs) = (6 ≤ length bs) × fits (message_of bs)
FineReply fits waited = ⊥
FineReply fits was_reset = ⊥
FineReply fits failed = ⊥

-- status 0, and a fitting state: of every reply but the first
abbrev pub Okay : (ℕ → Type 0) → GetStatusMessage → Type 0
Okay shows m = (status_byte m.status ≡ 0) × shows (state_byte m.state)

abbrev pub FineCount : (ℕ → Type 0) → Answer → Type 0
FineCount fits (count n) = fits n
FineCount fits (reply bs) = ⊥
FineCount fits waited = ⊥
FineCount fits was_reset = ⊥
FineCount fits failed = ⊥

abbrev pub FineWait : Answer → Type 0
FineWait (count n) = ⊥
FineWait (reply bs) = ⊥
FineWait waited = Unit
FineWait was_reset = ⊥
FineWait failed = ⊥

abbrev pub FineReset : Answer → Type 0
FineReset (count n) = ⊥
FineReset (reply bs) = ⊥
FineReset waited = ⊥
FineReset was_reset = Unit
FineReset failed = ⊥

-- the awaited answer: a block's count is its length; status 0 in every reply but the first; the second state idle; in a wait the target, or busy while j busy replies are still allowed
abbrev pub Fine : ℕ → Phase → Answer → Type 0
Fine j Phase.First a = FineReply (λ m. Unit) a
Fine j Phase.Clear a = FineCount (λ n. Unit) a
Fine j Phase.Second a = FineReply (Okay (λ st. st ≡ 2)) a
Fine j (Phase.Sent c) a = FineCount (λ n. Taken c n) a
Fine j (Phase.Waiting (Wait.Pause b t ms)) a = FineWait a
Fine j (Phase.Waiting (Wait.Poll b t)) a = FineReply (Okay (λ st. (st ≡ state_byte t) ⊎ ((st ≡ state_byte b) × (0 < j)))) a
Fine j Phase.Resetting a = FineReset a
Fine j (Phase.Finished e) a = Unit
Fine j (Phase.Refused e) a = Unit

-- the busy replies still allowed after an answer: k for a new wait, one fewer after a look
abbrev pub allowed : ℕ → ℕ → Phase → ℕ
allowed k j Phase.First = j
allowed k j Phase.Clear = j
allowed k j Phase.Second = j
allowed k j (Phase.Sent c) = k
allowed k j (Phase.Waiting (Wait.Pause b t ms)) = j
allowed k j (Phase.Waiting (Wait.Poll b t)) = j - 1
allowed k j Phase.Resetting = j
allowed k j (Phase.Finished e) = j
allowed k j (Phase.Refused e) = j

-- each wait meets at most k busy replies, j of them in the wait that is on
unfoldable pub FairBy : ℕ → ℕ → (Session → Answer → Step) → Session → List Answer → Type 0
FairBy k j f s [] = Unit
FairBy k j f s (a ∷ more) = Fine j s.phase a × FairBy k (allowed k j s.phase) f (f s a).next more

abbrev pub Fair : ℕ → ℕ → Work → Session → List Answer → Type 0
Fair k j w s more = FairBy k j (told w) s more

-- no answer of a run is a refusal
abbrev pub Yes : Ask → Type 0
Yes (Ask.Transfer q) = Unit
Yes (Ask.Wait ms) = Unit
Yes Ask.Reset = Unit
Yes (Ask.Finished e) = Unit
Yes (Ask.Refused e) = ⊥

unfoldable pub AllYesBy : (Session → Answer → Step) → Session → List Answer → Type 0
AllYesBy f s [] = Unit
AllYesBy f s (a ∷ more) = Yes (f s a).says × AllYesBy f (f s a).next more

abbrev pub AllYes : Work → Session → List Answer → Type 0
AllYes w s more = AllYesBy (told w) s more

-- firmware not empty and within start's limits (1, 22, 29), a transfer size above zero; DfuSe's covering pages exist and end below 2^32
pub record Ready (io : DfuSansIo) (p : DfuProtocol) (fw ps : List ℕ) : Type 0 where
  pub some : 0 < length fw
  pub short : length fw ≤ 4294967295
  pub sized : 0 < io.descriptor.transfer_size
  pub few : dfuseb p ≡ true → length ps ≤ max_pages
  pub numbered : dfuseb p ≡ true → block_count (length fw) io.descriptor.transfer_size ≤ max_blocks
  pub covered : dfuseb p ≡ true → length fw ≤ sum (covering (length fw) ps)
  pub below : dfuseb p ≡ true → target_of p io.override_address + sum (covering (length fw) ps) < limit

-- P + B + 2 download requests, or B + 1; the transfers that suffice with c clears; the answers that suffice
abbrev pub requests_of : DfuSansIo → DfuProtocol → List ℕ → List ℕ → ℕ
requests_of io p fw ps = commands (dfuseb p) (length fw) io.descriptor.transfer_size ps

abbrev pub bound : ℕ → ℕ → ℕ → ℕ
bound k c requests = 2 + c + requests * (k + 2)

abbrev pub answers_for : ℕ → ℕ → ℕ
answers_for k requests = 4 + requests * (2 * k + 3)

-- the device stays if it is tolerant or will detach; else the end comes after the reset
abbrev pub end_of_run : Bool → Bool → End
end_of_run tolerant detach = pick tolerant End.Stays (pick detach End.Stays End.Reset)
