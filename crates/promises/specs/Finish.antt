-- What it is for a run to finish as it ought to.
use Rattle.std.specs.Prelude.{ℕ, ◌≤◌, ◌≡◌, List, length, Result, Ok, Err}
use Rattle.promises.specs.Words.{DfuProtocol, Todo, End, Error, download, Phase, Session, Step, Answer, told, DfuSansIo}
use Rattle.promises.specs.Run.{opened, after_by, transfers, cleared, Unrefused}
use Rattle.promises.specs.Fair.{heeded_by, AllYesBy, requests_of, bound, answers_for, end_of_run}

-- no answer is a refusal, 24 in between apart; the transfers stay within the bound for so many requests; told enough answers it is over, and ends so
pub record FinishesIn (f : Session → Answer → Step) (k requests : ℕ) (x : End) (s : Session) (more : List Answer) : Type 0 where
  pub unrefused : Unrefused (after_by f (opened s) more).session.phase
  pub agreed : AllYesBy f s (heeded_by f s more)
  pub within : length (transfers (after_by f (opened s) more).past) ≤ bound k (cleared (after_by f (opened s) more).past) requests
  pub done : answers_for k requests ≤ length (heeded_by f s more) → (after_by f (opened s) more).session.phase ≡ Phase.Finished x

-- a download: its requests, and the end that the device's bits say
abbrev pub FinishesBy : (Session → Answer → Step) → ℕ → DfuSansIo → DfuProtocol → List ℕ → List ℕ → Session → List Answer → Type 0
FinishesBy f k io p fw ps s more = FinishesIn f k (requests_of io p fw ps) (end_of_run io.descriptor.manifestation_tolerant io.descriptor.will_detach) s more

abbrev pub Finishes : ℕ → DfuSansIo → DfuProtocol → List ℕ → List ℕ → Session → List Answer → Type 0
Finishes k io p fw ps s more = FinishesBy (told (download ps)) k io p fw ps s more

-- a wish that ends, if it does, in one way
abbrev pub EndsAs : End → Result Todo Error → Type 0
EndsAs x (Ok (Todo.Send c then)) = Unit
EndsAs x (Ok (Todo.End e)) = e ≡ x
EndsAs x (Err e) = Unit
