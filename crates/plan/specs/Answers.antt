-- Answers: which aren't replies, and what a device and a host tell that answer at once.
use Rattle.std.specs.Prelude.{[], ◌∷◌}
use Rattle.get_status.specs.Names.{state_byte}
use Rattle.get_status.specs.declared.State.{State}
use Rattle.work.specs.Work.{whole_of}
use Rattle.work.specs.declared.Wait.{Wait}
use Rattle.machine.specs.declared.Phase.{Phase}
use Rattle.session.specs.Told.{Answer, count, reply, waited, was_reset, failed}

-- an answer that isn't a reply
abbrev pub Unreplied : Answer → Type 0
Unreplied (count n) = Unit
Unreplied (reply bs) = ⊥
Unreplied waited = Unit
Unreplied was_reset = Unit
Unreplied failed = Unit

-- a reply that shows a state
abbrev pub showing : State → Answer
showing st = reply (0 ∷ 0 ∷ 0 ∷ 0 ∷ state_byte st ∷ 0 ∷ [])

-- idle in the opening, a full count, the target of a wait, the reset done; an ended session may be told anything
abbrev pub ideal : Phase → Answer
ideal Phase.First = showing State.DfuIdle
ideal Phase.Clear = count 0
ideal Phase.Second = showing State.DfuIdle
ideal (Phase.Sent c) = count (whole_of c)
ideal (Phase.Waiting (Wait.Pause b t ms)) = waited
ideal (Phase.Waiting (Wait.Poll b t)) = showing t
ideal Phase.Resetting = was_reset
ideal (Phase.Finished e) = waited
ideal (Phase.Refused e) = waited
