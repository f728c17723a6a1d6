-- What a step of a session comes to, whatever the work: document 01, 'One session, step by step' and 'When the box says no'.
use Rattle.std.specs.Prelude.{ℕ, zero, suc, Bool, true, false, List, [], ◌∷◌, ◌==◌, Result, Ok, Err}
use Rattle.ground.specs.Pick.{pick}
use Rattle.ground.specs.Said.{Said, says}
use Rattle.get_status.specs.Names.{state_byte}
use Rattle.get_status.specs.Reply.{reply_of, strict_reply_of, judged}
use Rattle.get_status.specs.declared.State.{State}
use Rattle.get_status.specs.declared.GetStatusMessage.{GetStatusMessage}
use Rattle.get_status.specs.declared.Met.{Met}
use Rattle.get_status.specs.declared.Error.{Error as ReplyError}
use Rattle.wire.specs.declared.Command.{Command}
use Rattle.wire.specs.declared.Control.{Control}
use Rattle.wire.specs.Wire.{wire_of}
use Rattle.wire.specs.declared.Request.{Request}
use Rattle.work.specs.declared.Error.{Error}
use Rattle.work.specs.declared.End.{End}
use Rattle.work.specs.declared.Setup.{Setup}
use Rattle.work.specs.declared.Progress.{Progress}
use Rattle.work.specs.declared.Todo.{Todo}
use Rattle.work.specs.Work.{wait_after, whole_of, takenb, refusal_of, said_error}
use Rattle.work.specs.declared.Wait.{Wait}
use Rattle.machine.specs.declared.Phase.{Phase}
use Rattle.machine.specs.declared.Moved.{Moved}
use Rattle.machine.specs.declared.Ask.{Ask}

-- what moves of a session
abbrev pub to : Progress → ℕ → Phase → Moved
to pr l p = record { progress = pr; left = l; phase = p }

-- a refusal moves nothing but the phase
abbrev pub refuse : Progress → ℕ → Error → Moved
refuse pr l e = to pr l (Phase.Refused e)

-- a transfer spends 1 when it is issued; with budget 0 it is 23, before the progress moves
abbrev pub issue : Progress → ℕ → Progress → Phase → Moved
issue pr zero then p = refuse pr zero Error.BudgetSpent
issue pr (suc l) then p = to then l p

-- the end: finished, device stays; or a USB reset first
abbrev pub end_phase : End → Phase
end_phase End.Stays = Phase.Finished End.Stays
end_phase End.Reset = Phase.Resetting

-- what is done about what the work wants
abbrev pub proceed : Progress → ℕ → Result Todo Error → Moved
proceed pr l (Ok (Todo.Send c then)) = issue pr l then (Phase.Sent c)
proceed pr l (Ok (Todo.End e)) = to pr l (end_phase e)
proceed pr l (Err e) = refuse pr l e

-- a command that was taken: the progress moves and the wait begins; any other count of a block is 28, with both numbers
abbrev pub on_count : Setup → Progress → ℕ → Command → Progress → ℕ → Moved
on_count su pr l c then n = pick (takenb c n) (to then l (Phase.Waiting (wait_after su c n))) (refuse pr l (Error.WrongCount n (whole_of c)))

-- the first reply of a session may report the error that CLRSTATUS clears; every later one must have status 0
abbrev pub first_reply : List ℕ → Result GetStatusMessage ReplyError
first_reply bs = reply_of bs

abbrev pub later_reply : List ℕ → Result GetStatusMessage ReplyError
later_reply bs = strict_reply_of bs

-- a reply that can't be read ends the session
abbrev pub reading : Progress → ℕ → Result GetStatusMessage ReplyError → (GetStatusMessage → Moved) → Moved
reading pr l (Ok m) f = f m
reading pr l (Err e) f = refuse pr l (refusal_of e)

-- a step as code has it: where it went, or why it ends the session
abbrev pub or_refuse : Progress → ℕ → Result Moved Error → Moved
or_refuse pr l (Ok m) = m
or_refuse pr l (Err e) = refuse pr l e

-- if state 10, CLRSTATUS; GETSTATUS again
unfoldable pub on_first : Progress → ℕ → GetStatusMessage → Moved
on_first pr l m = issue pr l pr (pick (state_byte m.state == 10) Phase.Clear Phase.Second)

-- not state 2 is refusal 2, expected 2
unfoldable pub on_second : Progress → ℕ → Result Todo Error → GetStatusMessage → Moved
on_second pr l todo m = pick (state_byte m.state == 2) (proceed pr l todo) (refuse pr l (Error.InvalidState m.state State.DfuIdle))

-- target reached: go on; busy: wait the reply's milliseconds and ask again; otherwise 2
abbrev pub on_met : Progress → ℕ → State → State → Result Todo Error → Result Met ReplyError → Moved
on_met pr l b t todo (Ok Met.Reached) = proceed pr l todo
on_met pr l b t todo (Ok (Met.Busy ms)) = to pr l (Phase.Waiting (Wait.Pause b t ms))
on_met pr l b t todo (Err e) = refuse pr l (refusal_of e)

unfoldable pub on_poll : Progress → ℕ → State → State → Result Todo Error → GetStatusMessage → Moved
on_poll pr l b t todo m = on_met pr l b t todo (judged m b t)

-- what a session asks
abbrev pub asks_at : Phase → Ask
asks_at Phase.First = Ask.Transfer Request.GetStatus
asks_at Phase.Clear = Ask.Transfer Request.ClearStatus
asks_at Phase.Second = Ask.Transfer Request.GetStatus
asks_at (Phase.Sent c) = Ask.Transfer (Request.Command c)
asks_at (Phase.Waiting (Wait.Pause b t ms)) = Ask.Wait ms
asks_at (Phase.Waiting (Wait.Poll b t)) = Ask.Transfer Request.GetStatus
asks_at Phase.Resetting = Ask.Reset
asks_at (Phase.Finished e) = Ask.Finished e
asks_at (Phase.Refused e) = Ask.Refused e

-- document 01's number and values for a refusal; 0 for what is asked, and values that tell which: 1 a transfer on the wire, 2 a wait, 3 the reset, 4 and 5 the ends
abbrev pub said_wire : Control → Said
said_wire c = says 0 (1 ∷ c.request_type ∷ c.request ∷ c.value ∷ c.takes ∷ c.carries ∷ [])

abbrev pub said_ask : Ask → Said
said_ask (Ask.Transfer q) = said_wire (wire_of q)
said_ask (Ask.Wait ms) = says 0 (2 ∷ ms ∷ [])
said_ask Ask.Reset = says 0 (3 ∷ [])
said_ask (Ask.Finished End.Stays) = says 0 (4 ∷ [])
said_ask (Ask.Finished End.Reset) = says 0 (5 ∷ [])
said_ask (Ask.Refused e) = said_error e

-- what ends a session: it finished, or was refused
abbrev pub endb : Ask → Bool
endb (Ask.Transfer q) = false
endb (Ask.Wait ms) = false
endb Ask.Reset = false
endb (Ask.Finished e) = true
endb (Ask.Refused e) = true

-- a session that has not ended
abbrev pub liveb : Phase → Bool
liveb Phase.First = true
liveb Phase.Clear = true
liveb Phase.Second = true
liveb (Phase.Sent c) = true
liveb (Phase.Waiting x) = true
liveb Phase.Resetting = true
liveb (Phase.Finished e) = false
liveb (Phase.Refused e) = false

-- a pause of a wait
abbrev pub pausing : Phase → Bool
pausing Phase.First = false
pausing Phase.Clear = false
pausing Phase.Second = false
pausing (Phase.Sent c) = false
pausing (Phase.Waiting (Wait.Pause b t ms)) = true
pausing (Phase.Waiting (Wait.Poll b t)) = false
pausing Phase.Resetting = false
pausing (Phase.Finished e) = false
pausing (Phase.Refused e) = false
