-- A run: a session and its past, told one answer after the other.
use Rattle.std.specs.Prelude.{ℕ, suc, ◌≡◌, List, [], ◌∷◌, ◌++◌, Result, Ok, Err}
use Rattle.get_status.specs.Names.{state_byte}
use Rattle.get_status.specs.declared.GetStatusMessage.{GetStatusMessage}
use Rattle.get_status.specs.declared.Error.{Error as ReplyError}
use Rattle.machine.specs.Machine.{first_reply, later_reply, asks_at}
use Rattle.promises.specs.Words.{Command, Request, Wait, Work, Phase, Ask, Session, Step, Answer, count, reply, waited, was_reset, failed, told}

-- what happens: a transfer is issued; an awaited reply shows a state and its milliseconds; the host is asked to wait so many, or for the USB reset
pub data Event : Type 0 where
  sends : Request → Event
  hears : ℕ → ℕ → Event
  waits : ℕ → Event
  resets : Event

-- what an answer has the host do
abbrev pub sent_by : Ask → List Event
sent_by (Ask.Transfer q) = sends q ∷ []
sent_by (Ask.Wait ms) = waits ms ∷ []
sent_by Ask.Reset = resets ∷ []
sent_by (Ask.Finished e) = []
sent_by (Ask.Refused e) = []

-- what a reply shows, if it is read
abbrev pub shown_by : Result GetStatusMessage ReplyError → List Event
shown_by (Err e) = []
shown_by (Ok m) = hears (state_byte m.state) m.poll_timeout ∷ []

abbrev pub shown_first : Answer → List Event
shown_first (count n) = []
shown_first (reply bs) = shown_by (first_reply bs)
shown_first waited = []
shown_first was_reset = []
shown_first failed = []

abbrev pub shown_later : Answer → List Event
shown_later (count n) = []
shown_later (reply bs) = shown_by (later_reply bs)
shown_later waited = []
shown_later was_reset = []
shown_later failed = []

-- where a reply is awaited
abbrev pub heard_at : Phase → Answer → List Event
heard_at Phase.First a = shown_first a
heard_at Phase.Clear a = []
heard_at Phase.Second a = shown_later a
heard_at (Phase.Sent c) a = []
heard_at (Phase.Waiting (Wait.Pause b t ms)) a = []
heard_at (Phase.Waiting (Wait.Poll b t)) a = shown_later a
heard_at Phase.Resetting a = []
heard_at (Phase.Finished e) a = []
heard_at (Phase.Refused e) a = []

-- a session, and what has happened to it, the latest first
pub record World : Type 0 where
  pub session : Session
  pub past : List Event

-- a session that has just started has issued what it asks
abbrev pub opened : Session → World
opened s = record { session = s; past = sent_by (asks_at s.phase) }

-- one told answer, and a list of them, by any way of telling
abbrev pub tell_by : (Session → Answer → Step) → World → Answer → World
tell_by f x a = record {
  session = (f x.session a).next;
  past = sent_by (f x.session a).says ++ (heard_at x.session.phase a ++ x.past);
}

unfoldable pub after_by : (Session → Answer → Step) → World → List Answer → World
after_by f x [] = x
after_by f x (a ∷ more) = after_by f (tell_by f x a) more

-- by the machine's way
abbrev pub tell : Work → World → Answer → World
tell w x a = tell_by (told w) x a

abbrev pub after : Work → World → List Answer → World
after w x more = after_by (told w) x more

-- a past in the order of time, its transfers, and the download requests among them
unfoldable pub in_time : List Event → List Event
in_time [] = []
in_time (e ∷ past) = in_time past ++ (e ∷ [])

unfoldable pub transfers : List Event → List Request
transfers [] = []
transfers (sends q ∷ past) = transfers past ++ (q ∷ [])
transfers (hears st ms ∷ past) = transfers past
transfers (waits ms ∷ past) = transfers past
transfers (resets ∷ past) = transfers past

unfoldable pub commanded : List Event → List Command
commanded [] = []
commanded (sends Request.GetStatus ∷ past) = commanded past
commanded (sends Request.ClearStatus ∷ past) = commanded past
commanded (sends (Request.Command c) ∷ past) = commanded past ++ (c ∷ [])
commanded (hears st ms ∷ past) = commanded past
commanded (waits ms ∷ past) = commanded past
commanded (resets ∷ past) = commanded past

-- the clears that were sent
unfoldable pub cleared : List Event → ℕ
cleared [] = 0
cleared (sends Request.GetStatus ∷ past) = cleared past
cleared (sends Request.ClearStatus ∷ past) = suc (cleared past)
cleared (sends (Request.Command c) ∷ past) = cleared past
cleared (hears st ms ∷ past) = cleared past
cleared (waits ms ∷ past) = cleared past
cleared (resets ∷ past) = cleared past

-- a session that is not refused; one that is finished
abbrev pub Unrefused : Phase → Type 0
Unrefused Phase.First = Unit
Unrefused Phase.Clear = Unit
Unrefused Phase.Second = Unit
Unrefused (Phase.Sent c) = Unit
Unrefused (Phase.Waiting x) = Unit
Unrefused Phase.Resetting = Unit
Unrefused (Phase.Finished e) = Unit
Unrefused (Phase.Refused e) = ⊥

abbrev pub Over : Phase → Type 0
Over Phase.First = ⊥
Over Phase.Clear = ⊥
Over Phase.Second = ⊥
Over (Phase.Sent c) = ⊥
Over (Phase.Waiting x) = ⊥
Over Phase.Resetting = ⊥
Over (Phase.Finished e) = Unit
Over (Phase.Refused e) = ⊥

-- a command that was taken whole: a block's count is its length, any other isn't looked at
abbrev pub Taken : Command → ℕ → Type 0
Taken (Command.Erase a) n = Unit
Taken (Command.SetAddress a) n = Unit
Taken (Command.Block b f m) n = n ≡ m
Taken (Command.Empty b) n = Unit
