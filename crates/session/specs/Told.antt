-- A session as a machine over told answers, whatever the work: document 01, 'One session, step by step' and 'When the box says no'.
use Rattle.std.specs.Prelude.{ℕ, List}
use Rattle.work.specs.declared.Error.{Error}
use Rattle.work.specs.declared.Setup.{Setup}
use Rattle.work.specs.declared.Progress.{Progress}
use Rattle.work.specs.Work.{Work}
use Rattle.work.specs.declared.Wait.{Wait}
use Rattle.work.specs.declared.End.{End}
use Rattle.machine.specs.declared.Phase.{Phase}
use Rattle.machine.specs.declared.Moved.{Moved}
use Rattle.machine.specs.Machine.{to, refuse, issue, on_count, first_reply, later_reply, reading, on_first, on_second, on_poll, asks_at}
use Rattle.machine.specs.declared.Ask.{Ask}
use Rattle.session.specs.declared.Session.{Session}
use Rattle.session.specs.declared.Step.{Step}

-- what the host tells
pub data Answer : Type 0 where
  count : ℕ → Answer
  reply : List ℕ → Answer
  waited : Answer
  was_reset : Answer
  failed : Answer

abbrev pub mk : Setup → Progress → ℕ → Phase → Session
mk su pr l p = record { setup = su; progress = pr; left = l; phase = p }

-- the setup stays
abbrev pub over : Setup → Moved → Session
over su m = mk su m.progress m.left m.phase

abbrev pub go : Session → Step
go s = record { next = s; says = asks_at s.phase }

-- 24 and 25 leave the session unchanged
abbrev pub stay : Session → Error → Step
stay s e = record { next = s; says = Ask.Refused e }

abbrev pub fail : Session → Step
fail s = go (over s.setup (refuse s.progress s.left Error.Failed))

-- each kind of awaiting: the awaited answer, a failure, anything else
abbrev pub await_reply : Session → (List ℕ → Moved) → Answer → Step
await_reply s f (count n) = stay s Error.NotAwaited
await_reply s f (reply bs) = go (over s.setup (f bs))
await_reply s f waited = stay s Error.NotAwaited
await_reply s f was_reset = stay s Error.NotAwaited
await_reply s f failed = fail s

abbrev pub await_count : Session → (ℕ → Moved) → Answer → Step
await_count s f (count n) = go (over s.setup (f n))
await_count s f (reply bs) = stay s Error.NotAwaited
await_count s f waited = stay s Error.NotAwaited
await_count s f was_reset = stay s Error.NotAwaited
await_count s f failed = fail s

-- a failure told during a wait is 24
abbrev pub await_wait : Session → Moved → Answer → Step
await_wait s m (count n) = stay s Error.NotAwaited
await_wait s m (reply bs) = stay s Error.NotAwaited
await_wait s m waited = go (over s.setup m)
await_wait s m was_reset = stay s Error.NotAwaited
await_wait s m failed = stay s Error.NotAwaited

abbrev pub await_reset : Session → Moved → Answer → Step
await_reset s m (count n) = stay s Error.NotAwaited
await_reset s m (reply bs) = stay s Error.NotAwaited
await_reset s m waited = stay s Error.NotAwaited
await_reset s m was_reset = go (over s.setup m)
await_reset s m failed = fail s

-- one told answer, by the phase; an ended session repeats its answer
abbrev pub told_at : Work → Setup → Progress → ℕ → Phase → Answer → Step
told_at w su pr l Phase.First a = await_reply (mk su pr l Phase.First) (λ bs. reading pr l (first_reply bs) (on_first pr l)) a
told_at w su pr l Phase.Clear a = await_count (mk su pr l Phase.Clear) (λ n. issue pr l pr Phase.Second) a
told_at w su pr l Phase.Second a = await_reply (mk su pr l Phase.Second) (λ bs. reading pr l (later_reply bs) (on_second pr l (w.next su pr))) a
told_at w su pr l (Phase.Sent c) a = await_count (mk su pr l (Phase.Sent c)) (λ n. on_count su pr l c (w.took su pr c n) n) a
told_at w su pr l (Phase.Waiting (Wait.Pause b t ms)) a = await_wait (mk su pr l (Phase.Waiting (Wait.Pause b t ms))) (issue pr l pr (Phase.Waiting (Wait.Poll b t))) a
told_at w su pr l (Phase.Waiting (Wait.Poll b t)) a =
    await_reply (mk su pr l (Phase.Waiting (Wait.Poll b t))) (λ bs. reading pr l (later_reply bs) (on_poll pr l b t (w.next su pr))) a
told_at w su pr l Phase.Resetting a = await_reset (mk su pr l Phase.Resetting) (to pr l (Phase.Finished End.Reset)) a
told_at w su pr l (Phase.Finished e) a = go (mk su pr l (Phase.Finished e))
told_at w su pr l (Phase.Refused e) a = go (mk su pr l (Phase.Refused e))

unfoldable pub told : Work → Session → Answer → Step
told w s a = told_at w s.setup s.progress s.left s.phase a
