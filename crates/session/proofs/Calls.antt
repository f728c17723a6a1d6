-- Laws for the code of a call: what it answers, by the phase that it found. Assumes nothing.
use Rattle.std.proofs.Common.{◌≡◌, ℕ, true, false, List, refl}
use Rattle.get_status.specs.declared.State.{State}
use Rattle.wire.specs.declared.Command.{Command}
use Rattle.work.specs.declared.Setup.{Setup}
use Rattle.work.specs.declared.Progress.{Progress}
use Rattle.work.specs.Work.{Work}
use Rattle.work.specs.declared.Wait.{Wait}
use Rattle.work.specs.declared.Error.{Error}
use Rattle.machine.specs.declared.Ask.{Ask}
use Rattle.machine.specs.declared.Phase.{Phase}
use Rattle.machine.specs.Machine.{refuse, asks_at, endb, liveb, pausing}
use Rattle.session.specs.Told.{count, reply, waited, was_reset, failed, mk, over, go, stay, told_at}
use Rattle.session.specs.Calls.{filled_by}

-- a session that has ended asks nothing more, and where nothing is asked no command bytes are filled
pub over_asks : (p : Phase) → liveb p ≡ false → endb (asks_at p) ≡ true
over_asks Phase.First h = cc
over_asks Phase.Clear h = cc
over_asks Phase.Second h = cc
over_asks (Phase.Sent c) h = cc
over_asks (Phase.Waiting x) h = cc
over_asks Phase.Resetting h = cc
over_asks (Phase.Finished e) h = refl
over_asks (Phase.Refused e) h = refl

pub nothing_filled : (k : Ask) (cmd : List ℕ) → endb k ≡ true → filled_by k cmd ≡ cmd
nothing_filled (Ask.Transfer q) cmd h = cc
nothing_filled (Ask.Wait ms) cmd h = refl
nothing_filled Ask.Reset cmd h = refl
nothing_filled (Ask.Finished e) cmd h = refl
nothing_filled (Ask.Refused e) cmd h = refl

-- a kind of answer that a live phase doesn't await
module _ (w : Work) (su : Setup) (pr : Progress) (l : ℕ) where
  pub no_count : (n : ℕ) (p : Phase) → liveb p ≡ true → (p ≡ Phase.Clear → ⊥) → ((c : Command) → p ≡ Phase.Sent c → ⊥) → told_at w su pr l p (count n) ≡ stay (mk su pr l p) Error.NotAwaited
  no_count n Phase.First h k j = refl
  no_count n Phase.Clear h k j = absurd (k refl)
  no_count n Phase.Second h k j = refl
  no_count n (Phase.Sent c) h k j = absurd (j _ refl)
  no_count n (Phase.Waiting (Wait.Pause b t ms)) h k j = refl
  no_count n (Phase.Waiting (Wait.Poll b t)) h k j = refl
  no_count n Phase.Resetting h k j = refl
  no_count n (Phase.Finished e) h k j = cc
  no_count n (Phase.Refused e) h k j = cc

  pub no_wait : (p : Phase) → liveb p ≡ true → ((b t : State) (ms : ℕ) → p ≡ Phase.Waiting (Wait.Pause b t ms) → ⊥) → told_at w su pr l p waited ≡ stay (mk su pr l p) Error.NotAwaited
  no_wait Phase.First h k = refl
  no_wait Phase.Clear h k = refl
  no_wait Phase.Second h k = refl
  no_wait (Phase.Sent c) h k = refl
  no_wait (Phase.Waiting (Wait.Pause b t ms)) h k = absurd (k _ _ _ refl)
  no_wait (Phase.Waiting (Wait.Poll b t)) h k = refl
  no_wait Phase.Resetting h k = refl
  no_wait (Phase.Finished e) h k = cc
  no_wait (Phase.Refused e) h k = cc

  pub no_reset : (p : Phase) → liveb p ≡ true → (p ≡ Phase.Resetting → ⊥) → told_at w su pr l p was_reset ≡ stay (mk su pr l p) Error.NotAwaited
  no_reset Phase.First h k = refl
  no_reset Phase.Clear h k = refl
  no_reset Phase.Second h k = refl
  no_reset (Phase.Sent c) h k = refl
  no_reset (Phase.Waiting (Wait.Pause b t ms)) h k = refl
  no_reset (Phase.Waiting (Wait.Poll b t)) h k = refl
  no_reset Phase.Resetting h k = absurd (k refl)
  no_reset (Phase.Finished e) h k = cc
  no_reset (Phase.Refused e) h k = cc

  pub no_reply : (bs : List ℕ) (p : Phase) → liveb p ≡ true → (p ≡ Phase.First → ⊥) → (p ≡ Phase.Second → ⊥) → ((b t : State) → p ≡ Phase.Waiting (Wait.Poll b t) → ⊥) → told_at w su pr l p (reply bs) ≡ stay (mk su pr l p) Error.NotAwaited
  no_reply bs Phase.First h k j i = absurd (k refl)
  no_reply bs Phase.Clear h k j i = refl
  no_reply bs Phase.Second h k j i = absurd (j refl)
  no_reply bs (Phase.Sent c) h k j i = refl
  no_reply bs (Phase.Waiting (Wait.Pause b t ms)) h k j i = refl
  no_reply bs (Phase.Waiting (Wait.Poll b t)) h k j i = absurd (i _ _ refl)
  no_reply bs Phase.Resetting h k j i = refl
  no_reply bs (Phase.Finished e) h k j i = cc
  no_reply bs (Phase.Refused e) h k j i = cc

  -- a failure that is not told in a pause, where it is 24
  pub failure : (p : Phase) → liveb p ≡ true → pausing p ≡ false → told_at w su pr l p failed ≡ go (over su (refuse pr l Error.Failed))
  failure Phase.First h k = refl
  failure Phase.Clear h k = refl
  failure Phase.Second h k = refl
  failure (Phase.Sent c) h k = refl
  failure (Phase.Waiting (Wait.Pause b t ms)) h k = cc
  failure (Phase.Waiting (Wait.Poll b t)) h k = refl
  failure Phase.Resetting h k = refl
  failure (Phase.Finished e) h k = cc
  failure (Phase.Refused e) h k = cc

-- what the tellings cite
pub ruleset unawaited = (no_count, no_wait, no_reset, no_reply, failure, nothing_filled)
