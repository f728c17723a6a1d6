-- Only a reply leads to a command: every other answer leaves the command bytes as they were lent, as the calls that take them shared say. Assumes nothing.
use Rattle.std.proofs.Common.{Result, ℕ, zero, suc, ◌≡◌, refl, ap, false, List, length}
use Rattle.ground.proofs.Tests.{picked}
use Rattle.wire.specs.declared.Command.{Command}
use Rattle.wire.specs.declared.Request.{Request}
use Rattle.work.specs.Work.{Work, wait_after, takenb}
use Rattle.work.specs.declared.Progress.{Progress}
use Rattle.work.specs.declared.Setup.{Setup}
use Rattle.work.specs.declared.Wait.{Wait}
use Rattle.download.specs.Download.{download}
use Rattle.machine.specs.declared.Moved.{Moved}
use Rattle.machine.specs.Machine.{issue, on_count, asks_at, liveb}
use Rattle.machine.specs.declared.Phase.{Phase}
use Rattle.machine.specs.declared.Ask.{Ask}
use Rattle.session.specs.Told.{Answer, count, reply, waited, told_at, told}
use Rattle.session.specs.Calls.{as_at_start, guard_of, through, called, filled_by, filled, out, call_of}
use Rattle.session.specs.declared.Session.{Session}
use Rattle.session.proofs.Calls.{over_asks, nothing_filled}
use Rattle.plan.specs.Answers.{Unreplied}

-- an ended session fills nothing
pub ended_fills : (p : Phase) (cmd : List ℕ) → liveb p ≡ false → filled_by (asks_at p) cmd ≡ cmd
ended_fills p cmd e = nothing_filled (asks_at p) cmd (over_asks p e)

-- a GETSTATUS, or a refusal in its place
issue_unfilled : (pr then : Progress) (l : ℕ) (p : Phase) (cmd : List ℕ) → asks_at p ≡ Ask.Transfer Request.GetStatus
    → filled_by (asks_at (issue pr l then p).phase) cmd ≡ cmd
issue_unfilled pr then zero p cmd e = refl
issue_unfilled pr then (suc l) p cmd e = rw e

wait_unfilled : (su : Setup) (c : Command) (n : ℕ) (cmd : List ℕ) → filled_by (asks_at (Phase.Waiting (wait_after su c n))) cmd ≡ cmd
wait_unfilled su (Command.Empty n) k cmd = refl
wait_unfilled su c k cmd = refl

count_unfilled : (su : Setup) (pr then : Progress) (l : ℕ) (c : Command) (n : ℕ) (cmd : List ℕ) → filled_by (asks_at (on_count su pr l c then n).phase) cmd ≡ cmd
count_unfilled su pr then l c n cmd =
    picked (λ (s : Moved). filled_by (asks_at s.phase) cmd ≡ cmd) (takenb c n) _ _ (λ e. wait_unfilled su c n cmd) (λ e. refl)

unfilled_at : (w : Work) (su : Setup) (pr : Progress) (l : ℕ) (p : Phase) (a : Answer) (cmd : List ℕ) → Unreplied a
    → filled_by (told_at w su pr l p a).says cmd ≡ cmd
unfilled_at w su pr l (Phase.Waiting (Wait.Pause b t ms)) waited cmd v = issue_unfilled pr pr l (Phase.Waiting (Wait.Poll b t)) cmd refl
unfilled_at w su pr l p (reply bs) cmd v = absurd v
unfilled_at w su pr l Phase.Clear (count n) cmd v = issue_unfilled pr pr l Phase.Second cmd refl
unfilled_at w su pr l (Phase.Sent c) (count n) cmd v = count_unfilled su pr (w.took su pr c n) l c n cmd
unfilled_at w su pr l p a cmd v = refl

-- ONLY REPLIES FILL
pub only_replies_fill : (fw ps cmd : List ℕ) (s : Session) (a : Answer) → Unreplied a → call_of fw ps cmd s a ≡ out (called (length fw) ps (length cmd) s a) cmd
unfolding call_of called guard_of told
only_replies_fill fw ps cmd s a v =
    picked P (liveb s.phase) _ _
    (λ e. picked P (as_at_start s.setup (length fw) (length ps) (length cmd)) _ _
    (λ f. ap (λ (x : List ℕ). out (told (download ps) s a) x) (unfilled_at (download ps) s.setup s.progress s.left s.phase a cmd v))
    (λ f. refl))
    (λ e. ap (λ (x : List ℕ). out (record { next = s; says = asks_at s.phase }) x) (ended_fills s.phase cmd e))
  where
    P : Result Unit Ask → Type 0
    P g = filled (through g s (told (download ps) s a)) cmd ≡ out (through g s (told (download ps) s a)) cmd
