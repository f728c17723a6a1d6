-- Any work that thrives finishes, with a fair device and the budget. Assumes nothing.
use Rattle.std.proofs.Common.{ℕ, suc, ◌+◌, ◌*◌, ◌≤◌, arith, ◌≡◌, ap, sym, subst, List, length}
use Rattle.promises.specs.Words.{Command, Setup, Progress, End, Work, Phase, Answer, mk, told}
use Rattle.promises.specs.Run.{World, opened, after, transfers, cleared, Unrefused, Over}
use Rattle.promises.specs.Fair.{heeded, Fair, bound}
use Rattle.promises.specs.Finish.{FinishesIn, EndsAs}
use Rattle.promises.proofs.Lives.{Thrives, lived, room_unrefused, at_rest}
use Rattle.promises.proofs.Heeded.{heeded_run}
use Rattle.promises.proofs.Ends.{ends_so}

-- ANY WORK THAT THRIVES FINISHES
pub any_finishes : (w : Work) (su : Setup) (left : Progress → List Command) (room : Progress → Type 0) (x : End) (k : ℕ) (pr : Progress) (l : ℕ) (more : List Answer)
    → Thrives w su left room → room pr → ((q : Progress) → EndsAs x (w.next su q)) → Fair k 0 w (mk su pr l Phase.First) (heeded w (mk su pr l Phase.First) more)
    → bound k (cleared (after w (opened (mk su pr l Phase.First)) more).past) (length (left pr)) ≤ suc l
    → FinishesIn (told w) k (length (left pr)) x (mk su pr l Phase.First) more
unfolding transfers cleared
any_finishes w su left room x k pr l more law here ends f m =
    let y : World = opened (mk su pr l Phase.First) in
    let heard : List Answer = heeded w (mk su pr l Phase.First) more in
    let same : after w y heard ≡ after w y more = sym (heeded_run w y more) in
    let m' : 2 + length (left pr) * (k + 2) + cleared (after w y heard).past ≤ suc l = omega (arith, m, ap (λ (q : World). cleared q.past) same) in
    let (v, agreed) =
    lived w left room k 0 y heard (2 + length (left pr) * (k + 2)) (4 + length (left pr) * (2 * k + 3)) (suc l) law here f (omega arith) (omega arith) m' (omega arith) in
    let z : World = after w y heard in
    record {
      unrefused = subst (λ (q : World). Unrefused q.session.phase) same
          (room_unrefused w left room z.session.setup z.session.progress z.session.phase v.roomy);
      agreed = agreed;
      within = omega (arith, v.cost, ap (λ (q : World). cleared q.past) same, ap (λ (q : World). length (transfers q.past)) same);
      done = λ h. ends_so w su x ends pr l more
          (subst (λ (q : World). Over q.session.phase) same
          (at_rest w left room k v.last z.session.setup z.session.progress z.session.phase v.roomy (omega (arith, v.time, h))));
    }
