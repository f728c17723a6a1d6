-- A session clears at most once. Assumes nothing.
use Rattle.std.proofs.Common.{ℕ, ◌≤◌, arith, ◌≡◌, refl, List, ◌++◌, eqb, length, Result, Ok, Err}
use Rattle.ground.proofs.Tests.{picked}
use Rattle.work.specs.Work.{wait_after}
use Rattle.plan.specs.Sent.{Begins}
use Rattle.promises.specs.Words.{DfuProtocol, Command, Setup, Progress, Todo, Work, download, Session, Answer, DfuSansIo, setup_of, Phase, Error}
use Rattle.promises.specs.Run.{Event, opened, after, cleared, sent_by}
use Rattle.promises.proofs.Walk.{Claims, Holds, Wished, WaitingAt, Good, run_always, either_end}
use Rattle.promises.proofs.Started.{started_holds}
use Rattle.machine.specs.Machine.{asks_at}

abbrev once : Claims
once = record {
  at_first_lem = λ pr l h. cleared h ≡ 0;
  at_clear = λ pr l h. cleared h ≤ 1;
  at_second = λ pr l h. cleared h ≤ 1;
  at_wish = λ pr l h. cleared h ≤ 1;
  pausing = λ b t pr l h. cleared h ≤ 1;
  looking = λ b t pr l h. cleared h ≤ 1;
  resetting = λ pr l h. cleared h ≤ 1;
  finished = λ e pr l h. cleared h ≤ 1;
  refused = λ e l h. cleared h ≤ 1;
  always = λ l h. cleared h ≤ 1;
}

module _ (w : Work) (su : Setup) where
  begins : (c : Command) (n : ℕ) (pr : Progress) (l : ℕ) (h : List Event) → cleared h ≤ 1 → WaitingAt w su once (wait_after su c n) pr l (sent_by (asks_at (Phase.Waiting (wait_after su c n))) ++ h)
  unfolding cleared
  begins (Command.Erase a) k pr l h v = v
  begins c k pr l h v = v

  wished : (pr : Progress) (l : ℕ) (h : List Event) (t : Result Todo Error) → cleared h ≤ 1 → Wished w su once pr l h t
  unfolding cleared
  wished pr l h (Ok (Todo.Send c then)) v = λ m e. (v, λ n f. begins c n (w.took su then c n) m _ v)
  wished pr l h (Ok (Todo.End e)) v = either_end w su once pr l h e v v
  wished pr l h (Err e) v = v

  holds : Holds w su once
  unfolding cleared
  holds = record {
    first = λ pr l h st ms v. picked (λ (X : Type 0). X) (eqb st 10) _ _ (λ e. omega (arith, v)) (λ e. omega (arith, v));
    clear = λ pr l h v. v;
    second = λ pr l h ms v. v;
    wish = λ pr l h v. wished pr l h (w.next su pr) v;
    look = λ b t pr l h v. v;
    busy = λ b t pr l h ms v. v;
    settle = λ b t pr l h ms v. v;
    reset = λ pr l h v. v;
    cut_first = λ pr l h v. omega (arith, v);
    cut_clear = λ pr l h v. v;
    cut_second = λ pr l h v. v;
    cut_wish = λ pr l h v. v;
    cut_pausing = λ b t pr l h v. v;
    cut_looking = λ b t pr l h v. v;
    cut_resetting = λ pr l h v. v;
    cut_finished = λ e pr l h v. v;
    cut_refused = λ e l h v. v;
    deny = λ e l h d v. v;
    hear = λ l h st ms v. v;
  }

-- AT MOST ONE CLRSTATUS
pub clears_once : (io : DfuSansIo) (p : DfuProtocol) (fw ps : List ℕ) (budget : ℕ) (s : Session) (more : List Answer) → Begins io p fw ps budget s
    → cleared (after (download ps) (opened s) more).past ≤ 1
unfolding cleared
clears_once io p fw ps budget s more b =
    run_always (download ps) su once (holds (download ps) su) (opened s) more
    (started_holds (λ (x : Session). Good (download ps) su once (opened x)) io p fw ps budget s b (λ l. record { setup = refl; holds = refl }) (λ l. record { setup = refl; holds = omega arith }))
  where
    su : Setup
    su = setup_of io p (length fw) (length ps)
