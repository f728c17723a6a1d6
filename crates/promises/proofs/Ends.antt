-- How a run ends: as its work says that it ends. Assumes nothing.
use Rattle.std.proofs.Common.{ℕ, ◌≡◌, refl, ap, ◌∙◌, List, Result, Ok}
use Rattle.download.specs.Download.{end_for, next_at, next_of}
use Rattle.promises.specs.Words.{Setup, Progress, Stage, Todo, End, Work, Phase, Answer, mk, Error}
use Rattle.promises.specs.Run.{opened, after, Over}
use Rattle.promises.specs.Finish.{EndsAs}
use Rattle.promises.proofs.Wishes.{erase_picked, write_picked}
use Rattle.promises.proofs.Walk.{Claims, Holds, run_over}
use Rattle.promises.proofs.Lasting.{lasting, lasting_holds, OfWish, unit_waits}

abbrev ending : End → Claims
ending x = lasting (λ b t. Unit) (End.Reset ≡ x) (λ e. e ≡ x) (λ e. Unit)

wish : (x : End) (t : Result Todo Error) → EndsAs x t → OfWish (λ b t. Unit) (End.Reset ≡ x) (λ e. e ≡ x) (λ e. Unit) t
wish x (Ok (Todo.End End.Stays)) v = v
wish x (Ok (Todo.End End.Reset)) v = v
wish x t v = tt

module _ (w : Work) (su : Setup) (x : End) (law : (pr : Progress) → EndsAs x (w.next su pr)) where
  holds : Holds w su (ending x)
  holds = lasting_holds _ _ _ _ w su (record { waits = unit_waits su; reset = λ v. v; wishes = λ pr. wish x (w.next su pr) (law pr); denies = λ e d. tt })

  -- THE END of a run that was begun
  pub ends_so : (pr : Progress) (l : ℕ) (more : List Answer) → Over (after w (opened (mk su pr l Phase.First)) more).session.phase
      → (after w (opened (mk su pr l Phase.First)) more).session.phase ≡ Phase.Finished x
  ends_so pr l more o =
      let (e, p, q) = run_over w su (ending x) holds (opened (mk su pr l Phase.First)) more (record { setup = refl; holds = tt }) o in
      p ∙ ap Phase.Finished q

-- a download: the device stays if it is tolerant or will detach, else after the reset
ends_at : (st : Stage) (ps : List ℕ) (su : Setup) (pr : Progress) → EndsAs (end_for su) (next_at st ps su pr)
ends_at Stage.Erasing ps su pr = erase_picked (EndsAs (end_for su)) ps su pr (λ e f. tt) (λ e f g. tt) (λ e f. tt) (λ e. tt)
ends_at Stage.Writing ps su pr = write_picked (λ (t : Todo). EndsAs (end_for su) (Ok t)) su pr (λ e. tt) (λ e. tt)
ends_at Stage.Ending ps su pr = refl

pub download_ends : (ps : List ℕ) (su : Setup) (pr : Progress) → EndsAs (end_for su) (next_of ps su pr)
unfolding next_of
download_ends ps su pr = ends_at pr.stage ps su pr
