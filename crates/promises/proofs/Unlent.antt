-- A run that lends the same things at each call is never refused by 25. Assumes nothing.
use Rattle.std.proofs.Common.{ℕ, ◌≡◌, refl, ap, sym, subst, ◌∙◌, ⊎_elim, List, length, Result, Ok}
use Rattle.ground.proofs.Tests.{picked}
use Rattle.download.specs.Download.{next_at, next_of, end_for}
use Rattle.machine.specs.Machine.{asks_at}
use Rattle.plan.specs.Sent.{Begins}
use Rattle.promises.specs.Words.{DfuProtocol, Setup, Progress, Stage, Todo, Wait, End, Error, download, Phase, Ask, Session, Step, told, DfuSansIo, setup_of}
use Rattle.promises.specs.Run.{Event, opened, after, World, tell}
use Rattle.promises.specs.Calls.{Call, outcome, calls, Lends, AllLend, answers}
use Rattle.promises.proofs.Wishes.{erase_picked, write_picked}
use Rattle.promises.proofs.Walk.{Claims, Ending, Holds, ClaimAt, Good, tell_good, run_good}
use Rattle.promises.proofs.Lasting.{lasting, OfWish, lasting_holds, unit_waits}
use Rattle.promises.proofs.Started.{started_holds}
use Rattle.promises.proofs.Real.{For, same_calls, same_step, answers_told}

-- a refused session was refused by one of the refusals that end a session
abbrev unlent : Claims
unlent = lasting (λ b t. Unit) Unit (λ e. Unit) Ending

module _ (ps : List ℕ) (su : Setup) where
  abbrev Wish : Result Todo Error → Type 0
  Wish t = OfWish (λ b t. Unit) Unit (λ e. Unit) Ending t

  end_wish : Wish (Ok (Todo.End (end_for su)))
  end_wish = picked (λ (e : End). Wish (Ok (Todo.End e))) su.tolerant _ _ (λ e. tt) (λ e. picked (λ (x : End). Wish (Ok (Todo.End x))) su.detach _ _ (λ f. tt) (λ f. tt))

  wishes : (st : Stage) (pr : Progress) → Wish (next_at st ps su pr)
  wishes Stage.Erasing pr = erase_picked Wish ps su pr (λ e f. tt) (λ e f g. tt) (λ e f. tt) (λ e. tt)
  wishes Stage.Writing pr = write_picked (λ (t : Todo). Wish (Ok t)) su pr (λ e. tt) (λ e. tt)
  wishes Stage.Ending pr = end_wish

  holds : Holds (download ps) su unlent
  unfolding next_of
  holds =
      lasting_holds _ _ _ _ (download ps) su
      (record { waits = unit_waits su; reset = λ v. tt; wishes = λ pr. wishes pr.stage pr; denies = λ e d. d })

  -- such a session doesn't say 25
  says_other : (p : Phase) (pr : Progress) (l : ℕ) (h : List Event) → ClaimAt (download ps) su unlent p pr l h → asks_at p ≡ Ask.Refused Error.NotAsAtStart → ⊥
  says_other (Phase.Refused x) pr l h v e = subst Ending is v
    where
      is : x ≡ Error.NotAsAtStart
      is = cc
  says_other (Phase.Waiting (Wait.Pause b t ms)) pr l h v e = cc
  says_other p pr l h v e = cc

module _ (io : DfuSansIo) (p : DfuProtocol) (fw ps : List ℕ) (budget : ℕ) (s : Session) (before : List Call) (c : Call) where
  abbrev su : Setup
  su = setup_of io p (length fw) (length ps)

  start_good : Begins io p fw ps budget s → Good (download ps) su unlent (opened s)
  start_good b =
      started_holds (λ (x : Session). Good (download ps) su unlent (opened x)) io p fw ps budget s b (λ l. record { setup = refl; holds = tt }) (λ l. record { setup = refl; holds = tt })

  -- 25 IS NEVER GIVEN
  pub never_25 : Begins io p fw ps budget s → AllLend fw ps before → Lends fw ps c
      → (outcome (calls (opened s) before).session c).step.says ≡ Ask.Refused Error.NotAsAtStart → ⊥
  never_25 b v u e =
      let g : Good (download ps) su unlent (opened s) = start_good b in
      let same : calls (opened s) before ≡ after (download ps) (opened s) (answers before) =
      same_calls fw ps (opened s) before (subst (For fw ps) (sym g.setup) (refl, refl)) v in
      let r : Good (download ps) su unlent (calls (opened s) before) =
      subst (Good (download ps) su unlent) (sym same) (run_good (download ps) su unlent (holds ps su) (opened s) (answers before) g) in
      let x : World = calls (opened s) before in
      let t : Good (download ps) su unlent (tell (download ps) x c.answer) =
      tell_good (download ps) su unlent (holds ps su) x c.answer r in
      let y : Step = told (download ps) x.session c.answer in
      let step : (outcome x.session c).step ≡ y = same_step fw ps x.session c (subst (For fw ps) (sym r.setup) (refl, refl)) u in
      let q : y.says ≡ Ask.Refused Error.NotAsAtStart = sym (ap (λ (z : Step). z.says) step) ∙ e in
      ⊎_elim
      (λ z. says_other ps su y.next.phase y.next.progress y.next.left _ t.holds (sym z ∙ q))
      (λ z. cc)
      (answers_told (download ps) x.session c.answer)
