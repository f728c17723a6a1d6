-- With a fair device and the budget an update finishes. Assumes nothing.
use Rattle.std.proofs.Common.{ℕ, suc, ◌<◌, ◌≤◌, arith, ◌≡◌, refl, ap, sym, subst, ◌∙◌, Bool, false, List, map, eqb, ltb, length, le-ltb, ne_eqb}
use lib.ListN.{length-map}
use borrow.Author.Tests.{lt-leb}
use Rattle.ground.proofs.Tests.{picked}
use Rattle.papers.proofs.Count.{plan_length}
use Rattle.work.specs.Work.{limit, end_of}
use Rattle.download.specs.Download.{end_for}
use Rattle.protocol.specs.Interface.{dfuseb}
use Rattle.start.specs.Start.{nothingb, beyondb, overb, manyb, begun_of, begin_of}
use Rattle.plan.specs.Sent.{on_wire, Begins}
use Rattle.promises.specs.Words.{DfuProtocol, Setup, Work, download, Phase, Session, Answer, mk, told, DfuSansIo, setup_of, fresh}
use Rattle.promises.specs.Run.{opened, after, transfers, cleared}
use Rattle.promises.specs.Fair.{heeded, Fair, Ready, requests_of, bound}
use Rattle.promises.specs.Finish.{FinishesIn, Finishes}
use Rattle.promises.proofs.Started.{begun_holds}
use Rattle.promises.proofs.Wanted.{left, wanted, fresh_wanted}
use Rattle.promises.proofs.Onwire.{wanted_plan}
use Rattle.promises.proofs.Roomy.{room, thrives, fresh_room}
use Rattle.promises.proofs.Ends.{download_ends}
use Rattle.promises.proofs.Any.{any_finishes}

module _ (io : DfuSansIo) (p : DfuProtocol) (fw ps : List ℕ) where
  abbrev su : Setup
  su = setup_of io p (length fw) (length ps)

  -- START BEGINS
  pub starts : Ready io p fw ps → (l : ℕ) → Begins io p fw ps (suc l) (mk su (fresh su) l Phase.First)
  unfolding begin_of begun_of
  starts r l =
      let e₁ : ltb 4294967295 (length fw) ≡ false = le-ltb _ _ r.short in
      let e₂ : overb (dfuseb p) (length ps) ≡ false =
      picked (λ (b : Bool). b ≡ false) (dfuseb p) _ _ (λ d. le-ltb _ _ (r.few d)) (λ d. refl) in
      let e₃ : nothingb su ≡ false =
      let z : eqb (length fw) 0 ≡ false = ne_eqb (length fw) 0 (λ e. omega (arith, e, r.some)) in
      let y : eqb io.descriptor.transfer_size 0 ≡ false = ne_eqb io.descriptor.transfer_size 0 (λ e. omega (arith, e, r.sized)) in
      rw z y in
      let e₄ : beyondb su ≡ false =
      picked (λ (b : Bool). b ≡ false) (dfuseb p) _ _ (λ d. lt-leb limit (end_of su) (omega (arith, r.covered d, r.below d))) (λ d. refl) in
      let e₅ : manyb (dfuseb p) (length fw) io.descriptor.transfer_size ≡ false =
      picked (λ (b : Bool). b ≡ false) (dfuseb p) _ _ (λ d. le-ltb _ _ (r.numbered d)) (λ d. refl) in
      rw (e₁, e₂, e₃, e₄, e₅)

  -- the requests that are wanted at the start are as many as the plan's
  count : 0 < su.size → length (left ps su (fresh su)) ≡ requests_of io p fw ps
  count h =
      let e : left ps su (fresh su) ≡ wanted su ps = fresh_wanted ps su h in
      let f : length (map (on_wire fw) (wanted su ps)) ≡ requests_of io p fw ps =
      ap (λ (x : List _). length x) (wanted_plan fw su ps refl h) ∙ plan_length (dfuseb p) su.address su.size fw ps in
      ap (λ (x : List _). length x) e ∙ sym (length-map (wanted su ps) (on_wire fw)) ∙ f

  -- IT FINISHES
  pub finishes : (k budget : ℕ) (s : Session) (more : List Answer) → Ready io p fw ps → Begins io p fw ps budget s
      → Fair k 0 (download ps) s (heeded (download ps) s more)
      → bound k (cleared (after (download ps) (opened s) more).past) (requests_of io p fw ps) ≤ budget → Finishes k io p fw ps s more
  unfolding transfers cleared
  finishes k budget s more r b =
      begun_holds
      (λ (x : Session).
      Fair k 0 (download ps) x (heeded (download ps) x more)
      → bound k (cleared (after (download ps) (opened x) more).past) (requests_of io p fw ps) ≤ budget
      → Finishes k io p fw ps x more)
      io p fw ps budget s r.some r.sized b
      from
    where
      from : (l : ℕ) → budget ≡ suc l → Fair k 0 (download ps) (mk su (fresh su) l Phase.First) (heeded (download ps) (mk su (fresh su) l Phase.First) more)
          → bound k (cleared (after (download ps) (opened (mk su (fresh su) l Phase.First)) more).past) (requests_of io p fw ps) ≤ budget
          → Finishes k io p fw ps (mk su (fresh su) l Phase.First) more
      from l z f m =
          let w : Work = download ps in
          let n : length (left ps su (fresh su)) ≡ requests_of io p fw ps = count r.sized in
          subst (λ (q : ℕ). FinishesIn (told w) k q (end_for su) (mk su (fresh su) l Phase.First) more) n
          (any_finishes w su (left ps su) (room ps su) (end_for su) k (fresh su) l more (thrives ps su r.sized) (fresh_room io p fw ps r) (download_ends ps su) f
          (subst (λ (q : ℕ). bound k (cleared (after w (opened (mk su (fresh su) l Phase.First)) more).past) q ≤ suc l) (sym n)
          (subst (λ (q : ℕ). bound k (cleared (after w (opened (mk su (fresh su) l Phase.First)) more).past) (requests_of io p fw ps) ≤ q) z m)))
