-- Refusal 3 can't occur, and DfuSe's blocks are written where they belong: start has seen to both. Assumes nothing.
use Rattle.std.proofs.Common.{Ok, ℕ, ◌+◌, ◌*◌, ◌<◌, ◌≤◌, arith, ◌≡◌, refl, ap, sym, subst, ◌∙◌, ⊎_elim, true, List, [], ◌∷◌, ◌++◌, length}
use Rattle.papers.specs.Dfuse.{block_address}
use Rattle.papers.specs.Plan.{block_number}
use Rattle.papers.proofs.Numbers.{block_number_lem, block_address_lem}
use Rattle.work.specs.Work.{said_error, limit, end_of, block_count}
use Rattle.download.specs.Download.{next_at, next_of}
use Rattle.machine.specs.Machine.{said_ask}
use Rattle.protocol.specs.Interface.{dfuseb}
use Rattle.start.specs.Start.{target_of, said_start}
use Rattle.start.specs.declared.StartError.{StartError}
use Rattle.plan.specs.Sent.{Begins}
use Rattle.promises.specs.Words.{Todo, DfuProtocol, Command, Setup, Progress, Stage, End, Error, download, Phase, Ask, Session, Answer, mk, told, DfuSansIo, setup_of, fresh}
use Rattle.promises.specs.Run.{Event, World, opened, tell, commanded}
use Rattle.promises.specs.Calls.{Call, calls}
use Rattle.promises.specs.Limits.{EndsBelow, AllBelow}
use Rattle.promises.proofs.Wishes.{erase_picked, write_picked}
use Rattle.promises.proofs.Steady.{KeptBy, Steady, tell_steady, tell_setup}
use Rattle.promises.proofs.Calls.{calls_keep}
use Rattle.promises.proofs.Started.{started, start_within, begun_within}

-- one more at the end
one_more : (a : ℕ) (cs : List Command) (c : Command) → AllBelow a cs → EndsBelow a c → AllBelow a (cs ++ (c ∷ []))
unfolding AllBelow
one_more a [] c v e = (e, tt)
one_more a (d ∷ cs) c v e = (v.0, one_more a cs c v.1 e)

module _ (su : Setup) (k : end_of su < limit) where
  abbrev Below : ℕ → List Event → Type 0
  Below l h = AllBelow su.address (commanded h)

  wishes : (st : Stage) (ps : List ℕ) (pr : Progress) → KeptBy Below (next_at st ps su pr)
  unfolding commanded
  wishes Stage.Erasing ps pr =
      erase_picked (KeptBy Below) ps su pr (λ e f l h v. one_more _ (commanded h) _ v tt) (λ e f g. tt) (λ e f. tt) (λ e l h v. one_more _ (commanded h) _ v tt)
  wishes Stage.Writing ps pr =
      write_picked (λ (t : Todo). KeptBy Below (Ok t)) su pr (λ e l h v. one_more _ (commanded h) _ v (omega (arith, e, k))) (λ e l h v. one_more _ (commanded h) _ v tt)
  wishes Stage.Ending ps pr = tt

  below : (ps : List ℕ) → Steady Below (download ps) su
  unfolding next_of commanded
  below ps = record {
    status = λ l h v. v;
    clear = λ l h v. v;
    wish = λ pr. wishes pr.stage ps pr;
    hear = λ l h st ms v. v;
    pause = λ l h ms v. v;
    resetting = λ l h v. v;
  }

  abbrev Kept : World → Type 0
  Kept x = (x.session.setup ≡ su) × AllBelow su.address (commanded x.past)

  tell_kept : (ps : List ℕ) (x : World) (a : Answer) → Kept x → Kept (tell (download ps) x a)
  tell_kept ps x a (e, v) =
      (tell_setup (download ps) x a ∙ e, tell_steady Below (download ps) x a (subst (λ (y : Setup). Steady Below (download ps) y) (sym e) (below ps)) v)

module _ (io : DfuSansIo) (p : DfuProtocol) (fw ps : List ℕ) (budget : ℕ) (s : Session) where
  abbrev su : Setup
  su = setup_of io p (length fw) (length ps)

  -- a session at its first request has commanded nothing yet
  at_start : (k : end_of su < limit) (l : ℕ) → s ≡ mk su (fresh su) l Phase.First → Kept su k (opened s)
  unfolding commanded AllBelow
  at_start k l q = subst (λ (x : Session). Kept su k (opened x)) (sym q) (refl, tt)

  -- one that finished at once never does
  done : (l : ℕ) (more : List Call) → s ≡ mk su (fresh su) l (Phase.Finished End.Stays) → calls (opened s) more ≡ opened (mk su (fresh su) l (Phase.Finished End.Stays))
  unfolding told
  done l more q =
      let x : World = opened (mk su (fresh su) l (Phase.Finished End.Stays)) in
      calls_keep (λ (y : World). y ≡ x) (λ ps y a v. ap (λ (z : World). tell (download ps) z a) v) (opened s) more (ap opened q)

  none : (l : ℕ) (more : List Call) → s ≡ mk su (fresh su) l (Phase.Finished End.Stays) → AllBelow su.address (commanded (calls (opened s) more).past)
  unfolding commanded AllBelow
  none l more q = subst (λ (x : World). AllBelow su.address (commanded x.past)) (sym (done l more q)) tt

  -- EVERY BLOCK ENDS BELOW 2^32, whatever is told and whatever is lent: refusal 3 has nothing left to refuse
  pub blocks_end_below : Begins io p fw ps budget s → (more : List Call) → AllBelow (target_of p io.override_address) (commanded (calls (opened s) more).past)
  blocks_end_below b more =
      let (l, e) = started io p fw ps budget s b in
      ⊎_elim
      (λ q. ⊎_elim (λ t. (calls_keep (Kept su t.below) (tell_kept su t.below) (opened s) more (at_start t.below l q)).1) (λ r. none budget more r)
      (start_within io p fw ps budget s b))
      (λ q. none l more q)
      e

  -- EVERY DFUSE BLOCK HAS A NUMBER OF ITS OWN, the empty one too, and is written where its bytes belong
  pub blocks_land : 0 < length fw → 0 < io.descriptor.transfer_size → Begins io p fw ps budget s → dfuseb p ≡ true
      → (i : ℕ) → i ≤ block_count (length fw) io.descriptor.transfer_size
      → (block_number true i ≡ 2 + i)
      × (block_address (target_of p io.override_address) io.descriptor.transfer_size (block_number true i) ≡ target_of p io.override_address + i * io.descriptor.transfer_size)
  blocks_land h k b d i n =
      let few : i ≤ 65533 = omega (arith, n, (begun_within io p fw ps budget s h k b).numbered d) in
      (block_number_lem i few, block_address_lem (target_of p io.override_address) io.descriptor.transfer_size i few)

-- NO REFUSAL IS 3
never_3_error : (e : Error) → (said_error e).number ≡ 3 → ⊥
never_3_error (Error.InvalidState got expected) e = omega (arith, e)
never_3_error x e = omega (arith, e)

pub never_3 : (k : Ask) → (said_ask k).number ≡ 3 → ⊥
never_3 (Ask.Refused x) e = never_3_error x e
never_3 (Ask.Finished End.Stays) e = omega (arith, e)
never_3 k e = omega (arith, e)

pub start_never_3 : (e : StartError) → (said_start e).number ≡ 3 → ⊥
start_never_3 StartError.OutOfCapabilities e = omega (arith, e)
start_never_3 x e = omega (arith, e)
