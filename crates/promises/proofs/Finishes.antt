-- A run that finishes has sent the plan, and every run a leading part of it. Assumes nothing.
use Rattle.std.proofs.Common.{ℕ, ◌<◌, ◌≡◌, refl, ap, sym, ◌∙◌, List, [], ◌∷◌, ◌++◌, append_assoc, append-nil, map, eqb, length, Result, Ok, Err}
use mathlib.Core.List.{map-append}
use Rattle.ground.proofs.Tests.{picked}
use Rattle.papers.specs.Plan.{Dnload}
use Rattle.work.specs.Work.{wait_after}
use Rattle.download.specs.Download.{next_of, took_of}
use Rattle.plan.specs.Sent.{on_wire, plan_of, Begins}
use Rattle.promises.specs.Words.{DfuProtocol, Command, Request, Setup, Progress, Todo, download, Phase, Session, Answer, mk, DfuSansIo, setup_of, fresh, Error}
use Rattle.promises.specs.Run.{Event, sends, opened, after, commanded, Over, sent_by}
use Rattle.promises.proofs.Walk.{Claims, Holds, Wished, WaitingAt, Good, run_always, run_over, either_end}
use Rattle.promises.proofs.Wanted.{left, Heads, heads, wanted, fresh_wanted}
use Rattle.promises.proofs.Onwire.{wanted_plan}
use Rattle.promises.proofs.Started.{begun_holds}
use Rattle.machine.specs.Machine.{asks_at}

-- what was commanded, and then what is still wanted, is all; what was commanded leads all
abbrev So : List Command → List Event → List Command → Type 0
So all h rest = commanded h ++ rest ≡ all

abbrev Leads : List Command → List Event → Type 0
Leads all h = (rest : List Command) × (So all h rest)

abbrev planned : List ℕ → Setup → List Command → Claims
planned ps su all = record {
  at_first_lem = λ pr l h. So all h (left ps su pr);
  at_clear = λ pr l h. So all h (left ps su pr);
  at_second = λ pr l h. So all h (left ps su pr);
  at_wish = λ pr l h. So all h (left ps su pr);
  pausing = λ b t pr l h. So all h (left ps su pr);
  looking = λ b t pr l h. So all h (left ps su pr);
  resetting = λ pr l h. So all h [];
  finished = λ e pr l h. So all h [];
  refused = λ e l h. Leads all h;
  always = λ l h. Leads all h;
}

module _ (ps : List ℕ) (su : Setup) (all : List Command) where
  wait_so : (c : Command) (k : ℕ) (pr : Progress) (l : ℕ) (h : List Event) → So all h (left ps su pr) → WaitingAt (download ps) su (planned ps su all) (wait_after su c k) pr l (sent_by (asks_at (Phase.Waiting (wait_after su c k))) ++ h)
  unfolding commanded
  wait_so (Command.Erase a) k pr l h v = v
  wait_so c k pr l h v = v

  wished : (pr : Progress) (l : ℕ) (h : List Event) (t : Result Todo Error) → Heads (download ps) (left ps su) su (left ps su pr) t → So all h (left ps su pr)
      → Wished (download ps) su (planned ps su all) pr l h t
  unfolding commanded
  wished pr l h (Ok (Todo.Send c then)) e v =
      let on : So all (sends (Request.Command c) ∷ h) (left ps su (took_of su then c)) =
      append_assoc (commanded h) (c ∷ []) (left ps su (took_of su then c)) ∙ ap (λ (x : List Command). commanded h ++ x) e ∙ v in
      λ m z. (
        (left ps su (took_of su then c), on),
        λ k f. wait_so c k (took_of su then c) m (sends (Request.Command c) ∷ h) on,
      )
  wished pr l h (Ok (Todo.End x)) e v =
      let all_done : So all h [] = ap (λ (x : List Command). commanded h ++ x) e ∙ v in
      either_end (download ps) su (planned ps su all) pr l h x all_done all_done
  wished pr l h (Err x) e v = (left ps su pr, v)

  holds : 0 < su.size → Holds (download ps) su (planned ps su all)
  unfolding commanded
  holds k = record {
    first = λ pr l h st ms v. picked (λ (X : Type 0). X) (eqb st 10) _ _ (λ e. v) (λ e. v);
    clear = λ pr l h v. v;
    second = λ pr l h ms v. v;
    wish = λ pr l h v. wished pr l h (next_of ps su pr) (heads ps su pr k) v;
    look = λ b t pr l h v. v;
    busy = λ b t pr l h ms v. v;
    settle = λ b t pr l h ms v. v;
    cut_first = λ pr l h v. (left ps su pr, v);
    cut_clear = λ pr l h v. (left ps su pr, v);
    cut_second = λ pr l h v. (left ps su pr, v);
    cut_wish = λ pr l h v. (left ps su pr, v);
    cut_pausing = λ b t pr l h v. (left ps su pr, v);
    cut_looking = λ b t pr l h v. (left ps su pr, v);
    reset = λ pr l h v. v;
    cut_resetting = λ pr l h v. ([], v);
    cut_finished = λ e pr l h v. ([], v);
    cut_refused = λ e l h v. v;
    deny = λ e l h d v. v;
    hear = λ l h st ms v. v;
  }

-- a session at its first request, with all of it still to come
fresh_good : (ps : List ℕ) (su : Setup) (l : ℕ) → 0 < su.size → Good (download ps) su (planned ps su (wanted su ps)) (opened (mk su (fresh su) l Phase.First))
unfolding commanded
fresh_good ps su l k = record { setup = refl; holds = fresh_wanted ps su k }

-- the same of a session at its first request, by meaning
module _ (ps : List ℕ) (su : Setup) (l : ℕ) (more : List Answer) (k : 0 < su.size) where
  ran_whole : Over (after (download ps) (opened (mk su (fresh su) l Phase.First)) more).session.phase
      → commanded (after (download ps) (opened (mk su (fresh su) l Phase.First)) more).past ≡ wanted su ps
  ran_whole o =
      sym (append-nil _)
      ∙ (run_over (download ps) su (planned ps su (wanted su ps)) (holds ps su (wanted su ps) k) (opened (mk su (fresh su) l Phase.First)) more
      (fresh_good ps su l k) o).2

  ran_part : Leads (wanted su ps) (after (download ps) (opened (mk su (fresh su) l Phase.First)) more).past
  ran_part =
      run_always (download ps) su (planned ps su (wanted su ps)) (holds ps su (wanted su ps) k) (opened (mk su (fresh su) l Phase.First)) more
      (fresh_good ps su l k)

module _ (io : DfuSansIo) (p : DfuProtocol) (fw ps : List ℕ) (budget : ℕ) (s : Session) (more : List Answer) where
  abbrev su : Setup
  su = setup_of io p (length fw) (length ps)

  -- A FINISHED RUN HAS SENT THE PLAN: its download requests, on the wire, are the papers'
  pub finished_sends_the_plan : 0 < length fw → 0 < io.descriptor.transfer_size → Begins io p fw ps budget s
      → Over (after (download ps) (opened s) more).session.phase
      → map (on_wire fw) (commanded (after (download ps) (opened s) more).past) ≡ plan_of io p fw ps
  finished_sends_the_plan h k b =
      begun_holds
      (λ (x : Session).
      Over (after (download ps) (opened x) more).session.phase
      → map (on_wire fw) (commanded (after (download ps) (opened x) more).past) ≡ plan_of io p fw ps)
      io p fw ps budget s h k b
      (λ l z o. ap (λ (x : List Command). map (on_wire fw) x) (ran_whole ps su l more k o) ∙ wanted_plan fw su ps refl k)

  -- EVERY RUN HAS SENT A LEADING PART OF IT, refused ones too
  pub every_run_leads_the_plan : 0 < length fw → 0 < io.descriptor.transfer_size → Begins io p fw ps budget s
      → (rest : List Dnload) × (map (on_wire fw) (commanded (after (download ps) (opened s) more).past) ++ rest ≡ plan_of io p fw ps)
  every_run_leads_the_plan h k b =
      begun_holds
      (λ (x : Session).
      (rest : List Dnload) × (map (on_wire fw) (commanded (after (download ps) (opened x) more).past) ++ rest ≡ plan_of io p fw ps))
      io p fw ps budget s h k b
      (λ l z. let (rest, v) = ran_part ps su l more k in (
        map (on_wire fw) rest,
        sym (map-append (on_wire fw) (commanded (after (download ps) (opened (mk su (fresh su) l Phase.First)) more).past) rest)
            ∙ ap (λ (x : List Command). map (on_wire fw) x) v
            ∙ wanted_plan fw su ps refl k,
      ))
