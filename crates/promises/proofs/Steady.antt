-- Any work: what every transfer and every reply keeps, whatever the phase, holds after each told answer. Assumes nothing.
use Rattle.std.proofs.Common.{ℕ, suc, ◌≡◌, refl, subst, List, ◌∷◌, ◌++◌, eqb, Result, Ok, Err}
use Rattle.ground.proofs.Tests.{picked}
use Rattle.work.specs.Work.{wait_after}
use Rattle.promises.specs.Words.{Command, Request, Setup, Progress, Todo, Wait, Work, Phase, Session, Answer, Error}
use Rattle.promises.specs.Run.{Event, sends, hears, World, tell, sent_by, waits, resets}
use Rattle.promises.proofs.Walk.{Claims, Holds, Wished, WaitingAt, ClaimAt, Good, tell_good, either_end}
use Rattle.machine.specs.Machine.{asks_at}

module _ (P : ℕ → List Event → Type 0) where
  abbrev steady : Claims
  steady = record {
    at_first_lem = λ pr l h. P l h;
    at_clear = λ pr l h. P l h;
    at_second = λ pr l h. P l h;
    at_wish = λ pr l h. P l h;
    pausing = λ b t pr l h. P l h;
    looking = λ b t pr l h. P l h;
    resetting = λ pr l h. P l h;
    finished = λ e pr l h. P l h;
    refused = λ e l h. P l h;
    always = λ l h. P l h;
  }

  -- what is asked of the claim: each transfer keeps it, each reply, each wait, and the reset
  abbrev pub KeptBy : Result Todo Error → Type 0
  KeptBy (Ok (Todo.Send c then)) = (l : ℕ) (h : List Event) → P (suc l) h → P l (sends (Request.Command c) ∷ h)
  KeptBy (Ok (Todo.End e)) = Unit
  KeptBy (Err e) = Unit

  pub record Steady (w : Work) (su : Setup) : Type 0 where
    pub status : (l : ℕ) (h : List Event) → P (suc l) h → P l (sends Request.GetStatus ∷ h)
    pub clear : (l : ℕ) (h : List Event) → P (suc l) h → P l (sends Request.ClearStatus ∷ h)
    pub wish : (pr : Progress) → KeptBy (w.next su pr)
    pub hear : (l : ℕ) (h : List Event) (st ms : ℕ) → P l h → P l (hears st ms ∷ h)
    pub pause : (l : ℕ) (h : List Event) (ms : ℕ) → P l h → P l (waits ms ∷ h)
    pub resetting : (l : ℕ) (h : List Event) → P l h → P l (resets ∷ h)

  module _ (w : Work) (su : Setup) where
    begins : Steady w su → (c : Command) (n : ℕ) (pr : Progress) (l : ℕ) (h : List Event) → P l h
        → WaitingAt w su steady (wait_after su c n) pr l (sent_by (asks_at (Phase.Waiting (wait_after su c n))) ++ h)
    begins g (Command.Erase a) n pr l h v = g.pause l h 0 v
    begins g c n pr l h v = g.pause l h 0 v

    wished : Steady w su → (pr : Progress) (l : ℕ) (h : List Event) (t : Result Todo Error) → KeptBy t → P l h → Wished w su steady pr l h t
    wished g pr l h (Ok (Todo.Send c then)) k v = λ m e. let on : P m (sends (Request.Command c) ∷ h) = k m h (subst (λ (x : ℕ). P x h) e v) in (on, λ n e. begins g c n _ m _ on)
    wished g pr l h (Ok (Todo.End e)) k v = either_end w su steady pr l h e v (g.resetting l h v)
    wished g pr l h (Err e) k v = v

    holds : Steady w su → Holds w su steady
    holds g = record {
      first = λ pr l h st ms v. picked (λ (X : Type 0). X) (eqb st 10) _ _
          (λ e. g.clear l (hears st ms ∷ h) (g.hear (suc l) h st ms v)) (λ e. g.status l (hears st ms ∷ h) (g.hear (suc l) h st ms v));
      clear = λ pr l h v. g.status l h v;
      second = λ pr l h ms v. g.hear l h _ ms v;
      wish = λ pr l h v. wished g pr l h (w.next su pr) (g.wish pr) v;
      look = λ b t pr l h v. g.status l h v;
      busy = λ b t pr l h ms v. g.pause l _ ms (g.hear l h _ ms v);
      settle = λ b t pr l h ms v. g.hear l h _ ms v;
      cut_first = λ pr l h v. v;
      cut_clear = λ pr l h v. v;
      cut_second = λ pr l h v. v;
      cut_wish = λ pr l h v. v;
      cut_pausing = λ b t pr l h v. v;
      cut_looking = λ b t pr l h v. v;
      reset = λ pr l h v. v;
      cut_resetting = λ pr l h v. v;
      cut_finished = λ e pr l h v. v;
      cut_refused = λ e l h v. v;
      deny = λ e l h d v. v;
      hear = λ l h st ms v. g.hear l h st ms v;
    }

    at_phase : Steady w su → (p : Phase) (pr : Progress) (l : ℕ) (h : List Event) → P l h → ClaimAt w su steady p pr l h
    at_phase g (Phase.Sent c) pr l h v = (v, λ n e. begins g c n (w.took su pr c n) l h v)
    at_phase g (Phase.Waiting (Wait.Poll b t)) pr l h v = v
    at_phase g p pr l h v = v

    of_phase : (p : Phase) (pr : Progress) (l : ℕ) (h : List Event) → ClaimAt w su steady p pr l h → P l h
    of_phase (Phase.Sent c) pr l h v = v.0
    of_phase (Phase.Waiting (Wait.Poll b t)) pr l h v = v
    of_phase p pr l h v = v

  told_good : (w : Work) (x : World) (a : Answer) → Steady w x.session.setup → P x.session.left x.past
      → Good w x.session.setup steady (tell w x a)
  told_good w x a g v =
      let s : Session = x.session in
      tell_good w s.setup steady (holds w s.setup g) x a
      (record { setup = refl; holds = at_phase w s.setup g s.phase s.progress s.left x.past v })

  -- ONE TOLD ANSWER, in any world
  pub tell_steady : (w : Work) (x : World) (a : Answer) → Steady w x.session.setup → P x.session.left x.past
      → P (tell w x a).session.left (tell w x a).past
  tell_steady w x a g v =
      let t : World = tell w x a in
      of_phase w x.session.setup t.session.phase t.session.progress t.session.left t.past (told_good w x a g v).holds

-- the setup stays
any_wish : (t : Result Todo Error) → KeptBy (λ l h. Unit) t
any_wish (Ok (Todo.Send c then)) = λ l h v. tt
any_wish (Ok (Todo.End e)) = tt
any_wish t = tt

pub tell_setup : (w : Work) (x : World) (a : Answer) → (tell w x a).session.setup ≡ x.session.setup
tell_setup w x a =
    let su : Setup = x.session.setup in
    let g : Steady (λ l h. Unit) w su = record { status = λ l h v. tt; clear = λ l h v. tt; wish = λ pr. any_wish (w.next su pr); hear = λ l h st ms v. tt; pause = λ l h ms v. tt; resetting = λ l h v. tt } in
    (told_good (λ l h. Unit) w x a g tt).setup
