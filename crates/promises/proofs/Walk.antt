-- Any work: what every told answer keeps, said of the progress, the budget left and the past. One walk of the machine. Assumes nothing.
use Rattle.std.proofs.Common.{ℕ, zero, suc, ◌≡◌, refl, sym, subst, Bool, true, false, List, [], ◌∷◌, ◌++◌, eqb, eqb-true, Result, Ok, Err}
use Rattle.ground.proofs.Tests.{picked}
use Rattle.get_status.specs.Names.{state_byte}
use Rattle.get_status.specs.declared.State.{State}
use Rattle.get_status.specs.declared.GetStatusMessage.{GetStatusMessage}
use Rattle.get_status.specs.declared.Error.{Error as ReplyError}
use Rattle.get_status.specs.declared.Met.{Met}
use Rattle.work.specs.Work.{wait_after, takenb}
use Rattle.machine.specs.Machine.{refuse, issue, end_phase, proceed, on_count, first_reply, later_reply, reading, on_first, on_second, on_met, on_poll, asks_at}
use Rattle.session.specs.Told.{over, go, stay, told_at}
use Rattle.promises.specs.Words.{pick, Command, Request, Setup, Progress, Todo, Wait, End, Error, Work, Phase, Moved, Ask, Step, Answer, count, reply, waited, was_reset, failed, mk, told}
use Rattle.promises.specs.Run.{Event, sends, hears, waits, resets, sent_by, shown_by, heard_at, World, tell, after, after_by, Over}

-- what is claimed at each kind of phase: in the opening, where the work is asked next, in a wait before and after a look, at the end, after a refusal;
-- and whatever happens
pub record Claims : Type 1 where
  pub at_first_lem : Progress → ℕ → List Event → Type 0
  pub at_clear : Progress → ℕ → List Event → Type 0
  pub at_second : Progress → ℕ → List Event → Type 0
  pub at_wish : Progress → ℕ → List Event → Type 0
  pub pausing : State → State → Progress → ℕ → List Event → Type 0
  pub looking : State → State → Progress → ℕ → List Event → Type 0
  pub resetting : Progress → ℕ → List Event → Type 0
  pub finished : End → Progress → ℕ → List Event → Type 0
  pub refused : Error → ℕ → List Event → Type 0
  pub always : ℕ → List Event → Type 0

-- the refusals that end a session: not 24 and 25, which leave it as it was
abbrev pub Ending : Error → Type 0
Ending (Error.InvalidState got expected) = Unit
Ending Error.EraseLimitReached = Unit
Ending Error.NoSpaceLeft = Unit
Ending (Error.ResponseTooShort got) = Unit
Ending Error.BudgetSpent = Unit
Ending Error.NotAwaited = ⊥
Ending Error.NotAsAtStart = ⊥
Ending Error.Failed = Unit
Ending (Error.StatusError status) = Unit
Ending (Error.WrongCount n m) = Unit

module _ (w : Work) (su : Setup) (c : Claims) where
  abbrev pub WaitingAt : Wait → Progress → ℕ → List Event → Type 0
  WaitingAt (Wait.Pause b t ms) pr l h = c.pausing b t pr l h
  WaitingAt (Wait.Poll b t) pr l h = c.looking b t pr l h

  -- a command is on: once it is taken, with whatever bytes it may be, its wait begins
  abbrev pub SentAt : Command → Progress → ℕ → List Event → Type 0
  SentAt d pr l h = c.always l h × ((n : ℕ) → takenb d n ≡ true → WaitingAt (wait_after su d n) (w.took su pr d n) l (sent_by (asks_at (Phase.Waiting (wait_after su d n))) ++ h))

  abbrev pub EndAt : Phase → Progress → ℕ → List Event → Type 0
  EndAt Phase.First pr l h = ⊥
  EndAt Phase.Clear pr l h = ⊥
  EndAt Phase.Second pr l h = ⊥
  EndAt (Phase.Sent d) pr l h = ⊥
  EndAt (Phase.Waiting x) pr l h = ⊥
  EndAt Phase.Resetting pr l h = c.resetting pr l (resets ∷ h)
  EndAt (Phase.Finished e) pr l h = c.finished e pr l h
  EndAt (Phase.Refused e) pr l h = ⊥

  -- what a wish leads to
  abbrev pub Wished : Progress → ℕ → List Event → Result Todo Error → Type 0
  Wished pr l h (Ok (Todo.Send d then)) = (m : ℕ) → l ≡ suc m → SentAt d then m (sends (Request.Command d) ∷ h)
  Wished pr l h (Ok (Todo.End e)) = EndAt (end_phase e) pr l h
  Wished pr l h (Err e) = c.refused e l h

  -- what is asked of the claims: each step of the machine leads from one to the next
  pub record Holds : Type 0 where
    pub first : (pr : Progress) (l : ℕ) (h : List Event) (st ms : ℕ) → c.at_first_lem pr (suc l) h
        → pick (eqb st 10) (c.at_clear pr l (sends Request.ClearStatus ∷ hears st ms ∷ h)) (c.at_second pr l (sends Request.GetStatus ∷ hears st ms ∷ h))
    pub clear : (pr : Progress) (l : ℕ) (h : List Event) → c.at_clear pr (suc l) h → c.at_second pr l (sends Request.GetStatus ∷ h)
    pub second : (pr : Progress) (l : ℕ) (h : List Event) (ms : ℕ) → c.at_second pr l h → c.at_wish pr l (hears 2 ms ∷ h)
    pub wish : (pr : Progress) (l : ℕ) (h : List Event) → c.at_wish pr l h → Wished pr l h (w.next su pr)
    pub look : (b t : State) (pr : Progress) (l : ℕ) (h : List Event) → c.pausing b t pr (suc l) h → c.looking b t pr l (sends Request.GetStatus ∷ h)
    pub busy : (b t : State) (pr : Progress) (l : ℕ) (h : List Event) (ms : ℕ) → c.looking b t pr l h → c.pausing b t pr l (waits ms ∷ hears (state_byte b) ms ∷ h)
    pub settle : (b t : State) (pr : Progress) (l : ℕ) (h : List Event) (ms : ℕ) → c.looking b t pr l h → c.at_wish pr l (hears (state_byte t) ms ∷ h)
    pub cut_first : (pr : Progress) (l : ℕ) (h : List Event) → c.at_first_lem pr l h → c.always l h
    pub cut_clear : (pr : Progress) (l : ℕ) (h : List Event) → c.at_clear pr l h → c.always l h
    pub cut_second : (pr : Progress) (l : ℕ) (h : List Event) → c.at_second pr l h → c.always l h
    pub cut_wish : (pr : Progress) (l : ℕ) (h : List Event) → c.at_wish pr l h → c.always l h
    pub cut_pausing : (b t : State) (pr : Progress) (l : ℕ) (h : List Event) → c.pausing b t pr l h → c.always l h
    pub cut_looking : (b t : State) (pr : Progress) (l : ℕ) (h : List Event) → c.looking b t pr l h → c.always l h
    pub reset : (pr : Progress) (l : ℕ) (h : List Event) → c.resetting pr l h → c.finished End.Reset pr l h
    pub cut_resetting : (pr : Progress) (l : ℕ) (h : List Event) → c.resetting pr l h → c.always l h
    pub cut_finished : (e : End) (pr : Progress) (l : ℕ) (h : List Event) → c.finished e pr l h → c.always l h
    pub cut_refused : (e : Error) (l : ℕ) (h : List Event) → c.refused e l h → c.always l h
    pub deny : (e : Error) (l : ℕ) (h : List Event) → Ending e → c.always l h → c.refused e l h
    pub hear : (l : ℕ) (h : List Event) (st ms : ℕ) → c.always l h → c.always l (hears st ms ∷ h)

  abbrev pub ClaimAt : Phase → Progress → ℕ → List Event → Type 0
  ClaimAt Phase.First pr l h = c.at_first_lem pr l h
  ClaimAt Phase.Clear pr l h = c.at_clear pr l h
  ClaimAt Phase.Second pr l h = c.at_second pr l h
  ClaimAt (Phase.Sent d) pr l h = SentAt d pr l h
  ClaimAt (Phase.Waiting x) pr l h = WaitingAt x pr l h
  ClaimAt Phase.Resetting pr l h = c.resetting pr l h
  ClaimAt (Phase.Finished e) pr l h = c.finished e pr l h
  ClaimAt (Phase.Refused e) pr l h = c.refused e l h

  -- a step after which the setup is as it was and the claim of the new phase holds
  pub record Kept (h : List Event) (x : Step) : Type 0 where
    pub setup : x.next.setup ≡ su
    pub holds : ClaimAt x.next.phase x.next.progress x.next.left (sent_by x.says ++ h)

  module _ (g : Holds) where
    cut : (p : Phase) (pr : Progress) (l : ℕ) (h : List Event) → ClaimAt p pr l h → c.always l h
    cut Phase.First pr l h v = g.cut_first pr l h v
    cut Phase.Clear pr l h v = g.cut_clear pr l h v
    cut Phase.Second pr l h v = g.cut_second pr l h v
    cut (Phase.Sent d) pr l h v = v.0
    cut (Phase.Waiting (Wait.Pause b t ms)) pr l h v = g.cut_pausing b t pr l h v
    cut (Phase.Waiting (Wait.Poll b t)) pr l h v = g.cut_looking b t pr l h v
    cut Phase.Resetting pr l h v = g.cut_resetting pr l h v
    cut (Phase.Finished e) pr l h v = g.cut_finished e pr l h v
    cut (Phase.Refused e) pr l h v = g.cut_refused e l h v

    -- the leaves: a refusal, an answer that isn't awaited, a transfer
    refuse_kept : (pr : Progress) (l : ℕ) (h : List Event) (e : Error) → Ending e → c.always l h → Kept h (go (over su (refuse pr l e)))
    refuse_kept pr l h e d v = record { setup = refl; holds = g.deny e l h d v }

    stay_kept : (p : Phase) (pr : Progress) (l : ℕ) (h : List Event) (e : Error) → ClaimAt p pr l h → Kept h (stay (mk su pr l p) e)
    stay_kept p pr l h e v = record { setup = refl; holds = v }

    issue_kept : (pr then : Progress) (l : ℕ) (h : List Event) (q : Request) (p : Phase) → asks_at p ≡ Ask.Transfer q → c.always l h
        → ((m : ℕ) → l ≡ suc m → ClaimAt p then m (sends q ∷ h)) → Kept h (go (over su (issue pr l then p)))
    issue_kept pr then zero h q p a v f = refuse_kept pr zero h _ tt v
    issue_kept pr then (suc l) h q p a v f =
        record { setup = refl; holds = subst (λ (x : Ask). ClaimAt p then l (sent_by x ++ h)) (sym a) (f l refl) }

    proceed_kept : (pr : Progress) (l : ℕ) (h : List Event) (t : Result Todo Error) → Wished pr l h t → c.always l h → Kept h (go (over su (proceed pr l t)))
    proceed_kept pr l h (Ok (Todo.Send d then)) v s = issue_kept pr then l h _ (Phase.Sent d) refl s v
    proceed_kept pr l h (Ok (Todo.End End.Stays)) v s = record { setup = refl; holds = v }
    proceed_kept pr l h t v s = record { setup = refl; holds = v }

    wish_kept : (pr : Progress) (l : ℕ) (h : List Event) → c.at_wish pr l h → Kept h (go (over su (proceed pr l (w.next su pr))))
    wish_kept pr l h v = proceed_kept pr l h (w.next su pr) (g.wish pr l h v) (g.cut_wish pr l h v)

    -- a reply that is read, and one that can't be
    reading_kept : (pr : Progress) (l : ℕ) (h : List Event) (r : Result GetStatusMessage ReplyError) (f : GetStatusMessage → Moved) → c.always l h
        → ((m : GetStatusMessage) → Kept (hears (state_byte m.state) m.poll_timeout ∷ h) (go (over su (f m)))) → Kept (shown_by r ++ h) (go (over su (reading pr l r f)))
    reading_kept pr l h (Ok m) f v k = k m
    reading_kept pr l h (Err (ReplyError.ResponseTooShort got)) f v k = refuse_kept pr l h _ tt v
    reading_kept pr l h r f v k = refuse_kept pr l h _ tt v

    first_kept : (pr : Progress) (l : ℕ) (h : List Event) (m : GetStatusMessage) → c.at_first_lem pr l h
        → Kept (hears (state_byte m.state) m.poll_timeout ∷ h) (go (over su (on_first pr l m)))
    unfolding on_first
    first_kept pr zero h m v = refuse_kept pr zero _ _ tt (g.hear zero h _ _ (g.cut_first pr zero h v))
    first_kept pr (suc l) h m v = by (eqb (state_byte m.state) 10) (g.first pr l h (state_byte m.state) m.poll_timeout v)
      where
        by : (b : Bool)
            → pick b (c.at_clear pr l (sends Request.ClearStatus ∷ hears (state_byte m.state) m.poll_timeout ∷ h)) (c.at_second pr l (sends Request.GetStatus ∷ hears (state_byte m.state) m.poll_timeout ∷ h))
            → Kept (hears (state_byte m.state) m.poll_timeout ∷ h) (go (over su (issue pr (suc l) pr (pick b Phase.Clear Phase.Second))))
        by true v = record { setup = refl; holds = v }
        by false v = record { setup = refl; holds = v }

    second_kept : (pr : Progress) (l : ℕ) (h : List Event) (m : GetStatusMessage) → c.at_second pr l h
        → Kept (hears (state_byte m.state) m.poll_timeout ∷ h) (go (over su (on_second pr l (w.next su pr) m)))
    unfolding on_second
    second_kept pr l h m v =
        picked (λ (s : Moved). Kept (hears (state_byte m.state) m.poll_timeout ∷ h) (go (over su s))) (eqb (state_byte m.state) 2) _ _
        (λ e. wish_kept pr l _ (subst (λ (x : ℕ). c.at_wish pr l (hears x m.poll_timeout ∷ h)) (sym (eqb-true _ _ e)) (g.second pr l h _ v)))
        (λ e. refuse_kept pr l _ _ tt (g.hear l h _ _ (g.cut_second pr l h v)))

    poll_kept : (b t : State) (pr : Progress) (l : ℕ) (h : List Event) (m : GetStatusMessage) → c.looking b t pr l h
        → Kept (hears (state_byte m.state) m.poll_timeout ∷ h) (go (over su (on_poll pr l b t (w.next su pr) m)))
    unfolding on_poll
    poll_kept b t pr l h m v =
        picked P (eqb (state_byte m.state) (state_byte t)) _ _
        (λ e. wish_kept pr l _ (subst (λ (x : ℕ). c.at_wish pr l (hears x m.poll_timeout ∷ h)) (sym (eqb-true _ _ e)) (g.settle b t pr l h _ v)))
        (λ e. picked P (eqb (state_byte m.state) (state_byte b)) _ _
        (λ f. record { setup = refl; holds = subst (λ (x : ℕ). c.pausing b t pr l (waits m.poll_timeout ∷ hears x m.poll_timeout ∷ h)) (sym (eqb-true _ _ f)) (g.busy b t pr l h _ v) })
        (λ f. refuse_kept pr l _ _ tt (g.hear l h _ _ (g.cut_looking b t pr l h v))))
      where
        P : Result Met ReplyError → Type 0
        P x = Kept (hears (state_byte m.state) m.poll_timeout ∷ h) (go (over su (on_met pr l b t (w.next su pr) x)))

    -- a count: the wait begins, or the block was not taken whole
    wait_kept : (pr : Progress) (l : ℕ) (h : List Event) (d : Command) (n : ℕ) → WaitingAt (wait_after su d n) pr l (sent_by (asks_at (Phase.Waiting (wait_after su d n))) ++ h) → Kept h (go (mk su pr l (Phase.Waiting (wait_after su d n))))
    wait_kept pr l h (Command.Erase a) n v = record { setup = refl; holds = v }
    wait_kept pr l h c n v = record { setup = refl; holds = v }

    count_kept : (pr : Progress) (l : ℕ) (h : List Event) (d : Command) (n : ℕ) → SentAt d pr l h → Kept h (go (over su (on_count su pr l d (w.took su pr d n) n)))
    count_kept pr l h d n v =
        picked (λ (s : Moved). Kept h (go (over su s))) (takenb d n) _ _ (λ e. wait_kept (w.took su pr d n) l h d n (v.1 n e)) (λ e. refuse_kept pr l h _ tt v.0)

    -- one told answer
    pub kept : (p : Phase) (pr : Progress) (l : ℕ) (h : List Event) (a : Answer) → ClaimAt p pr l h
        → Kept (heard_at p a ++ h) (told_at w su pr l p a)
    kept Phase.First pr l h (reply bs) v =
        reading_kept pr l h (first_reply bs) (on_first pr l) (g.cut_first pr l h v) (λ m. first_kept pr l h m v)
    kept Phase.Clear pr l h (count n) v =
        issue_kept pr pr l h _ Phase.Second refl (g.cut_clear pr l h v) (λ m e. g.clear pr m h (subst (λ (x : ℕ). c.at_clear pr x h) e v))
    kept Phase.Second pr l h (reply bs) v =
        reading_kept pr l h (later_reply bs) (on_second pr l (w.next su pr)) (g.cut_second pr l h v) (λ m. second_kept pr l h m v)
    kept (Phase.Sent d) pr l h (count n) v = count_kept pr l h d n v
    kept (Phase.Waiting (Wait.Pause b t ms)) pr l h waited v =
        issue_kept pr pr l h _ (Phase.Waiting (Wait.Poll b t)) refl (g.cut_pausing b t pr l h v)
        (λ m e. g.look b t pr m h (subst (λ (x : ℕ). c.pausing b t pr x h) e v))
    kept (Phase.Waiting (Wait.Pause b t ms)) pr l h failed v = stay_kept (Phase.Waiting (Wait.Pause b t ms)) pr l h _ v
    kept (Phase.Waiting (Wait.Poll b t)) pr l h (reply bs) v =
        reading_kept pr l h (later_reply bs) (on_poll pr l b t (w.next su pr)) (g.cut_looking b t pr l h v) (λ m. poll_kept b t pr l h m v)
    kept Phase.Resetting pr l h was_reset v = record { setup = refl; holds = g.reset pr l h v }
    kept (Phase.Finished e) pr l h a v = record { setup = refl; holds = v }
    kept (Phase.Refused e) pr l h a v = record { setup = refl; holds = v }
    kept p pr l h failed v = refuse_kept pr l h _ tt (cut p pr l h v)
    kept p pr l h a v = stay_kept p pr l h _ v

  -- a world in which the claim of its phase holds
  pub record Good (x : World) : Type 0 where
    pub setup : x.session.setup ≡ su
    pub holds : ClaimAt x.session.phase x.session.progress x.session.left x.past

  pub tell_good : Holds → (x : World) (a : Answer) → Good x → Good (tell w x a)
  unfolding told
  tell_good g x a v =
      let k : Kept (heard_at x.session.phase a ++ x.past) (told_at w x.session.setup x.session.progress x.session.left x.session.phase a) =
      subst
      (λ (s : Setup). Kept (heard_at x.session.phase a ++ x.past) (told_at w s x.session.progress x.session.left x.session.phase a))
      (sym v.setup)
      (kept g x.session.phase x.session.progress x.session.left x.past a v.holds) in
      record { setup = k.setup; holds = k.holds }

  -- KEPT BY EVERY RUN
  pub run_good : Holds → (x : World) (more : List Answer) → Good x → Good (after w x more)
  unfolding after_by
  run_good g x [] v = v
  run_good g x (a ∷ more) v = run_good g (tell w x a) more (tell_good g x a v)

  pub run_always : Holds → (x : World) (more : List Answer) → Good x
      → c.always (after w x more).session.left (after w x more).past
  run_always g x more v =
      cut g (after w x more).session.phase (after w x more).session.progress (after w x more).session.left (after w x more).past
      (run_good g x more v).holds

  pub run_over : Holds → (x : World) (more : List Answer) → Good x → Over (after w x more).session.phase
      → (e : End) × ((after w x more).session.phase ≡ Phase.Finished e) × c.finished e (after w x more).session.progress (after w x more).session.left (after w x more).past
  run_over g x more v o = by (after w x more).session.phase (run_good g x more v).holds o
    where
      by : (p : Phase) → ClaimAt p (after w x more).session.progress (after w x more).session.left (after w x more).past → Over p
          → (e : End) × (p ≡ Phase.Finished e) × c.finished e (after w x more).session.progress (after w x more).session.left (after w x more).past
      by (Phase.Finished e) v o = (e, refl, v)
      by p v o = absurd o

  -- the two ends, where the same is claimed of both
  pub either_end : (pr : Progress) (l : ℕ) (h : List Event) (e : End) → c.finished End.Stays pr l h → c.resetting pr l (resets ∷ h) → EndAt (end_phase e) pr l h
  either_end pr l h End.Stays f r = f
  either_end pr l h End.Reset f r = r
