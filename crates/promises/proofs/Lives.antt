-- Any work: with a fair device, room and budget nothing is refused, and each answer brings the end nearer. Assumes nothing.
use Rattle.std.proofs.Common.{mul-le-mul_right, ℕ, zero, suc, ◌+◌, ◌-◌, ◌*◌, ◌<◌, ◌≤◌, arith, ◌≡◌, refl, ap, sym, subst, ◌∙◌, ◌⊎◌, ⊎_elim, true, false, List, [], ◌∷◌, ◌++◌, eqb, ltb, length, length-append, le-ltb, eq-eqb, Result, Ok, Err}
use borrow.Author.Tests.{eqb-false}
use Rattle.ground.proofs.Tests.{picked}
use Rattle.get_status.specs.Names.{state_byte, status_byte}
use Rattle.get_status.specs.Reply.{message_of}
use Rattle.get_status.specs.declared.State.{State}
use Rattle.get_status.specs.declared.GetStatusMessage.{GetStatusMessage}
use Rattle.get_status.specs.declared.Error.{Error as ReplyError}
use Rattle.get_status.specs.declared.Met.{Met}
use Rattle.work.specs.Work.{whole_of, wait_after}
use Rattle.machine.specs.Machine.{issue, proceed, on_count, first_reply, later_reply, reading, on_first, on_second, on_met, on_poll, asks_at}
use Rattle.session.specs.Told.{over, go, told_at}
use Rattle.promises.specs.Words.{Command, Request, Setup, Progress, Todo, Wait, End, Work, Phase, Moved, Ask, Session, Step, Answer, count, reply, waited, was_reset, mk, told, Error}
use Rattle.promises.specs.Run.{Event, sends, sent_by, shown_by, shown_first, shown_later, heard_at, World, tell, after, after_by, transfers, cleared, Unrefused, Over, Taken}
use Rattle.promises.specs.Fair.{Fine, allowed, Fair, FairBy, Yes, AllYes, AllYesBy}
use Rattle.promises.proofs.Counted.{taken_true}
use Rattle.promises.proofs.Wanted.{Heads}
use Rattle.promises.proofs.Steady.{tell_setup}
use Rattle.promises.proofs.Spends.{tell_adds}

-- with room the work isn't refused, and keeps room
abbrev pub Wants : Work → (Progress → Type 0) → Setup → Result Todo Error → Type 0
Wants w room su (Ok (Todo.Send c then)) = room (w.took su then c (whole_of c))
Wants w room su (Ok (Todo.End e)) = Unit
Wants w room su (Err e) = ⊥

-- what is asked of the work: its wishes are a list, with room it isn't refused, and a command that brings less than it may leaves no more to do
pub record Thrives (w : Work) (su : Setup) (left : Progress → List Command) (room : Progress → Type 0) : Type 0 where
  pub heads : (pr : Progress) → Heads w left su (left pr) (w.next su pr)
  pub wants : (pr : Progress) → room pr → Wants w room su (w.next su pr)
  pub short : (pr : Progress) (c : Command) (n : ℕ) → Taken c n
      → (length (left (w.took su pr c n)) ≤ length (left (w.took su pr c (whole_of c)))) × (room (w.took su pr c (whole_of c)) → room (w.took su pr c n))

module _ (w : Work) (left : Progress → List Command) (room : Progress → Type 0) where
  -- what a session still wants, and its room
  abbrev pub rest_at : Setup → Progress → Phase → List Command
  rest_at su pr Phase.First = left pr
  rest_at su pr Phase.Clear = left pr
  rest_at su pr Phase.Second = left pr
  rest_at su pr (Phase.Sent c) = left (w.took su pr c (whole_of c))
  rest_at su pr (Phase.Waiting x) = left pr
  rest_at su pr Phase.Resetting = []
  rest_at su pr (Phase.Finished e) = []
  rest_at su pr (Phase.Refused e) = []

  abbrev pub RoomAt : Setup → Progress → Phase → Type 0
  RoomAt su pr Phase.First = room pr
  RoomAt su pr Phase.Clear = room pr
  RoomAt su pr Phase.Second = room pr
  RoomAt su pr (Phase.Sent c) = room (w.took su pr c (whole_of c))
  RoomAt su pr (Phase.Waiting x) = room pr
  RoomAt su pr Phase.Resetting = Unit
  RoomAt su pr (Phase.Finished e) = Unit
  RoomAt su pr (Phase.Refused e) = ⊥

  abbrev pub Room : Session → Type 0
  Room s = RoomAt s.setup s.progress s.phase

  -- the transfers still to come at most, clears apart; the answers still to be told at most
  abbrev ownNeed : ℕ → ℕ → Phase → ℕ
  ownNeed k j Phase.First = 1
  ownNeed k j Phase.Clear = 1
  ownNeed k j Phase.Second = 0
  ownNeed k j (Phase.Sent c) = k + 1
  ownNeed k j (Phase.Waiting (Wait.Pause b t ms)) = j + 1
  ownNeed k j (Phase.Waiting (Wait.Poll b t)) = j
  ownNeed k j Phase.Resetting = 0
  ownNeed k j (Phase.Finished e) = 0
  ownNeed k j (Phase.Refused e) = 0

  abbrev ownTells : ℕ → ℕ → Phase → ℕ
  ownTells k j Phase.First = 4
  ownTells k j Phase.Clear = 3
  ownTells k j Phase.Second = 2
  ownTells k j (Phase.Sent c) = 2 * k + 4
  ownTells k j (Phase.Waiting (Wait.Pause b t ms)) = 2 * j + 3
  ownTells k j (Phase.Waiting (Wait.Poll b t)) = 2 * j + 2
  ownTells k j Phase.Resetting = 1
  ownTells k j (Phase.Finished e) = 0
  ownTells k j (Phase.Refused e) = 0

  abbrev pub needAt : ℕ → ℕ → Setup → Progress → Phase → ℕ
  needAt k j su pr p = ownNeed k j p + length (rest_at su pr p) * (k + 2)

  abbrev pub tellsAt : ℕ → ℕ → Setup → Progress → Phase → ℕ
  tellsAt k j su pr p = ownTells k j p + length (rest_at su pr p) * (2 * k + 3)

  abbrev pub need : ℕ → ℕ → Session → ℕ
  need k j s = needAt k j s.setup s.progress s.phase

  abbrev pub tells : ℕ → ℕ → Session → ℕ
  tells k j s = tellsAt k j s.setup s.progress s.phase

  module _ (k : ℕ) where
    -- a step that keeps room, and pays for itself in transfers (clears apart) and in answers
    record Lives (j n t : ℕ) (x : Step) : Type 0 where
      roomy : Room x.next
      cost : length (transfers (sent_by x.says)) + need k j x.next ≤ n + cleared (sent_by x.says)
      time : tells k j x.next ≤ t - 1
      yes : Yes x.says

    more_lives : {j n n' t t' : ℕ} {x : Step} → n ≤ n' → t ≤ t' → Lives j n t x → Lives j n' t' x
    more_lives a b v = record { roomy = v.roomy; cost = omega (arith, v.cost); time = omega (arith, v.time); yes = v.yes }

    -- a transfer, with something left to spend
    ask_lives : (j n t : ℕ) (su : Setup) (pr then : Progress) (l : ℕ) (q : Request) (p : Phase) → 0 < l → RoomAt su then p → asks_at p ≡ Ask.Transfer q
        → 1 + needAt k j su then p ≤ n + cleared (sends q ∷ []) → tellsAt k j su then p ≤ t - 1 → Lives j n t (go (over su (issue pr l then p)))
    unfolding transfers
    ask_lives j n t su pr then zero q p h v a c d = absurd (omega arith)
    ask_lives j n t su pr then (suc l) q p h v a c d = record { roomy = v; cost = rw a c; time = d; yes = rw a tt }

    -- the work goes on
    proceed_lives : (j : ℕ) (su : Setup) (pr : Progress) (l : ℕ) (t : Result Todo Error) → Heads w left su (left pr) t → Wants w room su t → length (left pr) * (k + 2) ≤ l
        → Lives j (length (left pr) * (k + 2)) (2 + length (left pr) * (2 * k + 3)) (go (over su (proceed pr l t)))
    unfolding transfers cleared
    proceed_lives j su pr l (Ok (Todo.Send c then)) h v m =
        let e : suc (length (left (w.took su then c (whole_of c)))) ≡ length (left pr) = ap length h in
        let e₁ : suc (length (left (w.took su then c (whole_of c)))) * (k + 2) ≡ length (left pr) * (k + 2) = ap (λ (x : ℕ). x * (k + 2)) e in
        let e₂ : suc (length (left (w.took su then c (whole_of c)))) * (2 * k + 3) ≡ length (left pr) * (2 * k + 3) = ap (λ (x : ℕ). x * (2 * k + 3)) e in
        ask_lives j _ _ su pr then l (Request.Command c) (Phase.Sent c) (omega arith) v refl (omega arith) (omega arith)
    proceed_lives j su pr l (Ok (Todo.End End.Stays)) h v m = record { roomy = tt; cost = omega arith; time = omega arith; yes = tt }
    proceed_lives j su pr l (Ok (Todo.End End.Reset)) h v m = record { roomy = tt; cost = omega arith; time = omega arith; yes = tt }
    proceed_lives j su pr l (Err e) h v m = absurd v

    reading_lives : (j n t : ℕ) (su : Setup) (pr : Progress) (l : ℕ) (bs : List ℕ) (f : GetStatusMessage → Moved) → 6 ≤ length bs → Lives j n t (go (over su (f (message_of bs))))
        → Lives j n t (go (over su (reading pr l (first_reply bs) f)))
    reading_lives j n t su pr l bs f h v =
        let e : ltb (length bs) 6 ≡ false = le-ltb _ _ h in
        rw e v

    strict_lives : (j n t : ℕ) (su : Setup) (pr : Progress) (l : ℕ) (bs : List ℕ) (f : GetStatusMessage → Moved) → 6 ≤ length bs
        → status_byte (message_of bs).status ≡ 0 → Lives j n t (go (over su (f (message_of bs)))) → Lives j n t (go (over su (reading pr l (later_reply bs) f)))
    strict_lives j n t su pr l bs f h z v =
        let e : ltb (length bs) 6 ≡ false = le-ltb _ _ h in
        let o : eqb (status_byte (message_of bs).status) 0 ≡ true = eq-eqb _ _ z in
        rw (e, o) v

    module _ (j : ℕ) (su : Setup) (pr : Progress) (l : ℕ) (v : room pr) where
      first_lives : (m : GetStatusMessage) → needAt k j su pr Phase.First ≤ l → Lives j (needAt k j su pr Phase.First) (tellsAt k j su pr Phase.First) (go (over su (on_first pr l m)))
      unfolding on_first cleared
      first_lives m h =
          picked (λ (p : Phase). Lives j (needAt k j su pr Phase.First) (tellsAt k j su pr Phase.First) (go (over su (issue pr l pr p)))) (eqb (state_byte m.state) 10) _ _
          (λ e. ask_lives j _ _ su pr pr l Request.ClearStatus Phase.Clear (omega arith) v refl (omega arith) (omega arith))
          (λ e. ask_lives j _ _ su pr pr l Request.GetStatus Phase.Second (omega arith) v refl (omega arith) (omega arith))

      second_lives : (m : GetStatusMessage) (t : Result Todo Error) → Heads w left su (left pr) t → Wants w room su t → needAt k j su pr Phase.Second ≤ l → state_byte m.state ≡ 2
          → Lives j (needAt k j su pr Phase.Second) (tellsAt k j su pr Phase.Second) (go (over su (on_second pr l t m)))
      unfolding on_second
      second_lives m t h n u e =
          picked (λ (s : Moved). Lives j (needAt k j su pr Phase.Second) (tellsAt k j su pr Phase.Second) (go (over su s))) (eqb (state_byte m.state) 2) _ _
          (λ f. more_lives (omega arith) (omega arith) (proceed_lives j su pr l t h n (omega arith)))
          (λ f. absurd (eqb-false _ _ f e))

      -- one look while waiting
      poll_lives : (b g : State) (m : GetStatusMessage) (t : Result Todo Error) → Heads w left su (left pr) t → Wants w room su t → needAt k j su pr (Phase.Waiting (Wait.Poll b g)) ≤ l
          → (state_byte m.state ≡ state_byte g) ⊎ ((state_byte m.state ≡ state_byte b) × (0 < j))
          → Lives (j - 1) (needAt k j su pr (Phase.Waiting (Wait.Poll b g))) (tellsAt k j su pr (Phase.Waiting (Wait.Poll b g))) (go (over su (on_poll pr l b g t m)))
      unfolding on_poll transfers cleared
      poll_lives b g m t h n u z =
          picked P (eqb (state_byte m.state) (state_byte g)) _ _
          (λ e. more_lives (omega arith) (omega arith) (proceed_lives (j - 1) su pr l t h n (omega arith)))
          (λ e. picked P (eqb (state_byte m.state) (state_byte b)) _ _
          (λ f. again (⊎_elim (λ y. absurd (eqb-false _ _ e y)) (λ y. y.1) z))
          (λ f. absurd (⊎_elim (λ y. eqb-false _ _ e y) (λ y. eqb-false _ _ f y.0) z)))
        where
          P : Result Met ReplyError → Type 0
          P x = Lives (j - 1) (needAt k j su pr (Phase.Waiting (Wait.Poll b g))) (tellsAt k j su pr (Phase.Waiting (Wait.Poll b g))) (go (over su (on_met pr l b g t x)))

          again : 0 < j → P (Ok (Met.Busy m.poll_timeout))
          again y = record { roomy = v; cost = omega arith; time = omega arith; yes = tt }

    -- one fair answer
    module _ (su : Setup) (law : Thrives w su left room) where
      sent_lives : (pr : Progress) (l : ℕ) (c : Command) (n : ℕ) → Taken c n → room (w.took su pr c (whole_of c))
          → Lives k (needAt k 0 su pr (Phase.Sent c)) (tellsAt k 0 su pr (Phase.Sent c)) (go (over su (on_count su pr l c (w.took su pr c n) n)))
      unfolding transfers cleared
      sent_lives pr l c n u v = rw (taken_true c n u) (by c)
        where
          at_first : (b t : State) → Lives k (needAt k 0 su pr (Phase.Sent c)) (tellsAt k 0 su pr (Phase.Sent c)) (go (mk su (w.took su pr c n) l (Phase.Waiting (Wait.Pause b t 0))))
          at_first b t =
              let less : length (left (w.took su pr c n)) ≤ length (left (w.took su pr c (whole_of c))) = (law.short pr c n u).0 in
              let less₁ : length (left (w.took su pr c n)) * (k + 2) ≤ length (left (w.took su pr c (whole_of c))) * (k + 2) = mul-le-mul_right (k + 2) less in
              let less₂ : length (left (w.took su pr c n)) * (2 * k + 3) ≤ length (left (w.took su pr c (whole_of c))) * (2 * k + 3) = mul-le-mul_right (2 * k + 3) less in
              record { roomy = (law.short pr c n u).1 v; cost = omega (arith, less₁); time = omega (arith, less₂); yes = tt }

          by : (d : Command) → Lives k (needAt k 0 su pr (Phase.Sent c)) (tellsAt k 0 su pr (Phase.Sent c)) (go (mk su (w.took su pr c n) l (Phase.Waiting (wait_after su d n))))
          by (Command.Erase a) = at_first _ _
          by d = at_first _ _

      lives_at : (j : ℕ) (pr : Progress) (l : ℕ) (p : Phase) (a : Answer) → RoomAt su pr p → Fine j p a → needAt k j su pr p ≤ l
          → Lives (allowed k j p) (needAt k j su pr p) (tellsAt k j su pr p) (told_at w su pr l p a)
      unfolding transfers cleared
      lives_at j pr l Phase.First (reply bs) v f m = reading_lives j _ _ su pr l bs _ f.0 (first_lives j su pr l v (message_of bs) m)
      lives_at j pr l Phase.Clear (count n) v f m = ask_lives j _ _ su pr pr l Request.GetStatus Phase.Second (omega arith) v refl (omega arith) (omega arith)
      lives_at j pr l Phase.Second (reply bs) v f m =
          strict_lives j _ _ su pr l bs _ f.0 f.1.0 (second_lives j su pr l v (message_of bs) _ (law.heads pr) (law.wants pr v) m f.1.1)
      lives_at j pr l (Phase.Sent c) (count n) v f m = sent_lives pr l c n f v
      lives_at j pr l (Phase.Waiting (Wait.Pause b t ms)) waited v f m =
          ask_lives j _ _ su pr pr l Request.GetStatus (Phase.Waiting (Wait.Poll b t)) (omega arith) v refl (omega arith) (omega arith)
      lives_at j pr l (Phase.Waiting (Wait.Poll b t)) (reply bs) v f m =
          strict_lives (j - 1) _ _ su pr l bs _ f.0 f.1.0 (poll_lives j su pr l v b t (message_of bs) _ (law.heads pr) (law.wants pr v) m f.1.1)
      lives_at j pr l Phase.Resetting was_reset v f m = record { roomy = tt; cost = omega arith; time = omega arith; yes = tt }
      lives_at j pr l (Phase.Finished e) a v f m = record { roomy = tt; cost = omega arith; time = omega arith; yes = tt }
      lives_at j pr l (Phase.Refused e) a v f m = absurd v
      lives_at j pr l p a v f m = absurd f

-- what a step adds to the past: at most one transfer, and no reply is one
abbrev Silent : List Event → Type 0
Silent e = (h : List Event) → (transfers (e ++ h) ≡ transfers h) × (cleared (e ++ h) ≡ cleared h)

shown_silent : (r : Result GetStatusMessage ReplyError) → Silent (shown_by r)
unfolding transfers cleared
shown_silent (Err e) h = (refl, refl)
shown_silent r h = (refl, refl)

first_silent : (a : Answer) → Silent (shown_first a)
first_silent (reply bs) h = shown_silent (first_reply bs) h
first_silent a h = (refl, refl)

later_silent : (a : Answer) → Silent (shown_later a)
later_silent (reply bs) h = shown_silent (later_reply bs) h
later_silent a h = (refl, refl)

heard_silent : (p : Phase) (a : Answer) → Silent (heard_at p a)
heard_silent Phase.First a h = first_silent a h
heard_silent Phase.Second a h = later_silent a h
heard_silent (Phase.Waiting (Wait.Poll b t)) a h = later_silent a h
heard_silent p a h = (refl, refl)

sent_transfers : (k : Ask) (h : List Event) → length (transfers (sent_by k ++ h)) ≡ length (transfers h) + length (transfers (sent_by k))
unfolding transfers
sent_transfers (Ask.Transfer q) h = length-append (transfers h) (q ∷ [])
sent_transfers k h = omega arith

sent_cleared : (k : Ask) (h : List Event) → cleared (sent_by k ++ h) ≡ cleared h + cleared (sent_by k)
unfolding cleared
sent_cleared (Ask.Transfer Request.GetStatus) h = omega arith
sent_cleared k h = omega arith

tell_transfers : (w : Work) (x : World) (a : Answer)
    → length (transfers (tell w x a).past) ≡ length (transfers x.past) + length (transfers (sent_by (told w x.session a).says))
tell_transfers w x a =
    sent_transfers (told w x.session a).says (heard_at x.session.phase a ++ x.past)
    ∙ ap (λ (q : List Request). length q + length (transfers (sent_by (told w x.session a).says))) (heard_silent x.session.phase a x.past).0

tell_cleared : (w : Work) (x : World) (a : Answer) → cleared (tell w x a).past ≡ cleared x.past + cleared (sent_by (told w x.session a).says)
tell_cleared w x a =
    sent_cleared (told w x.session a).says (heard_at x.session.phase a ++ x.past)
    ∙ ap (λ (n : ℕ). n + cleared (sent_by (told w x.session a).says)) (heard_silent x.session.phase a x.past).1

clears_grow : (w : Work) (x : World) (more : List Answer) → cleared x.past ≤ cleared (after w x more).past
unfolding after_by
clears_grow w x [] = omega arith
clears_grow w x (a ∷ more) = omega (arith, tell_cleared w x a, clears_grow w (tell w x a) more)

module _ (w : Work) (left : Progress → List Command) (room : Progress → Type 0) (k : ℕ) where
  -- where a run of fair answers has come to
  pub record Lived (n t : ℕ) (y : World) : Type 0 where
    pub last : ℕ
    pub roomy : Room w left room y.session
    pub cost : length (transfers y.past) + need w left room k last y.session ≤ n + cleared y.past
    pub time : tells w left room k last y.session ≤ t

  -- A RUN OF FAIR ANSWERS
  pub lived : (j : ℕ) (x : World) (more : List Answer) (n t budget : ℕ) → Thrives w x.session.setup left room → Room w left room x.session
      → Fair k j w x.session more → length (transfers x.past) + need w left room k j x.session ≤ n + cleared x.past
      → x.session.left + length (transfers x.past) ≡ budget → n + cleared (after w x more).past ≤ budget
      → tells w left room k j x.session ≤ t → Lived n (t - length more) (after w x more) × AllYes w x.session more
  unfolding after_by FairBy AllYesBy told
  lived j x [] n t budget law v f c b m e = (record { last = j; roomy = v; cost = c; time = omega arith }, tt)
  lived j x (a ∷ more) n t budget law v f c b m e =
      let s : Session = x.session in
      let y : World = tell w x a in
      let i : ℕ = allowed k j s.phase in
      let grow : cleared x.past ≤ cleared (after w y more).past = omega (arith, tell_cleared w x a, clears_grow w y more) in
      let step : Lives w left room k i (need w left room k j s) (tells w left room k j s) (told w s a) = told_lives s a (omega (arith, grow, m, c, b)) law v f.0 in
      let cost : length (transfers y.past) + need w left room k i y.session ≤ n + cleared y.past =
      omega (arith, tell_transfers w x a, tell_cleared w x a, step.cost, c) in
      let (z, others) =
      lived i y more n (tells w left room k i y.session) budget (subst (λ (q : Setup). Thrives w q left room) (sym (tell_setup w x a)) law) step.roomy f.1 cost
      (tell_adds w x a budget b) m (omega arith) in
      (record { last = z.last; roomy = z.roomy; cost = z.cost; time = omega (arith, z.time, step.time, e) }, (step.yes, others))
    where
      told_lives : (s : Session) (a : Answer) → need w left room k j s ≤ s.left → Thrives w s.setup left room → Room w left room s → Fine j s.phase a
          → Lives w left room k (allowed k j s.phase) (need w left room k j s) (tells w left room k j s) (told w s a)
      told_lives s a h law v f = lives_at w left room k s.setup law j s.progress s.left s.phase a v f h

-- with room nothing is refused, and with nothing more to tell it is over
pub room_unrefused : (w : Work) (left : Progress → List Command) (room : Progress → Type 0) (su : Setup) (pr : Progress) (p : Phase)
    → RoomAt w left room su pr p → Unrefused p
room_unrefused w left room su pr (Phase.Refused e) v = v
room_unrefused w left room su pr p v = tt

pub at_rest : (w : Work) (left : Progress → List Command) (room : Progress → Type 0) (k j : ℕ) (su : Setup) (pr : Progress) (p : Phase)
    → RoomAt w left room su pr p → tellsAt w left room k j su pr p ≤ 0 → Over p
at_rest w left room k j su pr (Phase.Finished e) v m = tt
at_rest w left room k j su pr (Phase.Refused e) v m = v
at_rest w left room k j su pr (Phase.Waiting (Wait.Pause b t ms)) v m = absurd (omega arith)
at_rest w left room k j su pr p v m = absurd (omega arith)
