-- All that happens in a run that finishes. Assumes nothing.
use Rattle.std.proofs.Common.{ℕ, suc, ◌<◌, ◌≡◌, refl, ap, sym, subst, ◌∙◌, Bool, true, false, List, [], ◌∷◌, ◌++◌, append_assoc, append-nil, map, eqb, length, Result, Ok, Err}
use mathlib.Core.List.{map-append}
use Rattle.ground.proofs.Tests.{picked}
use Rattle.get_status.specs.Names.{state_byte}
use Rattle.get_status.specs.declared.State.{State}
use Rattle.work.specs.Work.{wait_after}
use Rattle.download.specs.Download.{end_for, next_of, took_of}
use Rattle.machine.specs.Machine.{end_phase, asks_at}
use Rattle.plan.specs.Sent.{on_wire, Begins}
use Rattle.promises.specs.Words.{pick, DfuProtocol, Command, Request, Setup, Progress, Todo, End, download, Phase, Session, Answer, mk, DfuSansIo, setup_of, fresh, Error}
use Rattle.promises.specs.Run.{Event, sends, hears, waits, resets, sent_by, opened, after, in_time, Over}
use Rattle.promises.specs.Whole.{opening, busy_after, target_after, looks, Round, round_of, rounds, request_of, closing, Listed}
use Rattle.promises.specs.Finish.{EndsAs}
use Rattle.promises.proofs.Walk.{Claims, Holds, EndAt, Wished, WaitingAt, Good, run_over}
use Rattle.promises.proofs.Wanted.{left, Heads, heads, wanted, fresh_wanted}
use Rattle.promises.proofs.Onwire.{wanted_plan}
use Rattle.promises.proofs.Started.{begun_holds}
use Rattle.promises.proofs.Ends.{download_ends}

looks_more : (b : ℕ) (n : List ℕ) (ms : ℕ) → looks b n ++ (sends Request.GetStatus ∷ hears b ms ∷ waits ms ∷ []) ≡ looks b (n ++ (ms ∷ []))
unfolding looks
looks_more b [] ms = refl
looks_more b (m ∷ n) ms = ap (λ (x : List Event). sends Request.GetStatus ∷ hears b m ∷ waits m ∷ x) (looks_more b n ms)

rounds_more : (t : Bool) (rs : List Round) (r : Round) → rounds t (rs ++ (r ∷ [])) ≡ rounds t rs ++ round_of t r
unfolding rounds
rounds_more t [] r = append-nil _
rounds_more t (q ∷ rs) r = ap (λ (x : List Event). round_of t q ++ x) (rounds_more t rs r) ∙ sym (append_assoc (round_of t q) (rounds t rs) (round_of t r))

-- what an end asks for
abbrev closed_by : End → List Event
closed_by End.Stays = []
closed_by End.Reset = resets ∷ []

closes : (t d : Bool) → closed_by (pick t End.Stays (pick d End.Stays End.Reset)) ≡ closing t d
closes true d = refl
closes false true = refl
closes false false = refl

module _ (tolerant : Bool) (all : List Command) where
  -- the rounds that are over, what has happened since, and the requests that are still wanted
  record Sofar (h since : List Event) (rest : List Command) : Type 0 where
    st : ℕ
    one : ℕ
    two : ℕ
    rs : List Round
    events : in_time h ≡ (opening st one two ++ rounds tolerant rs) ++ since
    list : map request_of rs ++ rest ≡ all

  -- a round that is on: the milliseconds of the busy replies so far, and what was sent since
  record On (b t : State) (h more : List Event) (rest : List Command) : Type 0 where
    c : Command
    n : List ℕ
    busy : state_byte b ≡ busy_after c
    target : state_byte t ≡ target_after tolerant c
    sofar : Sofar h (sends (Request.Command c) ∷ waits 0 ∷ (looks (busy_after c) n ++ more)) (c ∷ rest)

  -- the opening so far
  record Opening (h more : List Event) (rest : List Command) : Type 0 where
    st : ℕ
    one : ℕ
    events : in_time h ≡ sends Request.GetStatus ∷ hears st one ∷ (pick (eqb st 10) (sends Request.ClearStatus ∷ []) [] ++ more)
    list : rest ≡ all

  append_more : (h since : List Event) (e : Event) (rest : List Command) → Sofar h since rest → Sofar (e ∷ h) (since ++ (e ∷ [])) rest
  unfolding in_time
  append_more h since e rest v = record {
    st = v.st;
    one = v.one;
    two = v.two;
    rs = v.rs;
    events = ap (λ (x : List Event). x ++ (e ∷ [])) v.events ∙ append_assoc (opening v.st v.one v.two ++ rounds tolerant v.rs) since (e ∷ []);
    list = v.list;
  }

  -- the round is over
  round_over : (h : List Event) (c : Command) (n : List ℕ) (ms : ℕ) (rest : List Command)
      → Sofar h (round_of tolerant (record { command = c; busy = n; last = ms })) (c ∷ rest) → Sofar h [] rest
  round_over h c n ms rest v =
      let r : Round = record { command = c; busy = n; last = ms } in
      record {
        st = v.st;
        one = v.one;
        two = v.two;
        rs = v.rs ++ (r ∷ []);
        events = v.events
            ∙ append_assoc (opening v.st v.one v.two) (rounds tolerant v.rs) (round_of tolerant r)
            ∙ ap (λ (x : List Event). opening v.st v.one v.two ++ x) (sym (rounds_more tolerant v.rs r))
            ∙ sym (append-nil _);
        list = ap (λ (x : List Command). x ++ rest) (map-append request_of v.rs (r ∷ [])) ∙ append_assoc (map request_of v.rs) (c ∷ []) rest ∙ v.list;
      }

  on_more : (b t : State) (h more : List Event) (e : Event) (rest : List Command) → On b t h more rest → On b t (e ∷ h) (more ++ (e ∷ [])) rest
  on_more b t h more e rest v = record {
    c = v.c;
    n = v.n;
    busy = v.busy;
    target = v.target;
    sofar = subst (λ (x : List Event). Sofar (e ∷ h) (sends (Request.Command v.c) ∷ waits 0 ∷ x) (v.c ∷ rest)) (append_assoc (looks (busy_after v.c) v.n) more (e ∷ []))
        (append_more h _ e (v.c ∷ rest) v.sofar);
  }

abbrev listing : List ℕ → Setup → List Command → Claims
listing ps su all = record {
  at_first_lem = λ pr l h. (in_time h ≡ sends Request.GetStatus ∷ []) × (left ps su pr ≡ all);
  at_clear = λ pr l h. (st : ℕ) × (ms : ℕ) × (eqb st 10 ≡ true) × (in_time h ≡ sends Request.GetStatus ∷ hears st ms ∷ sends Request.ClearStatus ∷ []) × (left ps su pr ≡ all);
  at_second = λ pr l h. Opening su.tolerant all h (sends Request.GetStatus ∷ []) (left ps su pr);
  at_wish = λ pr l h. Sofar su.tolerant all h [] (left ps su pr);
  pausing = λ b t pr l h. On su.tolerant all b t h [] (left ps su pr);
  looking = λ b t pr l h. On su.tolerant all b t h (sends Request.GetStatus ∷ []) (left ps su pr);
  resetting = λ pr l h. Sofar su.tolerant all h (resets ∷ []) [] × (End.Reset ≡ end_for su);
  finished = λ e pr l h. Sofar su.tolerant all h (closed_by e) [] × (e ≡ end_for su);
  refused = λ e l h. Unit;
  always = λ l h. Unit;
}

module _ (ps : List ℕ) (su : Setup) (all : List Command) where
  -- a request was sent, and its wait begins
  begins_round : (c : Command) (k : ℕ) (h : List Event) (pr : Progress) (l : ℕ)
      → Sofar su.tolerant all (sends (Request.Command c) ∷ h) (sends (Request.Command c) ∷ []) (c ∷ left ps su pr)
      → WaitingAt (download ps) su (listing ps su all) (wait_after su c k) pr l (sent_by (asks_at (Phase.Waiting (wait_after su c k))) ++ (sends (Request.Command c) ∷ h))
  unfolding looks
  begins_round (Command.Empty n) k h pr l v = record { c = Command.Empty n; n = []; busy = refl; target = by su.tolerant; sofar = append_more su.tolerant all _ _ (waits 0) _ v }
    where
      by : (b : Bool) → state_byte (pick b State.DfuIdle State.DfuManifest) ≡ pick b 2 7
      by true = refl
      by false = refl
  begins_round c k h pr l v = record { c = c; n = []; busy = refl; target = refl; sofar = append_more su.tolerant all _ _ (waits 0) _ v }

  -- the end, with the reset or without
  ended : (x : End) (pr : Progress) (l : ℕ) (h : List Event) → x ≡ end_for su → Sofar su.tolerant all h [] [] → EndAt (download ps) su (listing ps su all) (end_phase x) pr l h
  ended End.Stays pr l h e v = (v, e)
  ended End.Reset pr l h e v = (append_more su.tolerant all h [] resets [] v, e)

  wished : (pr : Progress) (l : ℕ) (h : List Event) (t : Result Todo Error) → Heads (download ps) (left ps su) su (left ps su pr) t → EndsAs (end_for su) t
      → Sofar su.tolerant all h [] (left ps su pr) → Wished (download ps) su (listing ps su all) pr l h t
  wished pr l h (Ok (Todo.Send c then)) e x v =
      let on : Sofar su.tolerant all (sends (Request.Command c) ∷ h) (sends (Request.Command c) ∷ []) (c ∷ left ps su (took_of su then c)) =
      subst (λ (x : List Command). Sofar su.tolerant all (sends (Request.Command c) ∷ h) (sends (Request.Command c) ∷ []) x) (sym e)
      (append_more su.tolerant all h [] (sends (Request.Command c)) (left ps su pr) v) in
      λ m z. (tt, λ k f. begins_round c k h (took_of su then c) m on)
  wished pr l h (Ok (Todo.End x)) e q v = ended x pr l h q (subst (λ (y : List Command). Sofar su.tolerant all h [] y) (sym e) v)
  wished pr l h (Err x) e q v = tt

  -- one more busy reply and its wait, or the target
  busy_more : (b t : State) (h : List Event) (ms : ℕ) (rest : List Command) → On su.tolerant all b t h (sends Request.GetStatus ∷ []) rest
      → On su.tolerant all b t (waits ms ∷ hears (state_byte b) ms ∷ h) [] rest
  busy_more b t h ms rest v =
      let w : On su.tolerant all b t (waits ms ∷ hears (state_byte b) ms ∷ h) (sends Request.GetStatus ∷ hears (state_byte b) ms ∷ waits ms ∷ []) rest =
      on_more su.tolerant all b t _ _ (waits ms) rest (on_more su.tolerant all b t h _ (hears (state_byte b) ms) rest v) in
      let q : looks (busy_after w.c) w.n ++ (sends Request.GetStatus ∷ hears (state_byte b) ms ∷ waits ms ∷ []) ≡ looks (busy_after w.c) (w.n ++ (ms ∷ [])) ++ [] =
      ap (λ (x : ℕ). looks (busy_after w.c) w.n ++ (sends Request.GetStatus ∷ hears x ms ∷ waits ms ∷ [])) w.busy
      ∙ looks_more (busy_after w.c) w.n ms
      ∙ sym (append-nil _) in
      record {
        c = w.c;
        n = w.n ++ (ms ∷ []);
        busy = w.busy;
        target = w.target;
        sofar = subst (λ (x : List Event). Sofar su.tolerant all (waits ms ∷ hears (state_byte b) ms ∷ h) (sends (Request.Command w.c) ∷ waits 0 ∷ x) (w.c ∷ rest)) q w.sofar;
      }

  target_met : (b t : State) (h : List Event) (ms : ℕ) (rest : List Command) → On su.tolerant all b t h (sends Request.GetStatus ∷ []) rest
      → Sofar su.tolerant all (hears (state_byte t) ms ∷ h) [] rest
  target_met b t h ms rest v =
      let w : On su.tolerant all b t (hears (state_byte t) ms ∷ h) (sends Request.GetStatus ∷ hears (state_byte t) ms ∷ []) rest = on_more su.tolerant all b t h _ _ rest v in
      round_over su.tolerant all _ w.c w.n ms rest
      (subst
      (λ (x : ℕ).
      Sofar su.tolerant all (hears (state_byte t) ms ∷ h) (sends (Request.Command w.c) ∷ waits 0 ∷ (looks (busy_after w.c) w.n ++ (sends Request.GetStatus ∷ hears x ms ∷ []))) (w.c ∷ rest))
      w.target
      w.sofar)

  first_told : (pr : Progress) (l : ℕ) (h : List Event) (st ms : ℕ) → (listing ps su all).at_first_lem pr (suc l) h
      → pick (eqb st 10) ((listing ps su all).at_clear pr l (sends Request.ClearStatus ∷ hears st ms ∷ h)) ((listing ps su all).at_second pr l (sends Request.GetStatus ∷ hears st ms ∷ h))
  unfolding in_time
  first_told pr l h st ms v =
      picked (λ (X : Type 0). X) (eqb st 10) _ _
      (λ e. (st, ms, e, ap (λ (x : List Event). (x ++ (hears st ms ∷ [])) ++ (sends Request.ClearStatus ∷ [])) v.0, v.1))
      (λ e.
      record {
        st = st;
        one = ms;
        events = ap (λ (x : List Event). (x ++ (hears st ms ∷ [])) ++ (sends Request.GetStatus ∷ [])) v.0
            ∙ ap (λ (b : Bool). sends Request.GetStatus ∷ hears st ms ∷ (pick b (sends Request.ClearStatus ∷ []) [] ++ (sends Request.GetStatus ∷ []))) (sym e);
        list = v.1;
      })

  clear_told : (pr : Progress) (l : ℕ) (h : List Event) → (listing ps su all).at_clear pr (suc l) h → (listing ps su all).at_second pr l (sends Request.GetStatus ∷ h)
  unfolding in_time
  clear_told pr l h (st, ms, e, v, q) = record {
    st = st;
    one = ms;
    events = ap (λ (x : List Event). x ++ (sends Request.GetStatus ∷ [])) v
        ∙ ap (λ (b : Bool). sends Request.GetStatus ∷ hears st ms ∷ (pick b (sends Request.ClearStatus ∷ []) [] ++ (sends Request.GetStatus ∷ []))) (sym e);
    list = q;
  }

  second_told : (pr : Progress) (l : ℕ) (h : List Event) (ms : ℕ) → (listing ps su all).at_second pr l h → (listing ps su all).at_wish pr l (hears 2 ms ∷ h)
  unfolding in_time rounds
  second_told pr l h ms v = record {
    st = v.st;
    one = v.one;
    two = ms;
    rs = [];
    events = ap (λ (x : List Event). x ++ (hears 2 ms ∷ [])) v.events
        ∙ ap (λ (x : List Event). sends Request.GetStatus ∷ hears v.st v.one ∷ x)
        (append_assoc (pick (eqb v.st 10) (sends Request.ClearStatus ∷ []) []) (sends Request.GetStatus ∷ []) (hears 2 ms ∷ []))
        ∙ sym (append-nil _)
        ∙ sym (append-nil _);
    list = v.list;
  }

  holds : 0 < su.size → Holds (download ps) su (listing ps su all)
  holds k = record {
    first = first_told;
    clear = clear_told;
    second = second_told;
    wish = λ pr l h v. wished pr l h (next_of ps su pr) (heads ps su pr k) (download_ends ps su pr) v;
    look = λ b t pr l h v. on_more su.tolerant all b t h [] (sends Request.GetStatus) (left ps su pr) v;
    busy = λ b t pr l h ms v. busy_more b t h ms (left ps su pr) v;
    settle = λ b t pr l h ms v. target_met b t h ms (left ps su pr) v;
    cut_first = λ pr l h v. tt;
    cut_clear = λ pr l h v. tt;
    cut_second = λ pr l h v. tt;
    cut_wish = λ pr l h v. tt;
    cut_pausing = λ b t pr l h v. tt;
    cut_looking = λ b t pr l h v. tt;
    reset = λ pr l h v. v;
    cut_resetting = λ pr l h v. tt;
    cut_finished = λ e pr l h v. tt;
    cut_refused = λ e l h v. tt;
    deny = λ e l h d v. tt;
    hear = λ l h st ms v. tt;
  }

fresh_good : (ps : List ℕ) (su : Setup) (l : ℕ) → 0 < su.size → Good (download ps) su (listing ps su (wanted su ps)) (opened (mk su (fresh su) l Phase.First))
unfolding in_time
fresh_good ps su l k = record { setup = refl; holds = (refl, fresh_wanted ps su k) }

module _ (io : DfuSansIo) (p : DfuProtocol) (fw ps : List ℕ) (budget : ℕ) (s : Session) (more : List Answer) where
  abbrev su : Setup
  su = setup_of io p (length fw) (length ps)

  -- THE WHOLE LIST OF A FINISHED RUN
  pub finished_lists : 0 < length fw → 0 < io.descriptor.transfer_size → Begins io p fw ps budget s
      → Over (after (download ps) (opened s) more).session.phase → Listed io p fw ps (after (download ps) (opened s) more).past
  finished_lists h k b =
      begun_holds
      (λ (x : Session).
      Over (after (download ps) (opened x) more).session.phase
      → Listed io p fw ps (after (download ps) (opened x) more).past)
      io p fw ps budget s h k b
      (λ l z o.
      let (x, p, (v, q)) = run_over (download ps) su (listing ps su (wanted su ps)) (holds ps su (wanted su ps) k) (opened (mk su (fresh su) l Phase.First)) more (fresh_good ps su l k) o in
      let r : map request_of v.rs ≡ wanted su ps = sym (append-nil (map request_of v.rs)) ∙ v.list in
      record {
        shown = v.st;
        first = v.one;
        second = v.two;
        all = v.rs;
        events = v.events
            ∙ append_assoc (opening v.st v.one v.two) (rounds su.tolerant v.rs) (closed_by x)
            ∙ ap (λ (y : List Event). opening v.st v.one v.two ++ (rounds su.tolerant v.rs ++ y)) (ap closed_by q ∙ closes su.tolerant su.detach);
        requests = ap (λ (y : List Command). map (on_wire fw) y) r ∙ wanted_plan fw su ps refl k;
      })
