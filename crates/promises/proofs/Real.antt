-- A run that lends the same things at each call is the run of the definitions: 25 is not given, and `data` hands over the plan's bytes. Assumes nothing.
use Rattle.std.proofs.Common.{ℕ, ◌≤◌, arith, ◌≡◌, refl, ap, sym, subst, ◌∙◌, ◌⊎◌, inl, inr, Bool, true, false, List, [], ◌∷◌, ◌++◌, eqb, ltb, length, eq-eqb, le-ltb, Result, Ok}
use Rattle.ground.specs.Bytes.{bytes_low}
use Rattle.ground.proofs.Tests.{picked}
use Rattle.wire.specs.Wire.{filled_for, request_data}
use Rattle.machine.specs.Machine.{asks_at}
use Rattle.session.specs.Told.{await_reply, await_count, await_wait, await_reset, told_at}
use Rattle.session.specs.Calls.{as_at_start, guard_of, through, called, filled_by, call_of, ask_data, data_of}
use Rattle.plan.proofs.Wire.{erase_command_lem, address_command}
use Rattle.promises.specs.Words.{pick, Command, Request, Setup, Progress, Wait, Error, Work, download, Phase, Moved, Ask, Session, Step, Answer, count, reply, waited, was_reset, failed, mk, told}
use Rattle.promises.specs.Run.{Event, sent_by, World, tell, after, after_by}
use Rattle.promises.specs.Calls.{Call, outcome, heard_through, call, calls, Lends, AllLend, rightly, passed, AllPass, answers}
use Rattle.promises.proofs.Steady.{tell_setup}

-- lent as at start
lent_as_at_start : (su : Setup) (fw ps : List ℕ) (c : Call) → su.length ≡ length fw → su.pages ≡ length ps → Lends fw ps c
    → as_at_start su (length c.firmware) (length c.pages) (length c.command) ≡ true
unfolding as_at_start
lent_as_at_start su fw ps c h k v =
    let e₁ : eqb (length c.firmware) su.length ≡ true = eq-eqb _ _ (ap (λ (x : List ℕ). length x) v.0 ∙ sym h) in
    let e₂ : ltb (length c.command) 5 ≡ false = le-ltb _ _ v.2 in
    let e₃ : pick su.dfuse (eqb (length c.pages) su.pages) true ≡ true =
    picked (λ (b : Bool). b ≡ true) su.dfuse _ _ (λ d. eq-eqb _ _ (ap (λ (x : List ℕ). length x) v.1 ∙ sym k)) (λ d. refl) in
    rw (e₁, e₂, e₃)

-- such a call is a told answer
abbrev world_by : Setup → Progress → ℕ → Phase → List Event → Call → Result Unit Ask → World
world_by su pr l p h c g = record {
  session = (through g (mk su pr l p) (told_at (download c.pages) su pr l p c.answer)).next;
  past = sent_by (through g (mk su pr l p) (told_at (download c.pages) su pr l p c.answer)).says ++ (heard_through g p c.answer ++ h);
}

call_at : (su : Setup) (pr : Progress) (l : ℕ) (p : Phase) (h : List Event) (c : Call)
    → as_at_start su (length c.firmware) (length c.pages) (length c.command) ≡ true
    → world_by su pr l p h c (guard_of (mk su pr l p) (length c.firmware) (length c.pages) (length c.command)) ≡ world_by su pr l p h c (Ok tt)
unfolding guard_of
call_at su pr l (Phase.Finished y) h c e = refl
call_at su pr l (Phase.Refused y) h c e = refl
call_at su pr l p h c e = rw e

call_tells : (x : World) (c : Call) → as_at_start x.session.setup (length c.firmware) (length c.pages) (length c.command) ≡ true
    → call x c ≡ tell (download c.pages) x c.answer
unfolding call_of called told
call_tells x c e = call_at x.session.setup x.session.progress x.session.left x.session.phase x.past c e

-- THE RUN OVER THE CALLS IS THE RUN OF THE DEFINITIONS
module _ (fw ps : List ℕ) where
  abbrev pub For : Setup → Type 0
  For su = (su.length ≡ length fw) × (su.pages ≡ length ps)

  same_call : (x : World) (c : Call) → For x.session.setup → Lends fw ps c → call x c ≡ tell (download ps) x c.answer
  same_call x c k v =
      call_tells x c (lent_as_at_start x.session.setup fw ps c k.0 k.1 v) ∙ ap (λ (y : List ℕ). tell (download y) x c.answer) v.1

  pub same_calls : (x : World) (more : List Call) → For x.session.setup → AllLend fw ps more → calls x more ≡ after (download ps) x (answers more)
  unfolding calls after_by AllLend answers
  same_calls x [] k v = refl
  same_calls x (c ∷ more) k v =
      ap (λ (y : World). calls y more) (same_call x c k v.0)
      ∙ same_calls (tell (download ps) x c.answer) more (subst For (sym (tell_setup (download ps) x c.answer)) k) v.1

-- a call that doesn't lend as at start leaves the world as it was
shut_at : (su : Setup) (pr : Progress) (l : ℕ) (p : Phase) (h : List Event) (c : Call) → rightly su c ≡ false
    → world_by su pr l p h c (guard_of (mk su pr l p) (length c.firmware) (length c.pages) (length c.command)) ≡ record { session = mk su pr l p; past = h }
unfolding guard_of
shut_at su pr l (Phase.Finished y) h c e = refl
shut_at su pr l (Phase.Refused y) h c e = refl
shut_at su pr l p h c e = rw e

call_shut : (x : World) (c : Call) → rightly x.session.setup c ≡ false → call x c ≡ x
unfolding call_of called told
call_shut x c e = shut_at x.session.setup x.session.progress x.session.left x.session.phase x.past c e

-- 25 CHANGES NOTHING: a run over calls is the run of the answers that were let through
pub passed_run : (ps : List ℕ) (x : World) (more : List Call) → AllPass ps x.session.setup more
    → calls x more ≡ after (download ps) x (passed x.session.setup more)
unfolding calls after_by AllPass passed
passed_run ps x [] v = refl
passed_run ps x (c ∷ more) v =
    by (rightly x.session.setup c) refl
    (λ e. passed_run ps (tell (download ps) x c.answer) more (subst (λ (su : Setup). AllPass ps su more) (sym (tell_setup (download ps) x c.answer)) v.1))
    (passed_run ps x more v.1)
  where
    by : (b : Bool) → rightly x.session.setup c ≡ b
        → (b ≡ true → calls (tell (download ps) x c.answer) more ≡ after (download ps) (tell (download ps) x c.answer) (passed (tell (download ps) x c.answer).session.setup more))
        → calls x more ≡ after (download ps) x (passed x.session.setup more)
        → calls (call x c) more ≡ after (download ps) x (pick b (c.answer ∷ passed x.session.setup more) (passed x.session.setup more))
    by true e on off =
        ap (λ (y : World). calls y more) (call_tells x c e ∙ ap (λ (y : List ℕ). tell (download y) x c.answer) (v.0 e))
        ∙ on refl
        ∙ ap (λ (su : Setup). after (download ps) (tell (download ps) x c.answer) (passed su more)) (tell_setup (download ps) x c.answer)
    by false e on off = ap (λ (y : World). calls y more) (call_shut x c e) ∙ off

-- what a call answers: what the next session asks, or 24
abbrev pub Answers : Step → Type 0
Answers x = (x.says ≡ asks_at x.next.phase) ⊎ (x.says ≡ Ask.Refused Error.NotAwaited)

reply_answers : (s : Session) (f : List ℕ → Moved) (a : Answer) → Answers (await_reply s f a)
reply_answers s f (reply bs) = inl refl
reply_answers s f failed = inl refl
reply_answers s f a = inr refl

count_answers : (s : Session) (f : ℕ → Moved) (a : Answer) → Answers (await_count s f a)
count_answers s f (count n) = inl refl
count_answers s f failed = inl refl
count_answers s f a = inr refl

wait_answers : (s : Session) (m : Moved) (a : Answer) → Answers (await_wait s m a)
wait_answers s m waited = inl refl
wait_answers s m a = inr refl

reset_answers : (s : Session) (m : Moved) (a : Answer) → Answers (await_reset s m a)
reset_answers s m was_reset = inl refl
reset_answers s m failed = inl refl
reset_answers s m a = inr refl

answers_at : (w : Work) (su : Setup) (pr : Progress) (l : ℕ) (p : Phase) (a : Answer) → Answers (told_at w su pr l p a)
answers_at w su pr l Phase.Clear a = count_answers _ _ a
answers_at w su pr l (Phase.Sent c) a = count_answers _ _ a
answers_at w su pr l (Phase.Waiting (Wait.Pause b t ms)) a = wait_answers _ _ a
answers_at w su pr l Phase.Resetting a = reset_answers _ _ a
answers_at w su pr l (Phase.Finished e) a = inl refl
answers_at w su pr l (Phase.Refused e) a = inl refl
answers_at w su pr l p a = reply_answers _ _ a

pub answers_told : (w : Work) (s : Session) (a : Answer) → Answers (told w s a)
unfolding told
answers_told w s a = answers_at w s.setup s.progress s.left s.phase a

-- the step of a call that lends as at start
step_at : (su : Setup) (pr : Progress) (l : ℕ) (p : Phase) (c : Call)
    → as_at_start su (length c.firmware) (length c.pages) (length c.command) ≡ true
    → through (guard_of (mk su pr l p) (length c.firmware) (length c.pages) (length c.command)) (mk su pr l p) (told_at (download c.pages) su pr l p c.answer)
    ≡ told_at (download c.pages) su pr l p c.answer
unfolding guard_of
step_at su pr l (Phase.Finished y) c e = refl
step_at su pr l (Phase.Refused y) c e = refl
step_at su pr l p c e = rw e

module _ (fw ps : List ℕ) (s : Session) (c : Call) (k : For fw ps s.setup) (v : Lends fw ps c) where
  pub same_step : (outcome s c).step ≡ told (download ps) s c.answer
  unfolding call_of called told
  same_step =
      step_at s.setup s.progress s.left s.phase c (lent_as_at_start s.setup fw ps c k.0 k.1 v)
      ∙ ap (λ (y : List ℕ). told_at (download y) s.setup s.progress s.left s.phase c.answer) v.1

-- the five command bytes are filled, and none is lost
filled_length : (q : Request) (cmd : List ℕ) → 5 ≤ length cmd → 5 ≤ length (filled_for q cmd)
unfolding bytes_low
filled_length (Request.Command (Command.Erase a)) cmd h = omega arith
filled_length (Request.Command (Command.SetAddress a)) cmd h = omega arith
filled_length q cmd h = h

-- whatever bytes were lent, a request's data is the same
request_data_lem : (q : Request) (fw cmd : List ℕ) → request_data q fw (filled_for q cmd) ≡ request_data q fw (filled_for q [])
request_data_lem (Request.Command (Command.Erase a)) fw cmd = erase_command_lem a fw cmd ∙ sym (erase_command_lem a fw [])
request_data_lem (Request.Command (Command.SetAddress a)) fw cmd = address_command a fw cmd ∙ sym (address_command a fw [])
request_data_lem q fw cmd = refl

-- a transfer that a call answers is what the next session asks
asks_transfer : (x : Step) (q : Request) → Answers x → x.says ≡ Ask.Transfer q → asks_at x.next.phase ≡ Ask.Transfer q
asks_transfer x q (inl e) z = cc
asks_transfer x q (inr e) z = cc

-- WHAT `data` HANDS OVER after a call, lent the command bytes as the call left them, is the request's data
module _ (fw ps : List ℕ) (s : Session) (c : Call) (k : For fw ps s.setup) (v : Lends fw ps c) (q : Request) where
  pub data_handed : (outcome s c).step.says ≡ Ask.Transfer q → data_of (outcome s c).step.next fw (outcome s c).command ≡ request_data q fw (filled_for q [])
  unfolding data_of call_of
  data_handed z =
      let n : Session = (outcome s c).step.next in
      let step : (outcome s c).step ≡ told (download ps) s c.answer = same_step fw ps s c k v in
      let asks : asks_at n.phase ≡ Ask.Transfer q = asks_transfer (outcome s c).step q (subst Answers (sym step) (answers_told (download ps) s c.answer)) z in
      let kept : n.setup ≡ s.setup = ap (λ (x : Step). x.next.setup) step ∙ tell_setup (download ps) (record { session = s; past = [] }) c.answer in
      let bytes : (outcome s c).command ≡ filled_for q c.command = ap (λ (x : Ask). filled_by x c.command) z in
      let e₁ : eqb (length fw) n.setup.length ≡ true = eq-eqb _ _ (sym (ap (λ (x : Setup). x.length) kept ∙ k.0)) in
      let e₂ : ltb (length (outcome s c).command) 5 ≡ false = le-ltb _ _ (subst (λ (x : List ℕ). 5 ≤ length x) (sym bytes) (filled_length q c.command v.2)) in
      ap (λ (b : Bool). pick b (pick (ltb (length (outcome s c).command) 5) [] (ask_data (asks_at n.phase) fw (outcome s c).command)) []) e₁
      ∙ ap (λ (b : Bool). pick b [] (ask_data (asks_at n.phase) fw (outcome s c).command)) e₂
      ∙ ap (λ (x : Ask). ask_data x fw (outcome s c).command) asks
      ∙ ap (λ (x : List ℕ). request_data q fw x) bytes
      ∙ request_data_lem q fw c.command
