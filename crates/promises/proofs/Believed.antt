-- Any work: a run that isn't refused was told no error, each reply but the first had 6 bytes or more and status 0; and each block was taken whole. Assumes nothing.
use Rattle.std.proofs.Common.{ℕ, ◌≡◌, refl, Bool, true, false, List, [], ◌∷◌, eqb, ltb, length, ltb-false, eqb-true, Ok, Err}
use Rattle.get_status.specs.Names.{status_byte}
use Rattle.get_status.specs.Reply.{message_of, strict}
use Rattle.get_status.specs.declared.GetStatusMessage.{GetStatusMessage}
use Rattle.get_status.specs.declared.Error.{Error as ReplyError}
use Rattle.work.specs.Work.{wait_after, whole_of, takenb}
use Rattle.machine.specs.Machine.{to, refuse, on_count, later_reply, reading}
use Rattle.session.specs.Told.{told_at}
use Rattle.promises.specs.Words.{pick, Command, Setup, Progress, Wait, Error, Work, Phase, Moved, Session, Answer, count, reply, told}
use Rattle.promises.specs.Run.{World, tell, after, after_by, Unrefused, Over, Taken}
use Rattle.promises.specs.Believed.{Sound, SoundAt, WholeAt, AllAtBy, AllSound, AllWhole}
use Rattle.promises.proofs.Counted.{true_taken}

-- a later reply after which the session isn't refused
read_sound : (pr : Progress) (l : ℕ) (bs : List ℕ) (f : GetStatusMessage → Moved) → Unrefused (reading pr l (later_reply bs) f).phase → Sound (reply bs)
read_sound pr l bs f u = by (ltb (length bs) 6) refl u
  where
    m : GetStatusMessage
    m = message_of bs

    status : (c : Bool) → eqb (status_byte m.status) 0 ≡ c → Unrefused (reading pr l (pick c (Ok m) (Err (ReplyError.StatusError m.status))) f).phase → status_byte m.status ≡ 0
    status true e v = eqb-true _ _ e
    status false e v = absurd v

    by : (b : Bool) → ltb (length bs) 6 ≡ b → Unrefused (reading pr l (strict (pick b (Err (ReplyError.ResponseTooShort (length bs))) (Ok m))) f).phase → Sound (reply bs)
    by true e v = absurd v
    by false e v = (ltb-false _ _ e, status (eqb (status_byte m.status) 0) refl v)

step_sound : (w : Work) (su : Setup) (pr : Progress) (l : ℕ) (p : Phase) (a : Answer) → Unrefused (told_at w su pr l p a).next.phase → SoundAt p a
step_sound w su pr l Phase.Second (reply bs) u = read_sound pr l bs _ u
step_sound w su pr l (Phase.Waiting (Wait.Poll b t)) (reply bs) u = read_sound pr l bs _ u
step_sound w su pr l p a u = tt

-- a count after which the session isn't refused
count_whole : (su : Setup) (pr then : Progress) (l : ℕ) (c : Command) (n : ℕ) → Unrefused (on_count su pr l c then n).phase → Taken c n
count_whole su pr then l c n u = by (takenb c n) refl u
  where
    by : (b : Bool) → takenb c n ≡ b → Unrefused (pick b (to then l (Phase.Waiting (wait_after su c n))) (refuse pr l (Error.WrongCount n (whole_of c)))).phase → Taken c n
    by true e v = true_taken c n e
    by false e v = absurd v

step_whole : (w : Work) (su : Setup) (pr : Progress) (l : ℕ) (p : Phase) (a : Answer) → Unrefused (told_at w su pr l p a).next.phase → WholeAt p a
step_whole w su pr l (Phase.Sent c) (count n) u = count_whole su pr (w.took su pr c n) l c n u
step_whole w su pr l p a u = tt

-- a session that isn't refused never was
step_back : (w : Work) (su : Setup) (pr : Progress) (l : ℕ) (p : Phase) (a : Answer) → Unrefused (told_at w su pr l p a).next.phase → Unrefused p
step_back w su pr l (Phase.Refused e) a u = u
step_back w su pr l p a u = tt

run_back : (w : Work) (x : World) (more : List Answer) → Unrefused (after w x more).session.phase → Unrefused x.session.phase
unfolding after_by told
run_back w x [] u = u
run_back w x (a ∷ more) u =
    let s : Session = x.session in
    step_back w s.setup s.progress s.left s.phase a (run_back w (tell w x a) more u)

-- what a told answer must have been for the session not to be refused by it, each answer of a run that isn't refused was
unrefused_all : (P : Phase → Answer → Type 0) (w : Work)
    → ((su : Setup) (pr : Progress) (l : ℕ) (p : Phase) (a : Answer) → Unrefused (told_at w su pr l p a).next.phase → P p a)
    → (x : World) (more : List Answer) → Unrefused (after w x more).session.phase → AllAtBy P (told w) x.session more
unfolding after_by told AllAtBy
unrefused_all P w f x [] u = tt
unrefused_all P w f x (a ∷ more) u =
    let s : Session = x.session in
    (f s.setup s.progress s.left s.phase a (run_back w (tell w x a) more u), unrefused_all P w f (tell w x a) more u)

-- NO ERROR WAS TOLD
pub unrefused_sound : (w : Work) (x : World) (more : List Answer) → Unrefused (after w x more).session.phase → AllSound w x.session more
unrefused_sound w x more u = unrefused_all SoundAt w (step_sound w) x more u

-- EVERY BLOCK WAS TAKEN WHOLE
pub unrefused_whole : (w : Work) (x : World) (more : List Answer) → Unrefused (after w x more).session.phase → AllWhole w x.session more
unrefused_whole w x more u = unrefused_all WholeAt w (step_whole w) x more u

pub over_unrefused : (p : Phase) → Over p → Unrefused p
over_unrefused (Phase.Refused e) o = o
over_unrefused p o = tt
