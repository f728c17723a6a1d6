-- A run over the calls is the run of the definitions; what is lent in between changes nothing of the spend or of an end. Assumes nothing.
use Rattle.std.proofs.Common.{ℕ, ◌+◌, ◌≡◌, refl, ap, sym, subst, ◌∙◌, Bool, false, List, [], ◌∷◌, ◌++◌, length, Result, Ok, Err}
use Rattle.ground.proofs.Tests.{picked}
use Rattle.machine.specs.Machine.{asks_at, liveb}
use Rattle.session.specs.Calls.{as_at_start, guard_of, through, called, Outcome, out, filled, call_of}
use Rattle.plan.proofs.Unfilled.{ended_fills}
use Rattle.promises.specs.Words.{pick, Error, download, Phase, Ask, Session, Answer, told}
use Rattle.promises.specs.Run.{Event, sent_by, World, tell, transfers}
use Rattle.promises.specs.Calls.{Call, outcome, heard_through, call, calls, Allowed, Repeats}
use Rattle.promises.proofs.Spends.{tell_adds}

-- an ended session asks for nothing
ended_silent : (p : Phase) → liveb p ≡ false → sent_by (asks_at p) ≡ []
ended_silent (Phase.Finished x) e = refl
ended_silent p e = cc

-- what holds of the told answer, and of the world as it was, holds of a call
pub call_picked : (P : World → Type 0) (x : World) (c : Call) → P (tell (download c.pages) x c.answer) → P x → P (call x c)
unfolding call_of called guard_of
call_picked P x c t v =
    picked Q (liveb x.session.phase) _ _
    (λ e. picked Q (as_at_start x.session.setup (length c.firmware) (length c.pages) (length c.command)) _ _ (λ f. t) (λ f. v))
    (λ e. subst (λ (h : List Event). P (record { session = x.session; past = h ++ x.past })) (sym (ended_silent x.session.phase e)) v)
  where
    Q : Result Unit Ask → Type 0
    Q g = P
        (record {
          session = (through g x.session (told (download c.pages) x.session c.answer)).next;
          past = sent_by (through g x.session (told (download c.pages) x.session c.answer)).says
              ++ (heard_through g x.session.phase c.answer ++ x.past);
        })

-- what each told answer keeps, whatever pages are lent, every list of calls keeps
pub calls_keep : (P : World → Type 0) → ((ps : List ℕ) (x : World) (a : Answer) → P x → P (tell (download ps) x a)) → (x : World) (more : List Call) → P x → P (calls x more)
unfolding calls
calls_keep P f x [] v = v
calls_keep P f x (c ∷ more) v = calls_keep P f (call x c) more (call_picked P x c (f c.pages x c.answer v) v)

-- THE SPEND: what is left, and the transfers since, make up what was there, whatever is lent and told
pub spend : (x : World) (more : List Call) (n : ℕ) → x.session.left + length (transfers x.past) ≡ n
    → (calls x more).session.left + length (transfers (calls x more).past) ≡ n
spend x more n v =
    calls_keep (λ (y : World). y.session.left + length (transfers y.past) ≡ n) (λ ps y a u. tell_adds (download ps) y a n u) x more v

-- ENDED IS ENDED: every further call gives the same answer, the same session and the lent command bytes as they were
pub ended_answers : (s : Session) (c : Call) → liveb s.phase ≡ false → outcome s c ≡ out (record { next = s; says = asks_at s.phase }) c.command
unfolding call_of called guard_of
ended_answers s c e =
    ap (λ (b : Bool). filled (through (pick b (pick (as_at_start s.setup (length c.firmware) (length c.pages) (length c.command)) (Ok tt) (Err (Ask.Refused Error.NotAsAtStart))) (Err (asks_at s.phase))) s (told (download c.pages) s c.answer)) c.command) e
    ∙ ap (λ (x : List ℕ). out (record { next = s; says = asks_at s.phase }) x) (ended_fills s.phase c.command e)

pub ended_stays : (s : Session) (more : List Call) (os : List Outcome) → liveb s.phase ≡ false → Allowed s more os
    → Repeats s more os
unfolding Allowed Repeats
ended_stays s [] [] e v = tt
ended_stays s [] (o ∷ os) e v = v
ended_stays s (c ∷ more) [] e v = v
ended_stays s (c ∷ more) (o ∷ os) e v =
    let q : o ≡ out (record { next = s; says = asks_at s.phase }) c.command = v.0 ∙ ended_answers s c e in
    (q, ended_stays s more os e (subst (λ (x : Session). Allowed x more os) (ap (λ (x : Outcome). x.step.next) q) v.1))

-- PINNED: the same session and the same calls give the same answers, sessions and bytes
pub pinned_run : (s : Session) (more : List Call) (os ps : List Outcome) → Allowed s more os → Allowed s more ps → os ≡ ps
unfolding Allowed
pinned_run s [] [] [] v u = refl
pinned_run s [] [] (p ∷ ps) v u = absurd u
pinned_run s [] (o ∷ os) ps v u = absurd v
pinned_run s (c ∷ more) [] ps v u = absurd v
pinned_run s (c ∷ more) (o ∷ os) [] v u = absurd u
pinned_run s (c ∷ more) (o ∷ os) (p ∷ ps) v u =
    let q : o ≡ p = v.0 ∙ sym u.0 in
    ap (λ (x : List Outcome). o ∷ x) (pinned_run o.step.next more os ps v.1 (subst (λ (x : Outcome). Allowed x.step.next more ps) (sym q) u.1))
    ∙ ap (λ (x : Outcome). x ∷ ps) q
