-- Answers that are refused by 24 change nothing of a run. Assumes nothing.
use Rattle.std.proofs.Common.{ℕ, ◌≡◌, refl, ap, ◌∙◌, Bool, true, false, List, [], ◌∷◌, ◌++◌}
use Rattle.session.specs.Told.{told_at}
use Rattle.promises.specs.Words.{pick, Setup, Progress, Wait, Work, Phase, Answer, reply, waited, mk, told}
use Rattle.promises.specs.Run.{Event, sent_by, heard_at, World, tell, after, after_by}
use Rattle.promises.specs.Fair.{awaited, heeded, heeded_by}

abbrev world_told : Work → Setup → Progress → ℕ → Phase → List Event → Answer → World
world_told w su pr l p h a = record { session = (told_at w su pr l p a).next; past = sent_by (told_at w su pr l p a).says ++ (heard_at p a ++ h) }

abbrev world_at : Setup → Progress → ℕ → Phase → List Event → World
world_at su pr l p h = record { session = mk su pr l p; past = h }

unawaited_at : (w : Work) (su : Setup) (pr : Progress) (l : ℕ) (p : Phase) (h : List Event) (a : Answer) → awaited p a ≡ false
    → world_told w su pr l p h a ≡ world_at su pr l p h
unawaited_at w su pr l (Phase.Waiting (Wait.Pause b t ms)) h waited e = cc
unawaited_at w su pr l p h (reply bs) e = cc
unawaited_at w su pr l p h a e = cc

unawaited : (w : Work) (x : World) (a : Answer) → awaited x.session.phase a ≡ false → tell w x a ≡ x
unfolding told
unawaited w x a e = unawaited_at w x.session.setup x.session.progress x.session.left x.session.phase x.past a e

-- 24 CHANGES NOTHING
pub heeded_run : (w : Work) (x : World) (more : List Answer) → after w x more ≡ after w x (heeded w x.session more)
unfolding after_by heeded_by
heeded_run w x [] = refl
heeded_run w x (a ∷ more) = by (awaited x.session.phase a) refl (heeded_run w (tell w x a) more)
  where
    by : (b : Bool) → awaited x.session.phase a ≡ b → after w (tell w x a) more ≡ after w (tell w x a) (heeded w (tell w x a).session more)
        → after w (tell w x a) more ≡ after w x (pick b (a ∷ heeded w (tell w x a).session more) (heeded w (tell w x a).session more))
    by true e h = h
    by false e h = h ∙ ap (λ (y : World). after w y (heeded w (tell w x a).session more)) (unawaited w x a e)
