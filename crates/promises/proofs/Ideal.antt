-- There is a fair device: it shows each awaited state at once. So what the promise of finishing supposes can be met, for every k and at every length. Assumes nothing.
use Rattle.std.proofs.Common.{ℕ, zero, suc, le_refl, ◌≡◌, refl, ap, subst, sym, inl, true, List, [], ◌∷◌, length}
use Rattle.ground.proofs.Tests.{picked}
use Rattle.get_status.specs.Names.{state_of, state_byte, settled}
use Rattle.get_status.specs.declared.State.{State}
use Rattle.work.specs.Work.{wait_after}
use Rattle.plan.specs.Answers.{ideal}
use Rattle.plan.specs.Sent.{Begins}
use Rattle.promises.specs.Words.{DfuProtocol, Command, Setup, Progress, Wait, Work, download, Phase, Session, Answer, mk, told, DfuSansIo, setup_of}
use Rattle.promises.specs.Run.{Event, World, opened, tell}
use Rattle.promises.specs.Fair.{awaited, heeded, heeded_by, Fine, allowed, Fair, FairBy}
use Rattle.promises.proofs.Walk.{Claims, Holds, ClaimAt, Good, tell_good}
use Rattle.promises.proofs.Lasting.{lasting, OfWait, lasting_holds, unit_wish}
use Rattle.promises.proofs.Counted.{whole_taken}
use Rattle.promises.proofs.Started.{started_holds}

-- its answers to n asks
unfoldable pub ideals : Work → Session → ℕ → List Answer
ideals w s zero = []
ideals w s (suc n) = ideal s.phase ∷ ideals w (told w s (ideal s.phase)).next n

-- a target that a reply can show
abbrev Shown : State → Type 0
Shown t = state_byte (settled (state_of (state_byte t))) ≡ state_byte t

abbrev sane : Claims
sane = lasting (λ b t. Shown t) Unit (λ e. Unit) (λ e. Unit)

module _ (w : Work) (su : Setup) where
  waits : (c : Command) (n : ℕ) → OfWait (λ b t. Shown t) Unit (λ e. Unit) (λ e. Unit) (wait_after su c n)
  waits (Command.Empty n) k = picked Shown su.tolerant State.DfuIdle State.DfuManifest (λ e. refl) (λ e. refl)
  waits c k = refl

  holds : Holds w su sane
  holds =
      lasting_holds _ _ _ _ w su
      (record { waits = waits; reset = λ v. tt; wishes = λ pr. unit_wish (λ b t. Shown t) (w.next su pr); denies = λ e d. tt })

  fine : (j : ℕ) (p : Phase) (pr : Progress) (l : ℕ) (h : List Event) → ClaimAt w su sane p pr l h → Fine j p (ideal p)
  fine j Phase.First pr l h v = (le_refl _, tt)
  fine j Phase.Second pr l h v = (le_refl _, (refl, refl))
  fine j (Phase.Sent c) pr l h v = whole_taken c
  fine j (Phase.Waiting (Wait.Poll b t)) pr l h v = (le_refl _, (refl, inl v))
  fine j p pr l h v = tt

  ideals_fair : (k j : ℕ) (x : World) (n : ℕ) → Good w su sane x → Fair k j w x.session (ideals w x.session n)
  unfolding FairBy ideals
  ideals_fair k j x zero v = tt
  ideals_fair k j x (suc n) v =
      let s : Session = x.session in
      let a : Answer = ideal s.phase in (
        fine j s.phase s.progress s.left x.past v.holds,
        ideals_fair k (allowed k j s.phase) (tell w x a) n (tell_good w su sane holds x a v),
      )

-- each of them is awaited
ideal_awaited : (p : Phase) → awaited p (ideal p) ≡ true
ideal_awaited (Phase.Waiting (Wait.Poll b t)) = refl
ideal_awaited p = refl

ideals_heeded : (w : Work) (s : Session) (n : ℕ) → heeded w s (ideals w s n) ≡ ideals w s n
unfolding heeded_by ideals
ideals_heeded w s zero = refl
ideals_heeded w s (suc n) =
    let more : List Answer = ideals w (told w s (ideal s.phase)).next n in
    rw (ideal_awaited s.phase) (ap (λ (x : List Answer). ideal s.phase ∷ x) (ideals_heeded w (told w s (ideal s.phase)).next n))

ideals_length : (w : Work) (s : Session) (n : ℕ) → length (ideals w s n) ≡ n
unfolding ideals
ideals_length w s zero = refl
ideals_length w s (suc n) = ap suc (ideals_length w (told w s (ideal s.phase)).next n)

-- FAIR ANSWERS EXIST for any work, for every k and of every length
pub any_fair : (w : Work) (su : Setup) (pr : Progress) (l k n : ℕ)
    → (more : List Answer) × Fair k 0 w (mk su pr l Phase.First) (heeded w (mk su pr l Phase.First) more) × (length (heeded w (mk su pr l Phase.First) more) ≡ n)
any_fair w su pr l k n =
    let s : Session = mk su pr l Phase.First in (
      ideals w s n,
      subst (λ (x : List Answer). Fair k 0 w s x) (sym (ideals_heeded w s n)) (ideals_fair w su k 0 (opened s) n (record { setup = refl; holds = tt })),
      subst (λ (x : List Answer). length x ≡ n) (sym (ideals_heeded w s n)) (ideals_length w s n),
    )

-- and for a download, finished at once too
pub fair_answers : (k : ℕ) (io : DfuSansIo) (p : DfuProtocol) (fw ps : List ℕ) (budget : ℕ) (s : Session) (n : ℕ) → Begins io p fw ps budget s
    → (more : List Answer) × Fair k 0 (download ps) s (heeded (download ps) s more) × (length (heeded (download ps) s more) ≡ n)
fair_answers k io p fw ps budget s n b =
    let w : Work = download ps in
    let su : Setup = setup_of io p (length fw) (length ps) in
    let g : Good w su sane (opened s) =
    started_holds (λ (x : Session). Good w su sane (opened x)) io p fw ps budget s b (λ l. record { setup = refl; holds = tt }) (λ l. record { setup = refl; holds = tt }) in (
      ideals w s n,
      subst (λ (x : List Answer). Fair k 0 w s x) (sym (ideals_heeded w s n)) (ideals_fair w su k 0 (opened s) n g),
      subst (λ (x : List Answer). length x ≡ n) (sym (ideals_heeded w s n)) (ideals_length w s n),
    )
