-- What start answers: a session at its first request, one that has finished at once, or none. Assumes nothing.
use Rattle.std.proofs.Common.{⊎_elim, ℕ, zero, suc, ◌+◌, ◌<◌, ◌≤◌, arith, ◌≡◌, refl, sym, subst, ◌⊎◌, inl, inr, Bool, true, false, true≢false, List, length, eqb, ltb, eqb-true, ltb-false, leb-false, Result, Ok, Err}
use Rattle.ground.proofs.Tests.{picked}
use Rattle.work.specs.Work.{limit, end_of, block_count}
use Rattle.protocol.specs.Interface.{dfuseb}
use Rattle.start.specs.Start.{nothingb, beyondb, overb, max_blocks, manyb, starting, begun_of, begin_of}
use Rattle.start.specs.declared.StartError.{StartError}
use Rattle.plan.specs.Sent.{Begins}
use Rattle.promises.specs.Words.{DfuProtocol, Setup, End, Phase, Session, mk, DfuSansIo, setup_of, fresh}
use Rattle.promises.specs.Run.{opened, transfers}

-- what start has tested of a session at its first request: its target ends below 2^32, and DfuSe has a number for each of its blocks
pub record Within (io : DfuSansIo) (p : DfuProtocol) (n pages : ℕ) : Type 0 where
  pub below : end_of (setup_of io p n pages) < limit
  pub numbered : dfuseb p ≡ true → block_count n io.descriptor.transfer_size ≤ max_blocks

-- what holds of every refusal, of the finished start and of a begun one, holds of start
pub start_picked : (P : Result Session StartError → Type 0) (io : DfuSansIo) (p : DfuProtocol) (n pages budget : ℕ) → ((e : StartError) → P (Err e))
    → (nothingb (setup_of io p n pages) ≡ true → P (Ok (mk (setup_of io p n pages) (fresh (setup_of io p n pages)) budget (Phase.Finished End.Stays))))
    → ((l : ℕ) → budget ≡ suc l → nothingb (setup_of io p n pages) ≡ false → Within io p n pages → P (Ok (mk (setup_of io p n pages) (fresh (setup_of io p n pages)) l Phase.First)))
    → P (begin_of io p n pages budget)
unfolding begin_of begun_of
start_picked P io p n pages budget not done on =
    picked P (ltb 4294967295 n) _ _ (λ e. not _)
    (λ e. picked P (overb (dfuseb p) pages) _ _ (λ f. not _)
    (λ f. picked P (nothingb (setup_of io p n pages)) _ _ done
    (λ g. picked P (beyondb (setup_of io p n pages)) _ _ (λ h. not _)
    (λ h. picked P (manyb (dfuseb p) n io.descriptor.transfer_size) _ _ (λ k. not _)
    (λ k. last budget (λ l b. on l b g (record { below = below p e h; numbered = numbered p k })))))))
  where
    below : (p : DfuProtocol) → ltb 4294967295 n ≡ false → beyondb (setup_of io p n pages) ≡ false → end_of (setup_of io p n pages) < limit
    below DfuProtocol.Dfu e h = omega (arith, ltb-false 4294967295 n e)
    below (DfuProtocol.Dfuse a) e h = leb-false _ _ h

    numbered : (p : DfuProtocol) → manyb (dfuseb p) n io.descriptor.transfer_size ≡ false → dfuseb p ≡ true → block_count n io.descriptor.transfer_size ≤ max_blocks
    numbered DfuProtocol.Dfu e d = absurd (true≢false (sym d))
    numbered (DfuProtocol.Dfuse a) e d = ltb-false _ _ e

    last : (b : ℕ) → ((l : ℕ) → b ≡ suc l → P (Ok (mk (setup_of io p n pages) (fresh (setup_of io p n pages)) l Phase.First))) → P (starting (setup_of io p n pages) b)
    last zero f = not _
    last (suc l) f = f l refl

begun_is : {r s : Session} → ◌≡◌ {A = Result Session StartError} (Ok r) (Ok s) → s ≡ r
begun_is e = cc

something : (su : Setup) → 0 < su.length → 0 < su.size → nothingb su ≡ true → ⊥
something su h k =
    picked (λ (b : Bool). b ≡ true → ⊥) (eqb su.length 0) _ _ (λ e z. omega (arith, eqb-true su.length 0 e)) (λ e z. omega (arith, eqb-true su.size 0 z))

-- A SESSION THAT WAS BEGUN, with firmware and transfer size above zero, is at its first request
pub begun : (io : DfuSansIo) (p : DfuProtocol) (fw ps : List ℕ) (budget : ℕ) (s : Session) → 0 < length fw → 0 < io.descriptor.transfer_size
    → Begins io p fw ps budget s
    → (l : ℕ) × (budget ≡ suc l) × (s ≡ mk (setup_of io p (length fw) (length ps)) (fresh (setup_of io p (length fw) (length ps))) l Phase.First)
begun io p fw ps budget s h k =
    start_picked P io p (length fw) (length ps) budget (λ e z. cc)
    (λ e z. absurd (something (setup_of io p (length fw) (length ps)) h k e))
    (λ l b e t z. (l, b, begun_is z))
  where
    P : Result Session StartError → Type 0
    P x = x ≡ Ok s
        → (l : ℕ) × (budget ≡ suc l) × (s ≡ mk (setup_of io p (length fw) (length ps)) (fresh (setup_of io p (length fw) (length ps))) l Phase.First)

-- so what holds of that holds of it
pub begun_holds : (P : Session → Type 0) (io : DfuSansIo) (p : DfuProtocol) (fw ps : List ℕ) (budget : ℕ) (s : Session) → 0 < length fw → 0 < io.descriptor.transfer_size
    → Begins io p fw ps budget s
    → ((l : ℕ) → budget ≡ suc l → P (mk (setup_of io p (length fw) (length ps)) (fresh (setup_of io p (length fw) (length ps))) l Phase.First)) → P s
begun_holds P io p fw ps budget s h k b first = let (l, z, e) = begun io p fw ps budget s h k b in subst P (sym e) (first l z)

-- A STARTED SESSION, whatever the firmware: at its first request, or finished at once
pub started : (io : DfuSansIo) (p : DfuProtocol) (fw ps : List ℕ) (budget : ℕ) (s : Session) → Begins io p fw ps budget s
    → (l : ℕ) × ((s ≡ mk (setup_of io p (length fw) (length ps)) (fresh (setup_of io p (length fw) (length ps))) l Phase.First)
    ⊎ (s ≡ mk (setup_of io p (length fw) (length ps)) (fresh (setup_of io p (length fw) (length ps))) l (Phase.Finished End.Stays)))
started io p fw ps budget s =
    start_picked P io p (length fw) (length ps) budget (λ e z. cc) (λ e z. (budget, inr (begun_is z))) (λ l b e t z. (l, inl (begun_is z)))
  where
    P : Result Session StartError → Type 0
    P x = x ≡ Ok s
        → (l : ℕ) × ((s ≡ mk (setup_of io p (length fw) (length ps)) (fresh (setup_of io p (length fw) (length ps))) l Phase.First)
        ⊎ (s ≡ mk (setup_of io p (length fw) (length ps)) (fresh (setup_of io p (length fw) (length ps))) l (Phase.Finished End.Stays)))

-- so what holds of both at whatever budget is left holds of it
pub started_holds : (P : Session → Type 0) (io : DfuSansIo) (p : DfuProtocol) (fw ps : List ℕ) (budget : ℕ) (s : Session) → Begins io p fw ps budget s
    → ((l : ℕ) → P (mk (setup_of io p (length fw) (length ps)) (fresh (setup_of io p (length fw) (length ps))) l Phase.First))
    → ((l : ℕ) → P (mk (setup_of io p (length fw) (length ps)) (fresh (setup_of io p (length fw) (length ps))) l (Phase.Finished End.Stays))) → P s
started_holds P io p fw ps budget s b first done =
    let (l, e) = started io p fw ps budget s b in
    ⊎_elim (λ q. subst P (sym q) (first l)) (λ q. subst P (sym q) (done l)) e

-- and what start has tested, unless it finished at once
pub start_within : (io : DfuSansIo) (p : DfuProtocol) (fw ps : List ℕ) (budget : ℕ) (s : Session) → Begins io p fw ps budget s
    → Within io p (length fw) (length ps)
    ⊎ (s ≡ mk (setup_of io p (length fw) (length ps)) (fresh (setup_of io p (length fw) (length ps))) budget (Phase.Finished End.Stays))
start_within io p fw ps budget s =
    start_picked P io p (length fw) (length ps) budget (λ e z. cc) (λ e z. inr (begun_is z)) (λ l b e t z. inl t)
  where
    P : Result Session StartError → Type 0
    P x = x ≡ Ok s
        → Within io p (length fw) (length ps)
        ⊎ (s ≡ mk (setup_of io p (length fw) (length ps)) (fresh (setup_of io p (length fw) (length ps))) budget (Phase.Finished End.Stays))

pub begun_within : (io : DfuSansIo) (p : DfuProtocol) (fw ps : List ℕ) (budget : ℕ) (s : Session) → 0 < length fw → 0 < io.descriptor.transfer_size
    → Begins io p fw ps budget s → Within io p (length fw) (length ps)
begun_within io p fw ps budget s h k =
    start_picked P io p (length fw) (length ps) budget (λ e z. cc)
    (λ e z. absurd (something (setup_of io p (length fw) (length ps)) h k e))
    (λ l b e t z. t)
  where
    P : Result Session StartError → Type 0
    P x = x ≡ Ok s → Within io p (length fw) (length ps)

-- the budget at the start: what is left, and the first request if there is one
pub start_adds : (io : DfuSansIo) (p : DfuProtocol) (fw ps : List ℕ) (budget : ℕ) (s : Session) → Begins io p fw ps budget s
    → s.left + length (transfers (opened s).past) ≡ budget
unfolding transfers
start_adds io p fw ps budget s =
    start_picked P io p (length fw) (length ps) budget (λ e z. cc)
    (λ e z. subst Q (sym (begun_is z)) (omega arith))
    (λ l b e t z. subst Q (sym (begun_is z)) (omega (arith, b)))
  where
    Q : Session → Type 0
    Q x = x.left + length (transfers (opened x).past) ≡ budget

    P : Result Session StartError → Type 0
    P x = x ≡ Ok s → Q s
