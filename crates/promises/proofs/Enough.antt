-- A budget of `enough` always suffices. Assumes nothing.
use Rattle.std.proofs.Common.{ℕ, suc, ◌^◌, ◌≤◌, zero, arith, ◌≡◌, List, ltb, length, Option, Some}
use Rattle.ground.proofs.Tests.{picked}
use Rattle.protocol.specs.Interface.{dfuseb}
use Rattle.start.specs.Start.{overb, manyb}
use Rattle.plan.specs.Sent.{Begins}
use Rattle.budget.specs.Enough.{enough_for, enough_of}
use Rattle.promises.specs.Words.{DfuProtocol, download, Phase, Session, Answer, mk, DfuSansIo, setup_of, fresh}
use Rattle.promises.specs.Fair.{heeded, Fair, Ready, requests_of}
use Rattle.promises.specs.Finish.{Finishes}
use Rattle.promises.proofs.Clears.{clears_once}
use Rattle.promises.proofs.Finish.{starts, finishes}

-- what is answered is the number
answered : (io : DfuSansIo) (p : DfuProtocol) (fw ps : List ℕ) (k n : ℕ) → enough_of io p (length fw) ps k ≡ Some n → enough_for (requests_of io p fw ps) k ≡ n
unfolding enough_of
answered io p fw ps k n =
    picked P (ltb 4294967295 (length fw)) _ _ (λ e z. cc)
    (λ e. picked P (overb (dfuseb p) (length ps)) _ _ (λ f z. cc)
    (λ f. picked P (manyb (dfuseb p) (length fw) io.descriptor.transfer_size) _ _ (λ h z. cc)
    (λ h. picked P (ltb (enough_for (requests_of io p fw ps) k) (2 ^ 64)) _ _ (λ g z. cc) (λ g z. cc))))
  where
    P : Option ℕ → Type 0
    P x = x ≡ Some n → enough_for (requests_of io p fw ps) k ≡ n

-- ENOUGH SUFFICES: start begins with it, and every fair run with it or more finishes
module _ (io : DfuSansIo) (p : DfuProtocol) (fw ps : List ℕ) (k n : ℕ) where
  pub enough_starts : enough_of io p (length fw) ps k ≡ Some n → Ready io p fw ps → (s : Session) × Begins io p fw ps n s
  enough_starts e r = by n (answered io p fw ps k n e)
    where
      by : (n : ℕ) → enough_for (requests_of io p fw ps) k ≡ n → (s : Session) × Begins io p fw ps n s
      by zero z = absurd (omega (arith, z))
      by (suc l) z = (mk (setup_of io p (length fw) (length ps)) (fresh (setup_of io p (length fw) (length ps))) l Phase.First, starts io p fw ps r l)

  pub enough_suffices : (budget : ℕ) (s : Session) (more : List Answer) → enough_of io p (length fw) ps k ≡ Some n → n ≤ budget → Ready io p fw ps
      → Begins io p fw ps budget s → Fair k 0 (download ps) s (heeded (download ps) s more) → Finishes k io p fw ps s more
  enough_suffices budget s more e m r b f =
      finishes io p fw ps k budget s more r b f (omega (arith, clears_once io p fw ps budget s more b, answered io p fw ps k n e, m))
