-- Laws for the code: what a step comes to, by what it found. Assumes nothing.
use Rattle.std.proofs.Common.{◌≡◌, ℕ, zero, suc, ◌-◌, ◌<◌, Ok, Err, refl, ap, arith}
use Rattle.work.specs.declared.Setup.{Setup}
use Rattle.machine.specs.declared.Phase.{Phase}
use Rattle.session.specs.Told.{mk}
use Rattle.start.specs.Start.{fresh, starting}
use Rattle.start.specs.declared.StartError.{StartError}

-- a start with nothing to spend, and with something
pub unpaid : (su : Setup) (l : ℕ) → l ≡ 0 → Err StartError.BudgetSpent ≡ starting su l
unpaid su zero e = refl
unpaid su (suc l) e = absurd (omega arith)

pub paid : (su : Setup) (l : ℕ) → 0 < l → Ok (mk su (fresh su) (l - 1) Phase.First) ≡ starting su l
paid su zero h = absurd (omega arith)
paid su (suc l) h = let e : suc l - 1 ≡ l = omega arith in ap (λ (x : ℕ). Ok (mk su (fresh su) x Phase.First)) e
