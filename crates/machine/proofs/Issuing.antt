-- Laws for the code: a transfer that is issued, or refused, by what is left of the budget. Assumes nothing.
use Rattle.std.proofs.Common.{◌≡◌, ℕ, zero, suc, ◌-◌, ◌<◌, refl, ap, arith}
use Rattle.work.specs.declared.Progress.{Progress}
use Rattle.work.specs.declared.Error.{Error}
use Rattle.machine.specs.declared.Phase.{Phase}
use Rattle.machine.specs.Machine.{to, refuse, issue}

-- a transfer with nothing left, and with something
pub spent : (pr : Progress) (l : ℕ) (then : Progress) (p : Phase) → l ≡ 0 → refuse pr l Error.BudgetSpent ≡ issue pr l then p
spent pr zero then p e = refl
spent pr (suc l) then p e = absurd (omega arith)

pub some : (pr : Progress) (l : ℕ) (then : Progress) (p : Phase) → 0 < l → to then (l - 1) p ≡ issue pr l then p
some pr zero then p h = absurd (omega arith)
some pr (suc l) then p h = let e : suc l - 1 ≡ l = omega arith in ap (λ (x : ℕ). to then x p) e
