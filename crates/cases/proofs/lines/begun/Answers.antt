-- `begun` meets its contract: the line's length is the definition's.
use mathlib.Core.Path.{ap}
use Prim.Native.Nat.{ℕ, ◌-◌}
use mathlib.Core.Bool.{false}
use Rattle.cases.proofs.lines.begun.Goals as goal

pub returns : goal.returns
returns c =
    let p = c.args.place in
    ap (λ (n : ℕ). record { from = p.from; end = p.end; len = n; whole = false; turns = p.turns - 1 }) c.kept.ensures
