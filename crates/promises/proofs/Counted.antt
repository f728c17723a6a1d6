-- Laws of a count: what is tested and what it says. Assumes nothing.
use Rattle.std.proofs.Common.{ℕ, ◌≡◌, refl, true, eqb-true, eq-eqb}
use Rattle.work.specs.Work.{whole_of, takenb}
use Rattle.promises.specs.Words.{Command}
use Rattle.promises.specs.Run.{Taken}

pub true_taken : (c : Command) (n : ℕ) → takenb c n ≡ true → Taken c n
true_taken (Command.Block b f m) n e = eqb-true n m e
true_taken c n e = tt

pub taken_true : (c : Command) (n : ℕ) → Taken c n → takenb c n ≡ true
taken_true (Command.Block b f m) n e = eq-eqb n m e
taken_true c n e = refl

pub whole_taken : (c : Command) → Taken c (whole_of c)
whole_taken (Command.Block b f m) = refl
whole_taken c = tt
