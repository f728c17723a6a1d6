-- How a definition tests: `pick test a b` is a if the test holds, b if not.
use Rattle.std.specs.Prelude.{Bool, true, false}

abbrev pub pick {ℓ} : {A : Type ℓ} → Bool → A → A → A
pick true a b = a
pick false a b = b
