-- The digits that the library writes of a number are those of `decimal_text`. Assumes nothing.
use Rattle.std.proofs.Common.{◌≡◌, ℕ, zero, suc, ◌+◌, ◌/◌, ◌%◌, ◌^◌, ◌<◌, List, [], ◌∷◌, ◌++◌, decimal, ap, ◌∙◌, ⊎_elim, arith, lt-ltb, le-ltb}
use Rattle.std.proofs.lemmas.Fmt.{decimal_digit, decimal_step}
use Rattle.ground.proofs.Tests.{lt_or_ge}
use Rattle.cases.specs.Output.{decimal_text}

-- so many digits are enough for a number below that power
spelled_in : (k x : ℕ) → x < 10 ^ suc k → x < 2 ^ 64 → decimal x ≡ decimal_text (suc k) x
unfolding decimal_text
spelled_in zero x h f = let l : x < 10 = omega arith in decimal_digit x l ∙ simp (lt-ltb x 10 l)
spelled_in (suc k) x h f =
    ⊎_elim (λ l. decimal_digit x l ∙ simp (lt-ltb x 10 l))
    (λ g. decimal_step x g f ∙ ap (λ (t : List ℕ). t ++ ((48 + x % 10) ∷ [])) (spelled_in k (x / 10) (omega arith) (omega arith)) ∙ simp (le-ltb x 10 g))
    (lt_or_ge x 10)

-- a number of 64 bits has 20 digits at most
pub spelled : (x : ℕ) → x < 2 ^ 64 → decimal x ≡ decimal_text 20 x
spelled x h = spelled_in 19 x (omega arith) h
