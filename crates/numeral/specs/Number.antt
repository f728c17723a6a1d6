-- What a text of digits reads as, in a base: document 01, 'The interface string'.
use Rattle.std.specs.Prelude.{ℕ, ◌+◌, ◌-◌, ◌*◌, List, [], ◌∷◌, Option, Some, None, option_and_then, ◌==◌, nat_le, nat_lt}
use Rattle.ground.specs.Pick.{pick}

-- a byte's value as a digit: 0 to 9, A to F, a to f
abbrev pub digit_of : ℕ → Option ℕ
digit_of c =
    pick (nat_lt c 48) None (pick (nat_le c 57) (Some (c - 48))
    (pick (nat_lt c 65) None (pick (nat_le c 70) (Some (c - 65 + 10))
    (pick (nat_lt c 97) None (pick (nat_le c 102) (Some (c - 97 + 10)) None)))))

-- digits to the end, after a value v: each below the base, the value below 2^32 throughout
unfoldable pub read_on : ℕ → List ℕ → ℕ → Option ℕ
read_on b [] v = Some v
read_on b (c ∷ cs) v =
    option_and_then (λ d. pick (nat_le b d) None (pick (nat_lt 4294967295 (v * b + d)) None (read_on b cs (v * b + d)))) (digit_of c)

-- at least one digit
abbrev pub some : ℕ → List ℕ → Option ℕ
some b [] = None
some b (c ∷ cs) = read_on b (c ∷ cs) 0

-- one `+` may stand before the digits
unfoldable pub number_of : ℕ → List ℕ → Option ℕ
number_of b [] = None
number_of b (c ∷ cs) = pick (c == 43) (some b cs) (read_on b (c ∷ cs) 0)
