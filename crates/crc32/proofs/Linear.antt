-- The register's bits go through on their own: what a sum becomes is the sum of what its parts become. The table rests on it. Assumes nothing.
use Rattle.std.proofs.Common.{◌≡◌, ℕ, zero, suc, ◌*◌, ◌/◌, ◌%◌, ◌<◌, ◌==◌, refl, sym, ap, ap₂, ◌∙◌, arith, mod-lt}
use lib.Bits.{bit_xor, xor_zero_r, xor_shifted, xor_shr, xor_mod, xor_comm, xor_assoc}
use lib.Pow.{pow_pos}
use native.Mathlib.Nat.{mul-div_cancel, mul-mod_left, div-add-mod', div-eq_of_lt, zero-lt-suc}
use Rattle.ground.specs.Pick.{pick}
use Rattle.papers.specs.Crc.{polynomial, shifted, eight}

-- the polynomial as many times as a digit says
fallen : (d h : ℕ) → d < 2 → pick (d == 1) (bit_xor polynomial h) h ≡ bit_xor (d * polynomial) h
fallen zero h k = refl
fallen (suc zero) h k = refl
fallen (suc (suc d)) h k = absurd (omega arith)

-- a bit as one sum
pub shifted_is : (c : ℕ) → shifted c ≡ bit_xor (c % 2 * polynomial) (c / 2)
unfolding shifted
shifted_is c = fallen (c % 2) (c / 2) (omega arith)

-- two sums, by columns
xor_four : (a b c d : ℕ) → bit_xor (bit_xor a b) (bit_xor c d) ≡ bit_xor (bit_xor a c) (bit_xor b d)
xor_four a b c d =
    xor_assoc a b (bit_xor c d)
    ∙ ap (bit_xor a) (sym (xor_assoc b c d) ∙ ap (λ (x : ℕ). bit_xor x d) (xor_comm b c) ∙ xor_assoc c b d)
    ∙ sym (xor_assoc a c (bit_xor b d))

times : (x y : ℕ) → x < 2 → y < 2 → bit_xor x y * polynomial ≡ bit_xor (x * polynomial) (y * polynomial)
times zero y h k = refl
times (suc zero) zero h k = refl
times (suc zero) (suc zero) h k = refl
times (suc zero) (suc (suc y)) h k = absurd (omega arith)
times (suc (suc x)) y h k = absurd (omega arith)

pub shifted_xor : (x y : ℕ) → shifted (bit_xor x y) ≡ bit_xor (shifted x) (shifted y)
shifted_xor x y =
    shifted_is (bit_xor x y)
    ∙ ap₂ (λ (p q : ℕ). bit_xor (p * polynomial) q) (xor_mod x y 1) (xor_shr x y 1)
    ∙ ap (λ (p : ℕ). bit_xor p (bit_xor (x / 2) (y / 2))) (times (x % 2) (y % 2) (omega arith) (omega arith))
    ∙ xor_four (x % 2 * polynomial) (y % 2 * polynomial) (x / 2) (y / 2)
    ∙ ap₂ bit_xor (sym (shifted_is x)) (sym (shifted_is y))

pub eight_xor : (x y : ℕ) → eight (bit_xor x y) ≡ bit_xor (eight x) (eight y)
unfolding eight
eight_xor x y = simp shifted_xor

-- zeros at the low end only shift
even : (m : ℕ) → shifted (m * 2) ≡ m
even m = shifted_is (m * 2) ∙ ap₂ (λ (p q : ℕ). bit_xor (p * polynomial) q) (mul-mod_left m 2) (mul-div_cancel m (zero-lt-suc 1))

eight_even : (m : ℕ) → eight (m * 2 * 2 * 2 * 2 * 2 * 2 * 2 * 2) ≡ m
unfolding eight
eight_even m = simp even

pub eight_zeros : (m : ℕ) → eight (m * 256) ≡ m
eight_zeros m = let e : m * 256 ≡ m * 2 * 2 * 2 * 2 * 2 * 2 * 2 * 2 = omega arith in ap eight e ∙ eight_even m

-- the low byte through the table, and the others shifted
eight_split : (c : ℕ) → eight c ≡ bit_xor (eight (c % 256)) (c / 256)
eight_split c =
    ap eight (sym (div-add-mod' c 256) ∙ sym (xor_shifted (c / 256) 8 (c % 256) (mod-lt c (pow_pos 8))))
    ∙ eight_xor (c / 256 * 256) (c % 256)
    ∙ ap (λ (x : ℕ). bit_xor x (eight (c % 256))) (eight_zeros (c / 256))
    ∙ xor_comm (c / 256) (eight (c % 256))

-- THE TABLE STEP: the byte is gone from what is shifted
pub table_step : (c b : ℕ) → b < 256 → bit_xor (eight (bit_xor c b % 256)) (c / 256) ≡ eight (bit_xor c b)
table_step c b h =
    sym (eight_split (bit_xor c b)
    ∙ ap (bit_xor (eight (bit_xor c b % 256))) (xor_shr c b 8 ∙ ap (bit_xor (c / 256)) (div-eq_of_lt h) ∙ xor_zero_r (c / 256)))
