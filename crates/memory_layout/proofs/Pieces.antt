-- Laws of one piece: its star is the library's first place of a `*`, or there is none. Assumes nothing.
use Rattle.std.proofs.Common.{◌≡◌, ◌==◌, ℕ, ◌+◌, ◌-◌, ◌*◌, ◌<◌, ◌≤◌, List, length, get_or, take, drop, IfSome, Option, Some, None, Ok, Err, position, unwrap_or, sym, ap, ◌∙◌, eqb, eq-eqb, ne_eqb, le-ltb, arith}
use Rattle.std.proofs.lemmas.List.Quantifiers.{position-Some}
use Rattle.ground.proofs.Tests.{picked}
use Rattle.numeral.specs.Number.{number_of}
use Rattle.memory_layout.specs.Layout.{up_to, run_of, factor_of, scaled, starred, piece_of}
use Rattle.memory_layout.specs.declared.Error.{Error}
use Rattle.memory_layout.proofs.Scan.{placed, lead}

pub starless : (p : List ℕ) (at : ℕ) → position (λ (b : ℕ). b == 42) p ≡ None → piece_of p at ≡ Err (Error.InvalidPageFormat at (length p))
unfolding piece_of
starless p at e =
    let n : length (up_to 42 p) ≡ length p = sym (placed 42 p) ∙ ap (λ o. unwrap_or o (length p)) e in
    simp (eq-eqb (length (up_to 42 p)) (length p) n)

pub with_star : (p : List ℕ) (i at : ℕ) → position (λ (b : ℕ). b == 42) p ≡ Some i → piece_of p at ≡ starred (take i p) (drop (i + 1) p) at
unfolding piece_of
with_star p i at e =
    let n : length (up_to 42 p) ≡ i = sym (placed 42 p) ∙ ap (λ o. unwrap_or o (length p)) e in
    let l : i < length p = (position-Some (λ (b : ℕ). b == 42) p i 0 e).0 in
    let u : up_to 42 p ≡ take i p = sym (lead 42 p) ∙ ap (λ (k : ℕ). take k p) n in
    simp (ne_eqb (length (up_to 42 p)) (length p) (λ (k : length (up_to 42 p) ≡ length p). omega arith)) (ap (λ (k : ℕ). starred (up_to 42 p) (drop (k + 1) p) at) n ∙ ap (λ (c : List ℕ). starred c (drop (i + 1) p) at) u)

-- a unit multiplies by 2^20 at most
pub factor_most : (c : ℕ) → IfSome (factor_of c) (λ f. f ≤ 1048576)
factor_most c =
    let Most : Option ℕ → Type 0 = λ (o : Option ℕ). IfSome o (λ f. f ≤ 1048576) in
    picked Most (eqb c 75) _ _ (λ e. omega arith)
    (λ e. picked Most (eqb c 77) _ _ (λ e. omega arith)
    (λ e. picked Most (eqb c 66) _ _ (λ e. omega arith)
    (λ e. picked Most (eqb c 32) _ _ (λ e. omega arith) (λ e. tt))))

-- a size times its unit, below 2^32
pub fits : (count size f at : ℕ) → size * f ≤ 4294967295 → scaled count size (Some f) at ≡ Ok (run_of count (size * f))
unfolding scaled
fits count size f at h = simp (le-ltb 4294967295 (size * f) h)

-- a count before the star, and a size, a unit and a type after it
pub good : (count rest : List ℕ) (n v at : ℕ) → 2 ≤ length rest → number_of 10 count ≡ Some n → number_of 10 (take (length rest - 2) rest) ≡ Some v
    → starred count rest at ≡ scaled n v (factor_of (get_or rest (length rest - 2) 0)) (at + (length count + 1) + (length rest - 2))
unfolding starred
good count rest n v at h e f = simp (le-ltb (length rest) 2 h, e, f)
