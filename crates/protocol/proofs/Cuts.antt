-- Laws of `rsplit`: where its last slash is, and what a cut says. Assumes nothing.
use Rattle.std.proofs.Common.{◌≡◌, ℕ, zero, suc, ◌+◌, ◌-◌, ◌<◌, eqb, List, [], ◌∷◌, ◌++◌, length, get_or, take, drop, Option, Some, None, MatchOption, refl, sym, ap, ◌∙◌, add-one, arith, length-append, take_at, drop_at, eq-eqb, ne_eqb, eqb-true}
use lib.Seq.{append_snoc}
use Rattle.ground.proofs.Lists.{onwards}
use Rattle.ground.proofs.Tests.{picked}
use Rattle.protocol.specs.Interface.{Cut, whole, cut, grown, rsplit, place_of}

-- no slash at all
slashless : (s : List ℕ) → ((k : ℕ) → k < length s → get_or s k 0 ≡ 47 → ⊥) → rsplit s ≡ whole
unfolding rsplit
slashless [] f = refl
slashless (c ∷ s) f = simp (slashless s (λ k h. f (suc k) (omega arith)), ne_eqb c 47 (f 0 (omega arith)))

-- a slash with none after it is the last
last : (s : List ℕ) (i : ℕ) → i < length s → get_or s i 0 ≡ 47 → ((k : ℕ) → i < k → k < length s → get_or s k 0 ≡ 47 → ⊥) → place_of (rsplit s) ≡ Some i
unfolding rsplit
last [] i h e f = absurd (omega arith)
last (c ∷ s) zero h e f = simp (slashless s (λ k l. f (suc k) (omega arith) (omega arith)), eq-eqb c 47 e)
last (c ∷ s) (suc i) h e f = go (rsplit s) (last s i (omega arith) e (λ k g l. f (suc k) (omega arith) (omega arith)))
  where
    go : (k : Cut) → place_of k ≡ Some i → place_of (grown c s k) ≡ Some (suc i)
    go whole q = cc
    go (cut rest tail) q = let n : length rest ≡ i = cc in ap (λ (m : ℕ). Some (suc m)) n

-- so the library's last place is the cut's
pub found : (s : List ℕ) (r : Option ℕ)
    → MatchOption r ((k : ℕ) → k < length s → get_or s k 0 ≡ 47 → ⊥) (λ i. (i < length s) × (get_or s i 0 ≡ 47) × ((k : ℕ) → i < k → k < length s → get_or s k 0 ≡ 47 → ⊥))
    → r ≡ place_of (rsplit s)
found s None h = sym (ap place_of (slashless s h))
found s (Some i) h = sym (last s i h.0 h.1 h.2)

drop_past : (p q : List ℕ) (i : ℕ) → length p ≡ i → drop (suc i) (p ++ (47 ∷ q)) ≡ q
drop_past p q i e = sym (ap (λ (l : List ℕ). drop (suc i) l) (append_snoc p 47 q)) ∙ drop_at (p ++ (47 ∷ [])) q (suc i) (length-append p (47 ∷ []) ∙ omega arith)

-- what a cut says of the text
abbrev Says : List ℕ → Cut → Type 0
Says s whole = Unit
Says s (cut rest tail) = s ≡ rest ++ (47 ∷ tail)

says : (s : List ℕ) → Says s (rsplit s)
unfolding rsplit
says [] = tt
says (c ∷ s) = go (rsplit s) (says s)
  where
    go : (k : Cut) → Says s k → Says (c ∷ s) (grown c s k)
    go whole h = picked (λ (k : Cut). Says (c ∷ s) k) (eqb c 47) (cut [] s) whole (λ e. ap (λ (x : ℕ). x ∷ s) (eqb-true c 47 e)) (λ e. tt)
    go (cut rest tail) h = ap (λ (l : List ℕ). c ∷ l) h

-- so a place that it gives is a slash's, and the parts are those before and after it
at : (s : List ℕ) (i : ℕ) → place_of (rsplit s) ≡ Some i → (i < length s) × (rsplit s ≡ cut (take i s) (drop (i + 1) s))
at s i e = go (rsplit s) (says s) e
  where
    go : (k : Cut) → Says s k → place_of k ≡ Some i → (i < length s) × (k ≡ cut (take i s) (drop (i + 1) s))
    go whole h q = cc
    go (cut rest tail) h q =
        let n : length rest ≡ i = cc in
        let t : take i s ≡ rest = ap (λ (l : List ℕ). take i l) h ∙ take_at rest (47 ∷ tail) i n in
        let d : drop (i + 1) s ≡ tail = rw add-one (ap (λ (l : List ℕ). drop (suc i) l) h ∙ drop_past rest tail i n) in
        (omega (arith, ap length h, length-append rest (47 ∷ tail)), cc)

-- the parts as the code has them
pub parts : (s : List ℕ) (o : Option ℕ) (i : ℕ) → o ≡ place_of (rsplit s) → o ≡ Some i → rsplit s ≡ cut (take i s) (take (length s - (i + 1)) (drop (i + 1) s))
parts s o i e f = rw (at s i (sym e ∙ f)).1 (ap (cut (take i s)) (sym (onwards (i + 1) s)))
