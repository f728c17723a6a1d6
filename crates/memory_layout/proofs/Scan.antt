-- Laws of `up_to`, `end_of` and `split`: how a scan for a byte goes, and the pieces of a text. Assumes nothing.
use Rattle.std.proofs.Common.{◌≡◌, ◌==◌, cond, position, unwrap_or, ℕ, suc, ◌+◌, ◌<◌, ◌≤◌, Bool, true, false, eqb, List, [], ◌∷◌, length, get_or, take, drop, refl, ap, ⊎_elim, suc-le-suc, zero-le, eq-or-lt_of_le, add-one, arith, length-drop, drop_of_length-le, drop-cons, eq-eqb, ne_eqb}
use Rattle.std.specs.List.{position_or_len}
use Rattle.std.proofs.lemmas.Bool.Decides.{nat_tests}
use Rattle.std.proofs.lemmas.List.Recursion.{is_position_or_len}
use Rattle.ground.specs.Pick.{pick}
use Rattle.ground.proofs.Tests.{lt_or_ge}
use Rattle.memory_layout.specs.Layout.{up_to, end_of, split, push}

-- the end stops the search
pub stop_end : (x : ℕ) (s : List ℕ) (i : ℕ) → length s ≤ i → end_of x s i ≡ i
unfolding end_of up_to
stop_end x s i h = rw (drop_of_length-le s h) (omega arith)

module _ (x : ℕ) (s : List ℕ) (i : ℕ) (h : i < length s) where
  -- so does an x
  pub stop_at : get_or s i 0 ≡ x → end_of x s i ≡ i
  unfolding end_of up_to
  stop_at e = rw (drop-cons s i 0) (simp (eq-eqb (get_or s i 0) x e) (omega arith))

  -- and any other byte is passed
  pub pass : (get_or s i 0 ≡ x → ⊥) → end_of x s i ≡ end_of x s (i + 1)
  unfolding end_of up_to
  pass e = rw (add-one, drop-cons s i 0) (simp (ne_eqb (get_or s i 0) x e) (omega arith))

pub end_from : (x : ℕ) (s : List ℕ) (i : ℕ) → i ≤ end_of x s i
unfolding end_of
end_from x s i = omega arith

short : (x : ℕ) (s : List ℕ) → length (up_to x s) ≤ length s
unfolding up_to
short x [] = zero-le
short x (c ∷ cs) = go (eqb c x) (short x cs)
  where
    go : (b : Bool) → length (up_to x cs) ≤ length cs → length (pick b [] (c ∷ up_to x cs)) ≤ suc (length cs)
    go true k = zero-le
    go false k = suc-le-suc k

pub end_in : (x : ℕ) (s : List ℕ) (i : ℕ) → i ≤ length s → end_of x s i ≤ length s
unfolding end_of
end_in x s i h = omega (arith, short x (drop i s), length-drop i s)

-- the pieces of a text: the bytes before the first comma, and then those after it
pub one_piece : (t : List ℕ) → length (up_to 44 t) ≡ length t → split t ≡ up_to 44 t ∷ []
unfolding split up_to
one_piece [] h = refl
one_piece (c ∷ t) h = go (eqb c 44) h (λ k. one_piece t (omega arith))
  where
    go : (b : Bool) → length (pick b [] (c ∷ up_to 44 t)) ≡ suc (length t) → (length (up_to 44 t) ≡ length t → split t ≡ up_to 44 t ∷ [])
        → pick b ([] ∷ split t) (push c (split t)) ≡ pick b [] (c ∷ up_to 44 t) ∷ []
    go true k f = absurd (omega arith)
    go false k f = rw (f (omega arith))

pub more_pieces : (t : List ℕ) → length (up_to 44 t) < length t → split t ≡ up_to 44 t ∷ split (drop (suc (length (up_to 44 t))) t)
unfolding split up_to
more_pieces [] h = absurd (omega arith)
more_pieces (c ∷ t) h = go (eqb c 44) h (λ k. more_pieces t k)
  where
    go : (b : Bool) → length (pick b [] (c ∷ up_to 44 t)) < suc (length t) → (length (up_to 44 t) < length t → split t ≡ up_to 44 t ∷ split (drop (suc (length (up_to 44 t))) t))
        → pick b ([] ∷ split t) (push c (split t)) ≡ pick b [] (c ∷ up_to 44 t) ∷ split (drop (suc (length (pick b [] (c ∷ up_to 44 t)))) (c ∷ t))
    go true k f = refl
    go false k f = rw (f (omega arith))

-- the first x of the bytes before the first y
pub hidden : (x y : ℕ) (t : List ℕ) → length (up_to y t) ≤ length (up_to x t) → up_to x (up_to y t) ≡ up_to y t
unfolding up_to
hidden x y [] h = refl
hidden x y (c ∷ t) h = go (eqb c x) (eqb c y) refl h (λ k. hidden x y t k)
  where
    go : (b d : Bool) → eqb c x ≡ b → length (pick d [] (c ∷ up_to y t)) ≤ length (pick b [] (c ∷ up_to x t)) → (length (up_to y t) ≤ length (up_to x t) → up_to x (up_to y t) ≡ up_to y t)
        → up_to x (pick d [] (c ∷ up_to y t)) ≡ pick d [] (c ∷ up_to y t)
    go b true e k f = refl
    go true false e k f = absurd (omega arith)
    go false false e k f = simp (e, f (omega arith))

pub seen : (x y : ℕ) (t : List ℕ) → length (up_to x t) < length (up_to y t) → up_to x (up_to y t) ≡ up_to x t
unfolding up_to
seen x y [] h = refl
seen x y (c ∷ t) h = go (eqb c x) (eqb c y) refl h (λ k. seen x y t k)
  where
    go : (b d : Bool) → eqb c x ≡ b → length (pick b [] (c ∷ up_to x t)) < length (pick d [] (c ∷ up_to y t)) → (length (up_to x t) < length (up_to y t) → up_to x (up_to y t) ≡ up_to x t)
        → up_to x (pick d [] (c ∷ up_to y t)) ≡ pick b [] (c ∷ up_to x t)
    go b true e k f = absurd (omega arith)
    go true false e k f = simp e
    go false false e k f = simp (e, f (omega arith))

-- what stands before the first x is a leading part
pub lead : (x : ℕ) (t : List ℕ) → take (length (up_to x t)) t ≡ up_to x t
unfolding up_to
lead x [] = refl
lead x (c ∷ t) = go (eqb c x) (lead x t)
  where
    go : (b : Bool) → take (length (up_to x t)) t ≡ up_to x t → take (length (pick b [] (c ∷ up_to x t))) (c ∷ t) ≡ pick b [] (c ∷ up_to x t)
    go true e = refl
    go false e = ap (λ (l : List ℕ). c ∷ l) e

pub some_pieces : (t : List ℕ) → (ps : List (List ℕ)) × (split t ≡ up_to 44 t ∷ ps)
some_pieces t = ⊎_elim (λ e. ([], one_piece t e)) (λ l. (split (drop (suc (length (up_to 44 t))) t), more_pieces t l)) (eq-or-lt_of_le (short 44 t))

-- a star at i, with neither a star nor a comma from a to i, comes before the comma
pub found : (s : List ℕ) (a i : ℕ) → i < length s → end_of 44 s a ≡ end_of 44 s i → end_of 42 s a ≡ end_of 42 s i → get_or s i 0 ≡ 42 → end_of 42 s a < end_of 44 s a
found s a i h p q e = omega (arith, stop_at 42 s i h e, pass 44 s i h (λ (k : get_or s i 0 ≡ 44). omega arith), end_from 44 s (i + 1))

-- the first place of a byte as the library says it
as_place : (x : ℕ) (t : List ℕ) → length (up_to x t) ≡ position_or_len (λ (b : ℕ). b == x) t
unfolding up_to
as_place x t = is_position_or_len (λ (t : List ℕ). length (up_to x t)) (λ (b : ℕ). b == x) refl (λ c cs. go (eqb c x) c (up_to x cs)) t
  where
    go : (b : Bool) (c : ℕ) (l : List ℕ) → length (pick b [] (c ∷ l)) ≡ cond b 0 (1 + length l)
    go true c l = refl
    go false c l = omega arith

pub placed : (x : ℕ) (t : List ℕ) → unwrap_or (position (λ (b : ℕ). b == x) t) (length t) ≡ length (up_to x t)
placed x t = grind (arith, nat_tests, as_place x t, short x t)

-- the end or an x: it stops here
pub stop : (x : ℕ) (s : List ℕ) (i : ℕ) → (i < length s → get_or s i 0 ≡ x) → end_of x s i ≡ i
stop x s i f = ⊎_elim (λ l. stop_at x s i l (f l)) (λ g. stop_end x s i g) (lt_or_ge i (length s))

pub ruleset ends = (end_from, end_in)
