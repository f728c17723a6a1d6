-- A store that is filled from the front, a run of pages a turn, while what is still to come is known. Assumes nothing.
use Rattle.std.proofs.Common.{◌≡◌, ◌==◌, cond, ℕ, suc, ◌+◌, ◌<◌, ◌≤◌, min, true, false, eqb, Bool, List, [], ◌∷◌, ◌++◌, length, take, drop, replicate, Ok, sym, refl, ap, ◌∙◌, ap₂, append_assoc, append-nil, arith, length-append, length-drop, length-take-le, take_at, drop_at, take-append-drop, drop-drop, drop-cons, drop_of_length-le, get_or, add-one, subst}
use lib.ListN.{length-replicate}
use Rattle.std.specs.List.{slice_split, onto_first}
use Rattle.ground.specs.Pick.{pick}
use Rattle.memory_layout.specs.declared.Run.{Run}
use Rattle.memory_layout.specs.Layout.{push, split, with_pages, piece_of, pieces, sizes, max_pages}
use Rattle.memory_layout.proofs.Accepted.{taken}

-- a run after k numbers of a store xs, which leaves zs
module _ (xs zs : List ℕ) (k : ℕ) (run : Run) (h : k + run.count ≤ length xs) (e : zs ≡ take k xs ++ (replicate run.count run.size ++ drop (k + run.count) xs)) where
  parts : zs ≡ (take k xs ++ replicate run.count run.size) ++ drop (k + run.count) xs
  parts = e ∙ sym (append_assoc (take k xs) (replicate run.count run.size) (drop (k + run.count) xs))

  filled : length (take k xs ++ replicate run.count run.size) ≡ k + run.count
  filled = omega (arith, length-append (take k xs) (replicate run.count run.size), length-take-le k xs (omega arith), length-replicate run.count run.size)

  pub front : take (k + run.count) zs ≡ take k xs ++ replicate run.count run.size
  front = ap (λ (l : List ℕ). take (k + run.count) l) parts ∙ take_at (take k xs ++ replicate run.count run.size) (drop (k + run.count) xs) (k + run.count) filled

  pub back : drop (k + run.count) zs ≡ drop (k + run.count) xs
  back = ap (λ (l : List ℕ). drop (k + run.count) l) parts ∙ drop_at (take k xs ++ replicate run.count run.size) (drop (k + run.count) xs) (k + run.count) filled

  pub as_long : length zs ≡ length xs
  as_long = ap length parts ∙ omega (arith, length-append (take k xs ++ replicate run.count run.size) (drop (k + run.count) xs), filled, length-drop (k + run.count) xs)

-- the pieces as the library says them
pushed : (c : ℕ) (ps : List (List ℕ)) → push c ps ≡ onto_first c ps
pushed c [] = refl
pushed c (p ∷ ps) = refl

pub as_split : (t : List ℕ) → split t ≡ slice_split (λ (b : ℕ). b == 44) t
unfolding split
as_split [] = refl
as_split (c ∷ t) = go (eqb c 44) (as_split t)
  where
    go : (b : Bool) → split t ≡ slice_split (λ (b : ℕ). b == 44) t
        → pick b ([] ∷ split t) (push c (split t)) ≡ cond b ([] ∷ slice_split (λ (b : ℕ). b == 44) t) (onto_first c (slice_split (λ (b : ℕ). b == 44) t))
    go true e = ap (λ (ps : List (List ℕ)). [] ∷ ps) e
    go false e = pushed c (split t) ∙ ap (onto_first c) e

-- how many bytes pieces have, each with the comma after it
abbrev pub span : List (List ℕ) → ℕ
span [] = 0
span (p ∷ ps) = length p + 1 + span ps

pub whole : (t : List ℕ) → span (split t) ≡ length t + 1
unfolding split
whole [] = refl
whole (c ∷ t) = go (eqb c 44) (split t) (whole t)
  where
    go : (b : Bool) (ps : List (List ℕ)) → span ps ≡ length t + 1 → span (pick b ([] ∷ ps) (push c ps)) ≡ suc (length t) + 1
    go true ps e = omega arith
    go false [] e = absurd (omega arith)
    go false (p ∷ ps) e = omega arith

-- the pieces ps of a text are left, from a place on, and the pages of those before them stand at the front of what was the store ys
pub record StoredTo (text ys : List ℕ) (m : ℕ) (ps : List (List ℕ)) (at k : ℕ) (xs : List ℕ) : Type 0 where
  pub left : at + span ps ≡ length text + 1
  pub same : length xs ≡ length ys
  pub inside : k ≤ length ys
  pub accepted : pieces (min (length ys) max_pages) ps at k ≡ Ok (with_pages m)
  pub front_is : take k xs ++ sizes ps at ≡ sizes (split text) 0
  pub back_is : drop k xs ≡ drop k ys

pub none_stored : (text ys : List ℕ) (m : ℕ) → pieces (min (length ys) max_pages) (split text) 0 0 ≡ Ok (with_pages m) → StoredTo text ys m (split text) 0 0 ys
none_stored text ys m e = record { left = omega (arith, whole text); same = refl; inside = omega arith; accepted = e; front_is = refl; back_is = refl }

module _ (text ys : List ℕ) (m : ℕ) (p : List ℕ) (ps : List (List ℕ)) (at k : ℕ) (xs : List ℕ) (i : StoredTo text ys m (p ∷ ps) at k xs) (run : Run) (is : piece_of p at ≡ Ok run) where
  pub room : k + run.count ≤ length xs
  room = omega (arith, i.same, (taken (min (length ys) max_pages) p ps at k m i.accepted run is).0)

  head : replicate run.count run.size ++ sizes ps (at + length p + 1) ≡ sizes (p ∷ ps) at
  unfolding sizes
  head = simp is

  pub more_stored : (zs : List ℕ) → zs ≡ take k xs ++ (replicate run.count run.size ++ drop (k + run.count) xs) → StoredTo text ys m ps (at + length p + 1) (k + run.count) zs
  more_stored zs e = record {
    left = omega (arith, i.left);
    same = as_long xs zs k run room e ∙ i.same;
    inside = omega (arith, room, i.same);
    accepted = (taken (min (length ys) max_pages) p ps at k m i.accepted run is).1;
    front_is = ap (λ (l : List ℕ). l ++ sizes ps (at + length p + 1)) (front xs zs k run room e) ∙ append_assoc (take k xs) (replicate run.count run.size) (sizes ps (at + length p + 1)) ∙ ap (λ (l : List ℕ). take k xs ++ l) head ∙ i.front_is;
    back_is = back xs zs k run room e ∙ sym (drop-drop run.count k xs) ∙ ap (λ (l : List ℕ). drop run.count l) i.back_is ∙ drop-drop run.count k ys;
  }

pub all_stored : (text ys : List ℕ) (m at k : ℕ) (xs : List ℕ) → StoredTo text ys m [] at k xs → xs ≡ sizes (split text) 0 ++ drop (length (sizes (split text) 0)) ys
unfolding sizes
all_stored text ys m at k xs i =
    let f : take k xs ≡ sizes (split text) 0 = sym (append-nil (take k xs)) ∙ i.front_is in
    let n : k ≡ length (sizes (split text) 0) = sym (length-take-le k xs (omega (arith, i.inside, i.same))) ∙ ap length f in
    sym (take-append-drop k xs) ∙ ap₂ (λ (a b : List ℕ). a ++ b) f (i.back_is ∙ ap (λ (j : ℕ). drop j ys) n)

-- a turn: the piece at the head, and none left
abbrev pub the_pieces : List ℕ → List (List ℕ)
the_pieces text = slice_split (λ (b : ℕ). b == 44) text

module _ (text ys : List ℕ) (m j at k : ℕ) (xs : List ℕ) (i : StoredTo text ys m (drop j (split text)) at k xs) where
  pub here : (p : List ℕ) → (j < length (the_pieces text)) × (p ≡ get_or (the_pieces text) j p) → StoredTo text ys m (p ∷ drop (j + 1) (split text)) at k xs
  here p t =
      let P : List (List ℕ) → Type 0 = λ ps. StoredTo text ys m ps at k xs in
      let e : drop j (split text) ≡ p ∷ drop (j + 1) (split text) =
      rw (as_split text, add-one) (drop-cons (the_pieces text) j p t.0 ∙ ap (λ (q : List ℕ). q ∷ drop (suc j) (the_pieces text)) (sym t.1)) in
      subst P e i

  pub none_left : length (the_pieces text) ≤ j → StoredTo text ys m [] at k xs
  none_left h =
      let P : List (List ℕ) → Type 0 = λ ps. StoredTo text ys m ps at k xs in
      subst P (rw (as_split text) (drop_of_length-le (the_pieces text) h)) i
