-- How the reader goes through a text that is put together of parts: a piece, all pieces. Assumes nothing.
use Rattle.std.proofs.Common.{◌≡◌, Some, Ok, ℕ, ◌+◌, ◌-◌, ◌*◌, ◌<◌, ◌≤◌, false, eqb, List, [], ◌∷◌, ◌++◌, length, replicate, refl, ap, arith, length-append, le-ltb, eq-eqb, ne_eqb}
use lib.ListN.{length-replicate}
use lib.Seq.{take-append_seam, get_or-append_seam, drop-append-add}
use Rattle.ground.proofs.Lists.{Without}
use Rattle.numeral.specs.Number.{number_of}
use Rattle.memory_layout.specs.Layout.{max_pages, max_text, up_to, split, factor_of, run_of, with_pages, starred, piece_of, pieces, checked, sizes}
use Rattle.memory_layout.proofs.Pieces.{fits}

-- the bytes before the first x
pub before : (x : ℕ) (s t : List ℕ) → Without x s → up_to x (s ++ (x ∷ t)) ≡ s
unfolding up_to
before x [] t f = simp (eq-eqb x x refl)
before x (c ∷ s) t f = simp (ne_eqb c x f.0, before x s t f.1)

-- a piece with no comma, alone and before more
pub alone : (p : List ℕ) → Without 44 p → split p ≡ p ∷ []
unfolding split
alone [] f = refl
alone (c ∷ p) f = simp (alone p f.1, ne_eqb c 44 f.0)

pub first : (p t : List ℕ) → Without 44 p → split (p ++ (44 ∷ t)) ≡ p ∷ split t
unfolding split
first [] t f = refl
first (c ∷ p) t f = simp (first p t f.1, ne_eqb c 44 f.0)

-- a piece: a count, a star, a size, a unit and a type
pub piece : (count size : List ℕ) (unit type n v f at : ℕ) → Without 42 count → number_of 10 count ≡ Some n → number_of 10 size ≡ Some v
    → factor_of unit ≡ Some f → v * f < 4294967296 → piece_of (count ++ (42 ∷ (size ++ (unit ∷ type ∷ [])))) at ≡ Ok (run_of n (v * f))
unfolding piece_of starred
piece count size unit type n v f at w c s u l =
    let rest = size ++ (unit ∷ type ∷ []) in
    let m : length rest ≡ length size + 2 = length-append size (unit ∷ type ∷ []) in
    let e : length rest - 2 ≡ length size = omega arith in
    let star : eqb (length count) (length (count ++ (42 ∷ rest))) ≡ false =
    ne_eqb _ _ (λ (q : length count ≡ length (count ++ (42 ∷ rest))). omega (arith, length-append count (42 ∷ rest))) in
    simp
    (before 42 count rest w, star, drop-append-add count (42 ∷ rest) 1, le-ltb (length rest) 2 (omega arith), c, e, take-append_seam, s, get_or-append_seam, u)
    (fits n v f _ (omega arith))

-- pieces that announce these pages, from any place on: each is taken where there is room for all
pub record Announces (ps : List (List ℕ)) (pages : List ℕ) : Type 0 where
  pub taken : (room at n m : ℕ) → n + length pages ≡ m → m ≤ room → pieces room ps at n ≡ Ok (with_pages m)
  pub listed : (at : ℕ) → sizes ps at ≡ pages

pub nothing : Announces [] []
unfolding pieces sizes
nothing = record { taken = λ room at n m e h. ap (λ (k : ℕ). Ok (with_pages k)) (omega arith); listed = λ at. refl }

pub more : (p : List ℕ) (ps : List (List ℕ)) (n v : ℕ) (pages : List ℕ) → ((at : ℕ) → piece_of p at ≡ Ok (run_of n v)) → Announces ps pages
    → Announces (p ∷ ps) (replicate n v ++ pages)
unfolding pieces sizes
more p ps n v pages run a =
    let l : length (replicate n v ++ pages) ≡ n + length pages = omega (arith, length-append (replicate n v) pages, length-replicate n v) in
    record {
      taken = λ room at k m e h. simp (run at, le-ltb room (k + n) (omega arith)) (a.taken room (at + length p + 1) (k + n) m (omega arith) h);
      listed = λ at. simp (run at, a.listed (at + length p + 1));
    }

-- so a text of such pieces is accepted
pub accepts : (store : ℕ) (text pages : List ℕ) → Announces (split text) pages
    → length text ≤ max_text → length pages ≤ max_pages → length pages ≤ store → checked store text ≡ Ok (with_pages (length pages))
unfolding checked
accepts store text pages a t p s = simp (le-ltb max_text (length text) t) (a.taken _ 0 0 (length pages) (omega arith) (omega arith))
