-- What a text that was accepted says, and the page sizes of its pieces. Assumes nothing.
use Rattle.std.proofs.Common.{◌≡◌, ℕ, min, suc, ◌+◌, ◌<◌, ◌≤◌, ltb, List, [], ◌∷◌, ◌++◌, length, drop, replicate, Result, Ok, Err, IsOk, refl, ap, rules, ◌∙◌, arith, length-drop, length-append, drop-drop, ltb-false}
use lib.ListN.{length-replicate}
use Rattle.ground.proofs.Tests.{picked}
use Rattle.memory_layout.specs.declared.Error.{Error}
use Rattle.memory_layout.specs.declared.Run.{Run}
use Rattle.memory_layout.specs.declared.MemoryLayout.{MemoryLayout}
use Rattle.memory_layout.specs.Layout.{up_to, end_of, split, with_pages, piece_of, pieces, pages_of, sizes, max_pages, max_text, checked}
use Rattle.memory_layout.proofs.Scan.{one_piece, more_pieces}

module _ (s : List ℕ) (a : ℕ) (run : Run) (is : piece_of (up_to 44 (drop a s)) a ≡ Ok run) where
  pub sizes_last : a ≤ length s → end_of 44 s a ≡ length s → sizes (split (drop a s)) a ≡ replicate run.count run.size ++ []
  unfolding sizes end_of
  sizes_last l e = rw (one_piece (drop a s) (omega (arith, length-drop a s))) (simp is)

  pub sizes_more : (e : ℕ) → e ≡ end_of 44 s a → e < length s → sizes (split (drop a s)) a ≡ replicate run.count run.size ++ sizes (split (drop (e + 1) s)) (e + 1)
  unfolding sizes end_of
  sizes_more e q l =
      let j : a + suc (length (up_to 44 (drop a s))) ≡ e + 1 = omega arith in
      let d : drop (suc (length (up_to 44 (drop a s)))) (drop a s) ≡ drop (e + 1) s = drop-drop _ a s ∙ ap (λ (m : ℕ). drop m s) j in
      let o : a + length (up_to 44 (drop a s)) + 1 ≡ e + 1 = omega arith in
      rw (more_pieces (drop a s) (omega (arith, length-drop a s))) (simp (is, d, o))

-- a piece at the head of pieces that are accepted with m pages, where n stand before them
module _ (room : ℕ) (p : List ℕ) (ps : List (List ℕ)) (at n m : ℕ) (acc : pieces room (p ∷ ps) at n ≡ Ok (with_pages m)) where
  pub no_fault : (e : Error) → piece_of p at ≡ Err e → ⊥
  unfolding pieces
  no_fault e f = let z : pieces room (p ∷ ps) at n ≡ Err e = simp f in cc

  pub taken : (run : Run) → piece_of p at ≡ Ok run → (n + run.count ≤ room) × (pieces room ps (at + length p + 1) (n + run.count) ≡ Ok (with_pages m))
  unfolding pieces
  taken run e =
      let P : Result MemoryLayout Error → Type 0 =
      λ r. r ≡ Ok (with_pages m) → (n + run.count ≤ room) × (pieces room ps (at + length p + 1) (n + run.count) ≡ Ok (with_pages m)) in
      picked P (ltb room (n + run.count)) (Err Error.TooManyPages) (pieces room ps (at + length p + 1) (n + run.count)) (λ t q. cc) (λ t q. (ltb-false room (n + run.count) t, q)) (rw e at acc)

-- a text that was accepted has as many numbers as pages
abbrev held : Result MemoryLayout Error → ℕ
held (Ok layout) = layout.pages
held (Err e) = 0

pub counted : (room : ℕ) (ps : List (List ℕ)) (at n m : ℕ) → pieces room ps at n ≡ Ok (with_pages m) → n + length (sizes ps at) ≡ m
unfolding pieces sizes
counted room [] at n m e = let z : n ≡ m = ap held e in omega arith
counted room (p ∷ ps) at n m e =
    go (piece_of p at) refl (λ run f. let t = taken room p ps at n m e run f in (counted room ps (at + length p + 1) (n + run.count) m t.1))
  where
    go : (r : Result Run Error) → piece_of p at ≡ r → ((run : Run) → piece_of p at ≡ Ok run → n + run.count + length (sizes ps (at + length p + 1)) ≡ m) → n + length (pages_of (piece_of p at) ++ sizes ps (at + length p + 1)) ≡ m
    go (Err f) k h = absurd (no_fault room p ps at n m e f k)
    go (Ok run) k h = rw k (omega (arith, h run k, length-append (replicate run.count run.size) (sizes ps (at + length p + 1)), length-replicate run.count run.size))

pub accepted : (r : Result MemoryLayout Error) → IsOk r → (m : ℕ) × (r ≡ Ok (with_pages m))
accepted (Ok layout) h = (layout.pages, refl)
accepted (Err e) h = absurd (search (rules, h))

-- a text that is accepted has pieces that are
pub checked_pieces : (store : ℕ) (text : List ℕ) (layout : MemoryLayout) → checked store text ≡ Ok layout → pieces (min store max_pages) (split text) 0 0 ≡ Ok layout
unfolding checked
checked_pieces store text layout =
    let P : Result MemoryLayout Error → Type 0 = λ r. r ≡ Ok layout → pieces (min store max_pages) (split text) 0 0 ≡ Ok layout in
    picked P (ltb max_text (length text)) (Err Error.TextTooLong) (pieces (min store max_pages) (split text) 0 0) (λ t e. cc) (λ t e. e)
