-- Laws of runs that are kept, and of the pages that they lay out. Assumes nothing.
use Rattle.std.proofs.Common.{◌≡◌, ℕ, ◌+◌, ◌<◌, ◌≤◌, List, [], ◌∷◌, ◌++◌, length, get_or, take, drop, replicate, sym, ap, ◌∙◌, ap₂, append_assoc, append-nil, add-one, arith, length-append, length-drop, take-suc, take_at, drop-drop}
use lib.ListN.{length-replicate}
use lib.Seq.{drop-append-add}
use Rattle.std.proofs.lemmas.Grind.{flat_map-append}
use Rattle.std.proofs.lemmas.List.Folds.{length-flat_map-take}
use Rattle.memory_layout.specs.declared.Run.{Run}
use Rattle.memory_layout.specs.Usual.{laid}

-- one run more
pub kept : (runs : List Run) (run : Run) → laid (runs ++ (run ∷ [])) ≡ laid runs ++ replicate run.count run.size
kept runs run =
    flat_map-append (λ (r : Run). replicate r.count r.size) runs (run ∷ [])
    ∙ ap (λ (l : List ℕ). laid runs ++ l) (append-nil (replicate run.count run.size))

-- a store xs, which was ys, with the pages of the first i runs at its front
module _ (runs : List Run) (i at : ℕ) (ys xs : List ℕ) (h : i < length runs) (n : at ≡ length (laid (take i runs))) (e : xs ≡ laid (take i runs) ++ drop at ys) (d : Run) where
  abbrev run : Run
  run = get_or runs i d

  more : laid (take (i + 1) runs) ≡ laid (take i runs) ++ replicate run.count run.size
  more = rw add-one (ap laid (take-suc runs i d h) ∙ kept (take i runs) run)

  pub more_length : at + run.count ≡ length (laid (take (i + 1) runs))
  more_length = omega (arith, n, ap length more, length-append (laid (take i runs)) (replicate run.count run.size), length-replicate run.count run.size)

  pub within : length (laid runs) ≤ length ys → at + run.count ≤ length xs
  within l =
      omega
      (arith, n, ap length e, length-append (laid (take i runs)) (drop at ys), length-drop at ys, length-replicate run.count run.size, length-flat_map-take (λ (r : Run). replicate r.count r.size) runs i d h)

  pub more_placed : (zs : List ℕ) → zs ≡ take at xs ++ (replicate run.count run.size ++ drop (at + run.count) xs) → zs ≡ laid (take (i + 1) runs) ++ drop (at + run.count) ys
  more_placed zs f =
      let l = laid (take i runs) in
      let count = run.count in
      let a : take at xs ≡ l = ap (λ (t : List ℕ). take at t) e ∙ take_at l (drop at ys) at (sym n) in
      let b : drop (at + count) xs ≡ drop (at + count) ys =
      ap₂ (λ (j : ℕ) (t : List ℕ). drop (j + count) t) n e ∙ drop-append-add l (drop at ys) count ∙ drop-drop count at ys in
      f
      ∙ ap₂ (λ (s t : List ℕ). s ++ (replicate count run.size ++ t)) a b
      ∙ sym (append_assoc l (replicate count run.size) (drop (at + count) ys))
      ∙ ap (λ (t : List ℕ). t ++ drop (at + count) ys) (sym more)
