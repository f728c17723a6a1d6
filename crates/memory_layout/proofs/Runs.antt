-- A turn of the reader of usual texts: a run more is kept, and the text from its end on is left to read. Assumes nothing.
use Rattle.std.proofs.Common.{◌≡◌, ℕ, Some, Ok, Err, ◌+◌, ◌-◌, ◌*◌, ◌<◌, ◌≤◌, min, List, [], ◌∷◌, ◌++◌, length, take, drop, set, replicate, sym, refl, ap, ◌∙◌, ap₂, append_assoc, append-nil, arith, add-one, length-append, length-set, le-ltb, lt-ltb}
use Rattle.std.proofs.Math.Seq.{take-suc-set}
use lib.ListN.{length-replicate}
use Rattle.memory_layout.specs.declared.Error.{Error}
use Rattle.memory_layout.specs.declared.Run.{Run}
use Rattle.memory_layout.specs.declared.usual.Quick.{Quick}
use Rattle.memory_layout.specs.Layout.{up_to, end_of, split, with_pages, piece_of, pieces, sizes, max_pages, max_text, checked, done, layout_of}
use Rattle.memory_layout.specs.Usual.{QuickIn, laid}
use Rattle.memory_layout.proofs.Scan.{end_in}
use Rattle.memory_layout.proofs.Turns.{last, onward}
use Rattle.memory_layout.proofs.Accepted.{sizes_last, sizes_more}
use Rattle.memory_layout.proofs.OnePass.{run_long}
use Rattle.memory_layout.proofs.Laid.{kept}

-- k runs with n pages were kept of a text that is read up to a; four bytes at least went to each
abbrev pub ReadTo : List ℕ → ℕ → List Run → ℕ → ℕ → ℕ → Type 0
ReadTo s room runs a n k =
    (a ≤ length s) × (n ≤ room) × (length runs ≡ 256) × (4 * k ≤ a) × (length (laid (take k runs)) ≡ n) × (pieces room (split (drop a s)) a n ≡ pieces room (split s) 0 0)
    × (laid (take k runs) ++ sizes (split (drop a s)) a ≡ sizes (split s) 0)

pub nothing_kept : (s : List ℕ) (room : ℕ) (runs : List Run) → length runs ≡ 256 → ReadTo s room runs 0 0 0
nothing_kept s room runs h = (omega arith, omega arith, h, omega arith, refl, refl, refl)

module _ (s : List ℕ) (room : ℕ) (runs : List Run) (a n k : ℕ) (run : Run) (end : ℕ) (i : ReadTo s room runs a n k) (e : end ≡ end_of 44 s a) (is : piece_of (up_to 44 (drop a s)) a ≡ Ok run) where
  pub long : a + 3 ≤ end
  unfolding end_of
  long = omega (arith, e, run_long (up_to 44 (drop a s)) a run is)

  pub within : end ≤ length s
  within = omega (arith, e, end_in 44 s a i.0)

  pub places : length s ≤ 1024 → k < length runs
  places m = omega (arith, long, within, i.2, i.3)

  module _ (m : length s ≤ 1024) (h : run.count ≤ room - n) where
    one_more : take (k + 1) (set runs k run) ≡ take k runs ++ (run ∷ [])
    one_more = rw add-one (take-suc-set runs k run (places m))

    laid_more : laid (take (k + 1) (set runs k run)) ≡ laid (take k runs) ++ replicate run.count run.size
    laid_more = ap laid one_more ∙ kept (take k runs) run

    more_length : length (laid (take (k + 1) (set runs k run))) ≡ n + run.count
    more_length = ap length laid_more ∙ length-append (laid (take k runs)) (replicate run.count run.size) ∙ omega (arith, i.4, length-replicate run.count run.size)

    room_left : n + run.count ≤ room
    room_left = omega (arith, i.1, h)

    same_places : length (set runs k run) ≡ 256
    same_places = length-set runs k run ∙ i.2

    pub next_run : end < length s → ReadTo s room (set runs k run) (end + 1) (n + run.count) (k + 1)
    next_run l = (
      omega arith,
      room_left,
      same_places,
      omega (arith, long, i.3),
      more_length,
      sym (onward room s a n run is room_left end e l) ∙ i.5,
      ap (λ (t : List ℕ). t ++ sizes (split (drop (end + 1) s)) (end + 1)) laid_more
          ∙ append_assoc (laid (take k runs)) (replicate run.count run.size) (sizes (split (drop (end + 1) s)) (end + 1))
          ∙ ap (λ (t : List ℕ). laid (take k runs) ++ t) (sym (sizes_more s a run is end e l))
          ∙ i.6,
    )

    pub last_run : end ≡ length s → QuickIn s room (set runs k run) (Some (record { pages = n + run.count; runs = k + 1 }))
    last_run l = (
      sym i.5 ∙ last room s a n run is room_left i.0 (sym e ∙ l),
      omega (arith, same_places, places m, i.2),
      laid_more
          ∙ ap (λ (t : List ℕ). laid (take k runs) ++ t) (sym (append-nil (replicate run.count run.size)) ∙ sym (sizes_last s a run is i.0 (sym e ∙ l)))
          ∙ i.6,
      more_length,
      room_left,
    )

module _ (s store : List ℕ) where
  pub too_long : max_text < length s → done (Err Error.TextTooLong) store ≡ layout_of s store
  unfolding layout_of checked
  too_long h = simp (lt-ltb max_text (length s) h)

  pub read_quickly : (runs : List Run) (stored : List ℕ) (room : ℕ) (q : Quick) → room ≡ min (length store) max_pages → length s ≤ max_text → QuickIn s room runs (Some q)
      → stored ≡ laid (take q.runs runs) ++ drop (length (laid (take q.runs runs))) store
      → done (Ok (with_pages q.pages)) stored ≡ layout_of s store
  unfolding layout_of checked
  read_quickly runs stored room q e h i f =
      let p : pieces (min (length store) max_pages) (split s) 0 0 ≡ Ok (with_pages q.pages) = ap (λ (x : ℕ). pieces x (split s) 0 0) (sym e) ∙ i.0 in
      simp (le-ltb max_text (length s) h, p)
      (ap (done (Ok (with_pages q.pages))) (f ∙ ap₂ (λ (t : List ℕ) (i : ℕ). t ++ drop i store) i.2 i.3))

pub ruleset turns = (nothing_kept, long, within, places)
