-- How a turn of the layout's reader goes, from a place a with n pages so far: a law for each way out, and one for going on. Assumes nothing.
use Rattle.std.proofs.Common.{◌≡◌, ℕ, Result, Ok, Err, suc, ◌+◌, ◌-◌, ◌<◌, ◌≤◌, false, eqb, List, length, get_or, take, drop, sym, refl, ap, ◌∙◌, arith, length-drop, drop-drop, le-ltb, lt-ltb, eq-eqb, ne_eqb}
use Rattle.memory_layout.specs.declared.Error.{Error}
use Rattle.memory_layout.specs.declared.Run.{Run}
use Rattle.memory_layout.specs.Layout.{up_to, end_of, split, with_pages, starred, piece_of, pieces}
use Rattle.memory_layout.proofs.Scan.{found, stop_at, hidden, seen, lead, one_piece, more_pieces, some_pieces}

-- the piece at a place is the part up to the comma
pub part : (s : List ℕ) (a e : ℕ) → e ≡ end_of 44 s a → take (e - a) (drop a s) ≡ up_to 44 (drop a s)
unfolding end_of
part s a e q = let k : e - a ≡ length (up_to 44 (drop a s)) = omega arith in ap (λ (n : ℕ). take n (drop a s)) k ∙ lead 44 (drop a s)

-- a piece whose first star stands at i
pub judged : (s : List ℕ) (a i : ℕ) → end_of 42 s a ≡ i → end_of 42 s a < end_of 44 s a
    → piece_of (up_to 44 (drop a s)) a ≡ starred (take (i - a) (up_to 44 (drop a s))) (drop (i - a + 1) (up_to 44 (drop a s))) a
unfolding piece_of end_of
judged s a i e h =
    let t = drop a s in
    let k : length (up_to 42 t) ≡ i - a = omega arith in
    let l : length (up_to 42 (up_to 44 t)) ≡ i - a = ap length (seen 42 44 t (omega arith)) ∙ k in
    let u : up_to 42 (up_to 44 t) ≡ take (i - a) (up_to 44 t) = sym (lead 42 (up_to 44 t)) ∙ ap (λ (n : ℕ). take n (up_to 44 t)) l in
    let d : eqb (length (up_to 42 (up_to 44 t))) (length (up_to 44 t)) ≡ false = ne_eqb _ _ (λ (q : length (up_to 42 (up_to 44 t)) ≡ length (up_to 44 t)). omega arith) in
    simp d (ap (λ (n : ℕ). starred (up_to 42 (up_to 44 t)) (drop (n + 1) (up_to 44 t)) a) l ∙ ap (λ (c : List ℕ). starred c (drop (i - a + 1) (up_to 44 t)) a) u)

-- what is read of the part up to e, with its first star at i, is the piece at a
pub here : (s : List ℕ) (a i e : ℕ) (r : Result Run Error) → end_of 42 s a ≡ i → end_of 42 s a < end_of 44 s a → e ≡ end_of 44 s a
    → r ≡ starred (take (i - a) (take (e - a) (drop a s))) (drop (i - a + 1) (take (e - a) (drop a s))) a
    → piece_of (up_to 44 (drop a s)) a ≡ r
here s a i e r p h q g =
    judged s a i p h ∙ ap (λ (t : List ℕ). starred (take (i - a) t) (drop (i - a + 1) t) a) (sym (part s a e q)) ∙ sym g

-- the same, where the star was found from a on with no comma before it
pub met : (s : List ℕ) (a i e : ℕ) (r : Result Run Error) → i < length s → end_of 44 s a ≡ end_of 44 s i → end_of 42 s a ≡ end_of 42 s i → get_or s i 0 ≡ 42 → e ≡ end_of 44 s i
    → r ≡ starred (take (i - a) (take (e - a) (drop a s))) (drop (i - a + 1) (take (e - a) (drop a s))) a
    → piece_of (up_to 44 (drop a s)) a ≡ r
met s a i e r h p q b k g = here s a i e r (q ∙ stop_at 42 s i h b) (found s a i h p q b) (k ∙ sym p) g

module _ (room : ℕ) (s : List ℕ) (a n : ℕ) where
  pub no_star : (i : ℕ) → end_of 44 s a ≡ i → i ≤ end_of 42 s a → pieces room (split (drop a s)) a n ≡ Err (Error.InvalidPageFormat a (i - a))
  unfolding pieces piece_of end_of
  no_star i e h =
      let p = some_pieces (drop a s) in
      let k : length (up_to 44 (drop a s)) ≡ i - a = omega arith in
      rw (p.1, hidden 42 44 (drop a s) (omega arith)) (simp (k, eq-eqb (i - a) (i - a) refl))

  pub fault : (r : Error) → piece_of (up_to 44 (drop a s)) a ≡ Err r → pieces room (split (drop a s)) a n ≡ Err r
  unfolding pieces
  fault r e = rw (some_pieces (drop a s)).1 (simp e)

  module _ (run : Run) (is : piece_of (up_to 44 (drop a s)) a ≡ Ok run) where
    pub full : room < n + run.count → pieces room (split (drop a s)) a n ≡ Err Error.TooManyPages
    unfolding pieces
    full h = rw (some_pieces (drop a s)).1 (simp (is, lt-ltb room (n + run.count) h))

    module _ (h : n + run.count ≤ room) where
      pub last : a ≤ length s → end_of 44 s a ≡ length s → pieces room (split (drop a s)) a n ≡ Ok (with_pages (n + run.count))
      unfolding pieces end_of
      last l e = rw (one_piece (drop a s) (omega (arith, length-drop a s))) (simp (is, le-ltb room (n + run.count) h))

      pub onward : (e : ℕ) → e ≡ end_of 44 s a → e < length s
          → pieces room (split (drop a s)) a n ≡ pieces room (split (drop (e + 1) s)) (e + 1) (n + run.count)
      unfolding pieces end_of
      onward e q l =
          let j : a + suc (length (up_to 44 (drop a s))) ≡ e + 1 = omega arith in
          let d : drop (suc (length (up_to 44 (drop a s)))) (drop a s) ≡ drop (e + 1) s = drop-drop _ a s ∙ ap (λ (m : ℕ). drop m s) j in
          let o : a + length (up_to 44 (drop a s)) + 1 ≡ e + 1 = omega arith in
          rw (more_pieces (drop a s) (omega (arith, length-drop a s))) (simp (is, le-ltb room (n + run.count) h, d, o))
