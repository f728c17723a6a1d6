-- Laws of `up_to` and `adds`: how a piece is gone through. Assumes nothing.
use Prim.Native.Nat.{ℕ, zero, suc, min, ◌+◌, ◌-◌, ◌<◌, ◌≤◌}
use mathlib.Core.Path.{◌≡◌, refl, sym, ap, ◌∙◌}
use mathlib.Core.Bool.{Bool, true, false}
use mathlib.Core.List.{List, [], ◌∷◌, ◌++◌, append_assoc}
use native.Mathlib.Omega.{arith}
use lib.Dec.{eqb, ltb}
use lib.ListN.{length, take, drop, set, length-take}
use lib.Seq.{take-take}
use borrow.Author.Tests.{ltb-false, lt-ltb, le-ltb}
use Rattle.std.proofs.Common.{◌⊎◌, inl, inr, ⊎_elim, length-drop, length-set}
use Rattle.std.specs.List.{position_or_len}
use Rattle.std.specs.Option.{unwrap_or}
use Rattle.std.specs.Prelude.{cond, position, Some, None}
use Rattle.std.proofs.lemmas.List.Edits.{sets, sets-eq}
use Rattle.std.proofs.lemmas.List.Recursion.{is_position_or_len}
use Rattle.ground.specs.Pick.{pick}
use Rattle.ground.proofs.Tests.{picked, lt_or_ge}
use Rattle.ground.proofs.Lists.{onwards, take_min, drop_min}
use Rattle.cases.specs.declared.lines.Place.{Place}
use Rattle.cases.specs.Output.{Filled, filled}
use Rattle.cases.specs.Lines.{left_of, up_to, adds, Passed, passes, stopped, passed_of}

-- a part that was cut at both ends is what is left
pub left_is : (input : List ℕ) (from end : ℕ)
    → take (min (end - from) (length (take (length input - min from (length input)) (drop (min from (length input)) input)))) (take (length input - min from (length input)) (drop (min from (length input)) input))
    ≡ left_of input from end
unfolding left_of
left_is input from end = rw (onwards (min from (length input)) input, take_min (end - from), drop_min from input)

-- what there is no room for, or no byte of, leaves the line as it is
pub added_none : (l line : List ℕ) (n : ℕ) → min (length l) (length line - n) ≡ 0 → adds (filled line n) l ≡ filled line n
unfolding adds
added_none [] line n e = refl
added_none (b ∷ bs) line n e = simp (le-ltb n (length line) (omega (arith, e)))

-- as many bytes as there is room for join the line, in one piece
pub added : (l line : List ℕ) (n r : ℕ) → length line ≡ n + r → adds (filled line n) l ≡ filled (sets line n (take r l)) (n + length (take r l))
unfolding adds
added [] line n zero e = ap (filled line) (omega arith)
added [] line n (suc r) e = ap (filled line) (omega arith)
added (b ∷ bs) line n zero e = simp (le-ltb n (length line) (omega (arith, e))) (ap (filled line) (omega arith))
added (b ∷ bs) line n (suc r) e =
    let next : n + 1 ≡ suc n = omega arith in
    let fits : length (set line n b) ≡ suc n + r = length-set line n b ∙ omega (arith, e) in
    simp (lt-ltb n (length line) (omega (arith, e)))
    (ap (λ (k : ℕ). adds (filled (set line n b) k) bs) next ∙ added bs (set line n b) (suc n) r fits ∙ ap (filled (sets line n (b ∷ take r bs))) (omega arith))

-- the same of n bytes, as the code has them: none, or a part that is copied
pub joined_none : (l line : List ℕ) (len n : ℕ) → n ≡ min (length l) (length line - len) → n ≤ 0 → filled line (len + n) ≡ adds (filled line len) l
joined_none l line len n e h = ap (filled line) (omega (arith, h)) ∙ sym (added_none l line len (sym e ∙ omega (arith, h)))

pub joined : (l line : List ℕ) (len n : ℕ) → n ≡ min (length l) (length line - len) → 0 < n → filled (take len line ++ (take n l ++ drop (len + n) line)) (len + n) ≡ adds (filled line len) l
joined l line len n e h =
    let room : ℕ = length line - len in
    let some : n ≡ min room (length l) = omega (arith, e) in
    let part : take n l ≡ take room l = ap (λ (k : ℕ). take k l) some ∙ take_min room l in
    let long : length (take room l) ≡ n = length-take room l ∙ sym some in
    let law : adds (filled line len) l ≡ filled (sets line len (take room l)) (len + length (take room l)) = added l line len room (omega (arith, e, h)) in
    let whole : sets line len (take room l) ≡ take len line ++ take room l ++ drop (len + length (take room l)) line = sets-eq (take room l) line len (omega (arith, long, e, h)) in
    let apart : take len line ++ take n l ++ drop (len + n) line ≡ take len line ++ (take n l ++ drop (len + n) line) = append_assoc (take len line) (take n l) (drop (len + n) line) in
    sym (law ∙ ap (λ (x : List ℕ). filled x (len + length (take room l))) whole ∙ ap (λ (k : ℕ). filled (take len line ++ take room l ++ drop (len + k) line) (len + k)) long ∙ ap (λ (x : List ℕ). filled (take len line ++ x ++ drop (len + n) line) (len + n)) (sym part) ∙ ap (λ (x : List ℕ). filled x (len + n)) apart)

-- what stands before the newline is what is left up to it
before : (l : List ℕ) → length (up_to l) ≤ length l
unfolding up_to
before [] = omega arith
before (c ∷ cs) = picked (λ (t : List ℕ). length t ≤ suc (length cs)) (eqb c 10) [] (c ∷ up_to cs) (λ _. omega arith) (λ _. omega (arith, before cs))

-- and what the library finds
both : (t : Bool) (n : ℕ) (x : ℕ) (xs : List ℕ) → length xs ≡ n → length (pick t [] (x ∷ xs)) ≡ cond t 0 (1 + n)
both true n x xs e = refl
both false n x xs e = omega arith

step : (x : ℕ) (xs : List ℕ) → length (up_to (x ∷ xs)) ≡ cond (eqb x 10) 0 (1 + length (up_to xs))
unfolding up_to
step x xs = both (eqb x 10) (length (up_to xs)) x (up_to xs) refl

none : length (up_to []) ≡ 0
unfolding up_to
none = refl

first : (l : List ℕ) → length (up_to l) ≡ position_or_len (λ b. eqb b 10) l
first l = is_position_or_len (λ (s : List ℕ). length (up_to s)) (λ b. eqb b 10) none step l

pub found : (l : List ℕ) → unwrap_or (position (λ b. eqb b 10) l) (length l) ≡ length (up_to l)
found l = go (ltb n (length l)) refl
  where
    n : ℕ
    n = position_or_len (λ b. eqb b 10) l

    go : (t : Bool) → ltb n (length l) ≡ t → unwrap_or (cond t (Some n) None) (length l) ≡ length (up_to l)
    go true e = sym (first l)
    go false e = omega (arith, before l, first l, ltb-false n (length l) e)

front : (l : List ℕ) → take (length (up_to l)) l ≡ up_to l
unfolding up_to
front [] = refl
front (c ∷ cs) = picked (λ (t : List ℕ). take (length t) (c ∷ cs) ≡ t) (eqb c 10) [] (c ∷ up_to cs) (λ _. refl) (λ _. ap (λ (t : List ℕ). c ∷ t) (front cs))

pub cut : (input : List ℕ) (from end : ℕ) → left_of input from (from + length (up_to (left_of input from end))) ≡ up_to (left_of input from end)
unfolding left_of
cut input from end =
    let l = take (end - from) (drop from input) in
    let k = length (up_to l) in
    let e : from + k - from ≡ k = omega arith in
    let h : k ≤ end - from = omega (arith, before l, length-take (end - from) (drop from input)) in
    ap (λ (n : ℕ). take n (drop from input)) e ∙ sym (take-take k (end - from) (drop from input) h) ∙ front l

-- a newline stands within the piece
pub within : (input : List ℕ) (from end : ℕ) → (from + length (up_to (left_of input from end)) ≤ length input) ⊎ (length (up_to (left_of input from end)) ≡ 0)
unfolding left_of
within input from end =
    let l = take (end - from) (drop from input) in
    ⊎_elim (λ h. inl (omega (arith, before l, length-take (end - from) (drop from input), length-drop from input)))
    (λ h. inr (omega (arith, before l, length-take (end - from) (drop from input), length-drop from input))) (lt_or_ge from (length input))

-- a turn: where it stopped, and what the line is then
pub settled : (p : Place) (input line : List ℕ) (stop : ℕ) (f : Filled) → stop ≡ p.from + length (up_to (left_of input p.from p.end))
    → f ≡ adds (filled line p.len) (left_of input p.from stop) → stopped p stop f ≡ passed_of p input line
unfolding passed_of
settled p input line stop f e g =
    ap (stopped p stop) (g ∙ ap (λ (k : ℕ). adds (filled line p.len) (left_of input p.from k)) e ∙ ap (adds (filled line p.len)) (cut input p.from p.end))
    ∙ ap (λ (k : ℕ). stopped p k (adds (filled line p.len) (up_to (left_of input p.from p.end)))) e

pub at_newline : (p : Place) (stop : ℕ) (f : Filled) → stop < p.end
    → passes (record { from = stop + 1; end = p.end; len = f.held; whole = true; turns = p.turns }) f.bytes ≡ stopped p stop f
at_newline p stop f h = simp (lt-ltb stop p.end h)

pub at_last : (p : Place) (stop : ℕ) (f : Filled) → p.end ≤ stop
    → passes (record { from = p.end; end = p.end; len = f.held; whole = false; turns = p.turns }) f.bytes ≡ stopped p stop f
at_last p stop f h = simp (le-ltb stop p.end h)

-- it leaves the turns alone
pub turns_kept : (p r : Place) (input line bytes : List ℕ) → passes r bytes ≡ passed_of p input line → r.turns ≡ p.turns
unfolding passed_of
turns_kept p r input line bytes e = ap (λ (t : Passed). t.place.turns) e ∙ both (ltb (p.from + length (up_to (left_of input p.from p.end))) p.end) _ _ refl refl
  where
    both : (t : Bool) (x y : Place) → x.turns ≡ p.turns → y.turns ≡ p.turns → (pick t x y).turns ≡ p.turns
    both true x y a b = a
    both false x y a b = b
