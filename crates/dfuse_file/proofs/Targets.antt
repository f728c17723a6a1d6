-- The targets before a suffix, read and laid out: one is the other's inverse. Assumes nothing.
use Rattle.std.proofs.Common.{◌≡◌, ℕ, zero, suc, ◌+◌, ◌-◌, ◌≤◌, List, [], ◌∷◌, ◌++◌, true, eqb, ltb, length, take, drop, get_or, Ok, Err, refl, sym, ap, ap₂, ◌∙◌, arith, length-append, length-drop, append_assoc}
use Rattle.std.proofs.Math.ListN.{take-append-drop}
use Rattle.std.proofs.Math.Seq.{length-take-le, take-append_seam, drop-append_seam, drop-drop, drop-cons, take_at, drop_at}
use borrow.Author.Tests.{le-ltb, ltb-false, eqb-true}
use Rattle.ground.specs.Bytes.{field, prefix, Bytes}
use Rattle.ground.proofs.Numbers.{bytes_drop, bytes_take}
use Rattle.ground.proofs.Prefix.{starts, leads}
use Rattle.ground.proofs.Tests.{picked}
use Rattle.papers.specs.Suffix.{four}
use Rattle.papers.proofs.Fours.{four_field, field_four, field_drop}
use Rattle.papers.specs.Um0391.{Element, Target, elements_of, sz_target, target_of, targets_of, Named}
use Rattle.dfuse_file.specs.Reading.{Got, more, joined, elements_in, targets_in}
use Rattle.dfuse_file.proofs.Elements.{nothing, reads_elements, only_elements, Laid}

-- WHAT IS LAID OUT IS READ ..
module _ (t : Target) (r : List ℕ) (named : length t.sz_target_name ≡ 255) where
  abbrev es : List Element
  es = t.elements

  abbrev s : List ℕ
  s = target_of t ++ r

  -- after the name
  abbrev rest : List ℕ
  rest = four (length (elements_of es)) ++ (four (length es) ++ (elements_of es ++ r))

  from_name : drop 11 s ≡ t.sz_target_name ++ rest
  from_name = append_assoc t.sz_target_name (four (length (elements_of es)) ++ (four (length es) ++ elements_of es)) r

  past_name : drop 266 s ≡ rest
  past_name = sym (drop-drop 255 11 s) ∙ ap (drop 255) from_name ∙ drop_at t.sz_target_name rest 255 named

  the_name : take 255 (drop 11 s) ≡ t.sz_target_name
  the_name = ap (take 255) from_name ∙ take_at t.sz_target_name rest 255 named

  the_flag : field 7 4 s ≡ t.b_target_named
  the_flag = field_drop 7 s ∙ field_four t.b_target_named (drop 11 s)

  the_size : field 266 4 s ≡ length (elements_of es)
  the_size = field_drop 266 s ∙ ap (field 0 4) past_name ∙ field_four (length (elements_of es)) (four (length es) ++ (elements_of es ++ r))

  past_size : drop 270 s ≡ four (length es) ++ (elements_of es ++ r)
  past_size = sym (drop-drop 4 266 s) ∙ ap (drop 4) past_name

  the_count : field 270 4 s ≡ length es
  the_count = field_drop 270 s ∙ ap (field 0 4) past_size ∙ field_four (length es) (elements_of es ++ r)

  past_head : drop 274 s ≡ elements_of es ++ r
  past_head = sym (drop-drop 4 270 s) ∙ ap (drop 4) past_size

  the_elements : take (length (elements_of es)) (drop 274 s) ≡ elements_of es
  the_elements = ap (take (length (elements_of es))) past_head ∙ take-append_seam (elements_of es) r

  past_all : drop (274 + length (elements_of es)) s ≡ r
  past_all = sym (drop-drop (length (elements_of es)) 274 s) ∙ ap (drop (length (elements_of es))) past_head ∙ drop-append_seam (elements_of es) r

  long : length s ≡ 274 + length (elements_of es) + length r
  long = omega (arith, length-drop 274 s, ap length past_head, length-append (elements_of es) r, from_name_long)
    where
      from_name_long : 274 ≤ length s
      from_name_long = omega (arith, ap length from_name, length-append t.sz_target_name rest, named)

pub reads_targets : (ts : List Target) (at : ℕ) → Named ts → targets_in (length ts) at (targets_of ts) ≡ Ok ts
unfolding targets_in targets_of
reads_targets [] at h = refl
reads_targets (t ∷ ts) at h =
    let r : List ℕ = targets_of ts in
    let z : ℕ = length (elements_of t.elements) in
    simp (
      le-ltb (length (s t r h.0)) 274 (omega (arith, long t r h.0)),
      leads sz_target (drop 6 (s t r h.0)),
      the_size t r h.0,
      le-ltb (length (s t r h.0) - 274) z (omega (arith, long t r h.0)),
      the_count t r h.0,
      the_elements t r h.0,
      past_all t r h.0,
      reads_elements t.elements (at + 274),
      reads_targets ts (at + (274 + z)) h.1,
      the_name t r h.0,
      the_flag t r h.0,
    )

-- .. AND NOTHING ELSE IS
abbrev pub LaidOut : ℕ → List ℕ → Got Target → Type 0
LaidOut n s (Ok ts) = (targets_of ts ≡ s) × (length ts ≡ n) × Named ts
LaidOut n s (Err r) = Unit

-- the next bytes from a place on, and what is after them
peel : (k n : ℕ) (s : List ℕ) → take n (drop k s) ++ drop (k + n) s ≡ drop k s
peel k n s = ap (λ (l : List ℕ). take n (drop k s) ++ l) (sym (drop-drop n k s)) ∙ take-append-drop n (drop k s)

module _ (n : ℕ) (s : List ℕ) (h : Bytes s) (m : 274 ≤ length s) (k : field 266 4 s ≤ length s - 274) (g : prefix sz_target s ≡ true) where
  abbrev z : ℕ
  z = field 266 4 s

  abbrev one : List Element → Target
  one es = record { b_alternate_setting = get_or s 6 0; b_target_named = field 7 4 s; sz_target_name = take 255 (drop 11 s); elements = es }

  -- four bytes at a place
  bytes_at : (i : ℕ) → i + 4 ≤ 274 → four (field i 4 s) ++ drop (i + 4) s ≡ drop i s
  bytes_at i e =
      ap (λ (l : List ℕ). l ++ drop (i + 4) s) (ap four (field_drop i s) ∙ four_field (drop i s) (bytes_drop i s h) (omega (arith, m, length-drop i s)))
      ∙ peel i 4 s

  module _ (es : List Element) (l : Laid (field 270 4 s) (take z (drop 274 s)) (Ok es)) where
    size_is : length (elements_of es) ≡ z
    size_is = ap length l.0 ∙ length-take-le z (drop 274 s) (omega (arith, k, length-drop 274 s))

    named : length (take 255 (drop 11 s)) ≡ 255
    named = length-take-le 255 (drop 11 s) (omega (arith, m, length-drop 11 s))

    body : four (length (elements_of es)) ++ (four (length es) ++ (elements_of es ++ drop (274 + z) s)) ≡ drop 266 s
    body =
        ap₂ (λ (a b : ℕ). four a ++ (four b ++ (elements_of es ++ drop (274 + z) s))) size_is l.1
        ∙ ap (λ (x : List ℕ). four z ++ (four (field 270 4 s) ++ (x ++ drop (274 + z) s))) l.0
        ∙ ap (λ (x : List ℕ). four z ++ (four (field 270 4 s) ++ x)) (peel 274 z s)
        ∙ ap (λ (x : List ℕ). four z ++ x) (bytes_at 270 (omega arith))
        ∙ bytes_at 266 (omega arith)

    whole : target_of (one es) ++ drop (274 + z) s ≡ s
    whole =
        ap (λ (x : List ℕ). sz_target ++ (get_or s 6 0 ∷ (four (field 7 4 s) ++ x)))
        (append_assoc (take 255 (drop 11 s)) (four (length (elements_of es)) ++ (four (length es) ++ elements_of es)) (drop (274 + z) s)
        ∙ ap (λ (x : List ℕ). take 255 (drop 11 s) ++ x) body
        ∙ peel 11 255 s)
        ∙ ap (λ (x : List ℕ). sz_target ++ (get_or s 6 0 ∷ x)) (bytes_at 7 (omega arith))
        ∙ ap (λ (x : List ℕ). sz_target ++ x) (sym (drop-cons s 6 0 (omega (arith, m))))
        ∙ ap (λ (x : List ℕ). x ++ drop 6 s) (sym (starts sz_target s g))
        ∙ take-append-drop 6 s

    grows : (q : Got Target) → LaidOut n (drop (274 + z) s) q → LaidOut (suc n) s (more (one es) q)
    unfolding targets_of
    grows (Ok ts) o = (ap (λ (x : List ℕ). target_of (one es) ++ x) o.0 ∙ whole, ap suc o.1, (named, o.2))
    grows (Err r) o = tt

  joins : (e : Got Element) (q : Got Target) → Laid (field 270 4 s) (take z (drop 274 s)) e → LaidOut n (drop (274 + z) s) q → LaidOut (suc n) s (joined s e q)
  joins (Ok es) q l o = grows es l q o
  joins (Err r) q l o = tt

pub only_targets : (n at : ℕ) (s : List ℕ) → Bytes s → LaidOut n s (targets_in n at s)
unfolding targets_in targets_of
only_targets zero at s h =
    picked (LaidOut zero s) (eqb (length s) 0) _ _ (λ e. (sym (nothing s (eqb-true (length s) 0 e)), refl, tt)) (λ e. tt)
only_targets (suc n) at s h =
    let z : ℕ = field 266 4 s in
    picked (LaidOut (suc n) s) (ltb (length s) 274) _ _ (λ e. tt)
    (λ e. picked (LaidOut (suc n) s) (prefix sz_target s) _ _
    (λ g. picked (LaidOut (suc n) s) (ltb (length s - 274) z) _ _ (λ f. tt)
    (λ f. joins n s h (ltb-false (length s) 274 e) (ltb-false (length s - 274) z f) g (elements_in (field 270 4 s) (at + 274) (take z (drop 274 s)))
    (targets_in n (at + (274 + z)) (drop (274 + z) s))
    (only_elements (field 270 4 s) (at + 274) (take z (drop 274 s)) (bytes_take z (drop 274 s) (bytes_drop 274 s h)))
    (only_targets n (at + (274 + z)) (drop (274 + z) s) (bytes_drop (274 + z) s h))))
    (λ g. tt))
