-- The elements of a target, read and laid out: one is the other's inverse. Assumes nothing.
use Rattle.std.proofs.Common.{◌≡◌, ℕ, zero, suc, ◌+◌, ◌-◌, ◌≤◌, List, [], ◌∷◌, ◌++◌, eqb, ltb, length, take, drop, Ok, Err, refl, sym, ap, ap₂, ◌∙◌, arith, length-append, length-drop}
use Rattle.std.proofs.Math.ListN.{take-append-drop}
use Rattle.std.proofs.Math.Seq.{length-take-le, take-append_seam, drop-append_seam, drop-drop, take-add}
use borrow.Author.Tests.{le-ltb, ltb-false, eqb-true}
use Rattle.ground.specs.Bytes.{field, Bytes}
use Rattle.ground.proofs.Numbers.{bytes_drop}
use Rattle.ground.proofs.Tests.{picked}
use Rattle.papers.specs.Suffix.{four}
use Rattle.papers.proofs.Fours.{four_field, field_four, field_drop}
use Rattle.papers.specs.Um0391.{Element, element_of, elements_of}
use Rattle.dfuse_file.specs.Reading.{Got, more, elements_in}

-- a list without elements
pub nothing : (l : List ℕ) → length l ≡ 0 → l ≡ []
nothing [] e = refl
nothing (x ∷ l) e = absurd (omega arith)

-- WHAT IS LAID OUT IS READ ..
more_ok : {A : Type 0} (x : A) {g : Got A} {xs : List A} → g ≡ Ok xs → more x g ≡ Ok (x ∷ xs)
more_ok x e = ap (more x) e

pub reads_elements : (es : List Element) (at : ℕ) → elements_in (length es) at (elements_of es) ≡ Ok es
unfolding elements_in elements_of
reads_elements [] at = refl
reads_elements (e ∷ es) at =
    let s : List ℕ = element_of e ++ elements_of es in
    let n : length s ≡ 8 + length e.Data + length (elements_of es) = omega (arith, length-append e.Data (elements_of es)) in
    let a : field 0 4 s ≡ e.dw_element_address = field_four e.dw_element_address (four (length e.Data) ++ (e.Data ++ elements_of es)) in
    let z : field 4 4 s ≡ length e.Data = field_drop 4 s ∙ field_four (length e.Data) (e.Data ++ elements_of es) in
    let d : take (length e.Data) (drop 8 s) ≡ e.Data = take-append_seam e.Data (elements_of es) in
    let r : drop (8 + length e.Data) s ≡ elements_of es = sym (drop-drop (length e.Data) 8 s) ∙ drop-append_seam e.Data (elements_of es) in
    simp (le-ltb (length s) 8 (omega (arith, n)), z, le-ltb (length s - 8) (length e.Data) (omega (arith, n)), a, d, r)
    (more_ok e (reads_elements es (at + (8 + length e.Data))))

-- .. AND NOTHING ELSE IS
-- what it is to have been read: the list laid out is the bytes, and it has as many as were asked for
abbrev pub Laid : ℕ → List ℕ → Got Element → Type 0
Laid n s (Ok es) = (elements_of es ≡ s) × (length es ≡ n)
Laid n s (Err r) = Unit

module _ (n : ℕ) (s : List ℕ) (h : Bytes s) (m : 8 ≤ length s) (k : field 4 4 s ≤ length s - 8) where
  abbrev z : ℕ
  z = field 4 4 s

  abbrev one : Element
  one = record { dw_element_address = field 0 4 s; Data = take z (drop 8 s) }

  long : length (take z (drop 8 s)) ≡ z
  long = length-take-le z (drop 8 s) (omega (arith, k, length-drop 8 s))

  first : element_of one ≡ take (8 + z) s
  first =
      let w : 4 + (4 + z) ≡ 8 + z = omega arith in
      ap₂ (λ (x : List ℕ) (l : ℕ). x ++ (four l ++ take z (drop 8 s))) (four_field s h (omega (arith, m))) long
      ∙ ap (λ (x : List ℕ). take 4 s ++ (x ++ take z (drop 8 s))) (ap four (field_drop 4 s) ∙ four_field (drop 4 s) (bytes_drop 4 s h) (omega (arith, m, length-drop 4 s)))
      ∙ sym (ap (λ (j : ℕ). take j s) (sym w)
      ∙ take-add 4 (4 + z) s
      ∙ ap (λ (x : List ℕ). take 4 s ++ x) (take-add 4 z (drop 4 s) ∙ ap (λ (x : List ℕ). take 4 (drop 4 s) ++ take z x) (drop-drop 4 4 s)))

  grows : (g : Got Element) → Laid n (drop (8 + z) s) g → Laid (suc n) s (more one g)
  unfolding elements_of
  grows (Ok es) l = (ap₂ (λ (x y : List ℕ). x ++ y) first l.0 ∙ take-append-drop (8 + z) s, ap suc l.1)
  grows (Err r) l = tt

pub only_elements : (n at : ℕ) (s : List ℕ) → Bytes s → Laid n s (elements_in n at s)
unfolding elements_in elements_of
only_elements zero at s h =
    picked (Laid zero s) (eqb (length s) 0) _ _ (λ e. (sym (nothing s (eqb-true (length s) 0 e)), refl)) (λ e. tt)
only_elements (suc n) at s h =
    picked (Laid (suc n) s) (ltb (length s) 8) _ _ (λ e. tt)
    (λ e. picked (Laid (suc n) s) (ltb (length s - 8) (field 4 4 s)) _ _ (λ f. tt)
    (λ f. grows n s h (ltb-false (length s) 8 e) (ltb-false (length s - 8) (field 4 4 s) f) (elements_in n (at + (8 + field 4 4 s)) (drop (8 + field 4 4 s) s))
    (only_elements n (at + (8 + field 4 4 s)) (drop (8 + field 4 4 s) s) (bytes_drop (8 + field 4 4 s) s h))))
