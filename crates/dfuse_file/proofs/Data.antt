-- The parts of a file that is read lie within it, and are the elements' data; and so are the names. Assumes nothing.
use Rattle.std.proofs.Common.{◌≡◌, ℕ, zero, suc, ◌+◌, ◌-◌, ◌≤◌, List, [], ◌∷◌, ◌++◌, map, Some, slice_get, Result, Ok, Err, length, take, drop, get_or, refl, sym, ap, ap₂, ◌∙◌, arith, length-append, append_assoc}
use Rattle.std.proofs.Math.Seq.{take-append_seam, drop-append-add}
use mathlib.Core.List.{map-append}
use Rattle.ground.specs.Bytes.{Bytes}
use Rattle.papers.specs.Suffix.{four, opening, dw_crc}
use Rattle.papers.specs.Um0391 as paper
use Rattle.papers.specs.Um0391.{element_of, elements_of, sz_target, target_of, targets_of, sz_dfu_se, image_size, image_of, Named}
use Rattle.suffix.proofs.Appendix.{ids_of}
use Rattle.dfuse_file.specs.declared.Element.{Element}
use Rattle.dfuse_file.specs.declared.Target.{Target}
use Rattle.dfuse_file.specs.declared.error.Error.{Error}
use Rattle.dfuse_file.specs.Reading.{Held, dfuse_in}
use Rattle.dfuse_file.specs.Placed.{placed, placed_in, placed_all, placed_target, placed_targets, elements_held, targets_held, element_at, part_of, part_at, name_in, name_of, name_at, target_at}
use Rattle.dfuse_file.proofs.File.{only_the_paper, Paper}

-- the data of all elements, and the names of all targets, in the file's order
abbrev pub data_of : List paper.Element → List (List ℕ)
data_of es = map (λ (e : paper.Element). e.Data) es

abbrev pub all_data : List paper.Target → List (List ℕ)
all_data [] = []
all_data (t ∷ ts) = data_of t.elements ++ all_data ts

abbrev pub data_held : Result Held Error → List (List ℕ)
data_held (Ok h) = all_data h.targets
data_held (Err e) = []

abbrev pub names_held : Result Held Error → List (List ℕ)
names_held (Ok h) = map (λ (t : paper.Target). t.sz_target_name) h.targets
names_held (Err e) = []

abbrev cut_of : List ℕ → Element → List ℕ
cut_of f e = take e.size (drop e.place f)

abbrev named_in : List ℕ → Target → List ℕ
named_in f t = take 255 (drop t.place f)

-- the elements of a target, with bytes before and after them
cut_elements : (index setting : ℕ) (es : List paper.Element) (front back : List ℕ) (at : ℕ) → length front ≡ at
    → map (cut_of (front ++ (elements_of es ++ back))) (placed_in index setting at es) ≡ data_of es
unfolding placed_in elements_of
cut_elements index setting [] front back at h = refl
cut_elements index setting (e ∷ es) front back at h =
    let f : List ℕ = front ++ (elements_of (e ∷ es) ++ back) in
    let rest : List ℕ = elements_of es ++ back in
    let w : elements_of (e ∷ es) ++ back ≡ element_of e ++ rest = append_assoc (element_of e) (elements_of es) back in
    let here : cut_of f (placed index setting at e) ≡ e.Data =
    ap₂ (λ (n : ℕ) (x : List ℕ). take (length e.Data) (drop (n + 8) (front ++ x))) (sym h) w
    ∙ ap (take (length e.Data)) (drop-append-add front (element_of e ++ rest) 8)
    ∙ take-append_seam e.Data rest in
    let n : length (front ++ element_of e) ≡ at + (8 + length e.Data) = omega (arith, length-append front (element_of e), h) in
    let again : f ≡ (front ++ element_of e) ++ rest = ap (λ (x : List ℕ). front ++ x) w ∙ sym (append_assoc front (element_of e) rest) in
    ap₂ (λ (x : List ℕ) (l : List (List ℕ)). x ∷ l) here
    (ap (λ (g : List ℕ). map (cut_of g) (placed_in index setting (at + (8 + length e.Data)) es)) again
    ∙ cut_elements index setting es (front ++ element_of e) back (at + (8 + length e.Data)) n)

-- a target's own bytes, before its elements
abbrev head_of : paper.Target → List ℕ
head_of t =
    sz_target
    ++ (t.b_alternate_setting ∷ (four t.b_target_named
    ++ (t.sz_target_name ++ (four (length (elements_of t.elements)) ++ four (length t.elements)))))

-- the targets, with bytes before and after them
module _ (t : paper.Target) (ts : List paper.Target) (front back : List ℕ) (at : ℕ) (m : Named (t ∷ ts)) (h : length front ≡ at) where
  abbrev rest : List ℕ
  rest = targets_of ts ++ back

  abbrev next : List ℕ
  next = (front ++ head_of t) ++ elements_of t.elements

  head_is : (x : List ℕ) → target_of t ++ x ≡ head_of t ++ (elements_of t.elements ++ x)
  head_is x =
      ap (λ (y : List ℕ). sz_target ++ (t.b_alternate_setting ∷ (four t.b_target_named ++ y)))
      (append_assoc t.sz_target_name (four (length (elements_of t.elements)) ++ (four (length t.elements) ++ elements_of t.elements)) x
      ∙ sym (append_assoc t.sz_target_name (four (length (elements_of t.elements)) ++ four (length t.elements)) (elements_of t.elements ++ x)))

  mine : front ++ (targets_of (t ∷ ts) ++ back) ≡ (front ++ head_of t) ++ (elements_of t.elements ++ rest)
  unfolding targets_of
  mine =
      ap (λ (x : List ℕ). front ++ x) (append_assoc (target_of t) (targets_of ts) back ∙ head_is rest)
      ∙ sym (append_assoc front (head_of t) (elements_of t.elements ++ rest))

  others : front ++ (targets_of (t ∷ ts) ++ back) ≡ next ++ rest
  others = mine ∙ sym (append_assoc (front ++ head_of t) (elements_of t.elements) rest)

  head_long : length (front ++ head_of t) ≡ at + 274
  head_long =
      omega (arith, length-append front (head_of t), length-append t.sz_target_name (four (length (elements_of t.elements)) ++ four (length t.elements)), m.0, h)

  next_long : length next ≡ at + (274 + length (elements_of t.elements))
  next_long = omega (arith, length-append (front ++ head_of t) (elements_of t.elements), head_long)

  the_name : named_in (front ++ (targets_of (t ∷ ts) ++ back)) (placed_target 0 at t) ≡ t.sz_target_name
  unfolding targets_of
  the_name =
      let after : List ℕ = four (length (elements_of t.elements)) ++ (four (length t.elements) ++ elements_of t.elements) in
      let w : drop 11 (targets_of (t ∷ ts) ++ back) ≡ t.sz_target_name ++ ((after ++ targets_of ts) ++ back) =
      ap (λ (x : List ℕ). x ++ back) (append_assoc t.sz_target_name after (targets_of ts)) ∙ append_assoc t.sz_target_name (after ++ targets_of ts) back in
      ap (λ (n : ℕ). take 255 (drop (n + 11) (front ++ (targets_of (t ∷ ts) ++ back)))) (sym h)
      ∙ ap (take 255) (drop-append-add front (targets_of (t ∷ ts) ++ back) 11 ∙ w)
      ∙ ap (λ (n : ℕ). take n (t.sz_target_name ++ ((after ++ targets_of ts) ++ back))) (sym m.0)
      ∙ take-append_seam t.sz_target_name ((after ++ targets_of ts) ++ back)

cut_targets : (index : ℕ) (ts : List paper.Target) (front back : List ℕ) (at : ℕ) → Named ts → length front ≡ at
    → map (cut_of (front ++ (targets_of ts ++ back))) (placed_all index at ts) ≡ all_data ts
unfolding placed_all targets_of
cut_targets index [] front back at m h = refl
cut_targets index (t ∷ ts) front back at m h =
    let f : List ℕ = front ++ (targets_of (t ∷ ts) ++ back) in
    let z : ℕ = at + (274 + length (elements_of t.elements)) in
    let es : List Element = placed_in index t.b_alternate_setting (at + 274) t.elements in
    map-append (cut_of f) es (placed_all (index + 1) z ts)
    ∙ ap₂ (λ (x y : List (List ℕ)). x ++ y)
    (ap (λ (g : List ℕ). map (cut_of g) es) (mine t ts front back at m h)
    ∙ cut_elements index t.b_alternate_setting t.elements (front ++ head_of t) (targets_of ts ++ back) (at + 274) (head_long t ts front back at m h))
    (ap (λ (g : List ℕ). map (cut_of g) (placed_all (index + 1) z ts)) (others t ts front back at m h)
    ∙ cut_targets (index + 1) ts (next t ts front back at m h) back z m.1 (next_long t ts front back at m h))

name_targets : (first : ℕ) (ts : List paper.Target) (front back : List ℕ) (at : ℕ) → Named ts → length front ≡ at
    → map (named_in (front ++ (targets_of ts ++ back))) (placed_targets first at ts) ≡ map (λ (t : paper.Target). t.sz_target_name) ts
unfolding placed_targets targets_of
name_targets first [] front back at m h = refl
name_targets first (t ∷ ts) front back at m h =
    let z : ℕ = at + (274 + length (elements_of t.elements)) in
    ap₂ (λ (x : List ℕ) (l : List (List ℕ)). x ∷ l) (the_name t ts front back at m h)
    (ap (λ (g : List ℕ). map (named_in g) (placed_targets (first + length t.elements) z ts)) (others t ts front back at m h)
    ∙ name_targets (first + length t.elements) ts (next t ts front back at m h) back z m.1 (next_long t ts front back at m h))

-- elements that end by a place
abbrev pub Within : ℕ → List Element → Type 0
Within n [] = Unit
Within n (e ∷ es) = (e.place + e.size ≤ n) × Within n es

within_both : (n : ℕ) (es ds : List Element) → Within n es → Within n ds → Within n (es ++ ds)
within_both n [] ds a b = b
within_both n (e ∷ es) ds a b = (a.0, within_both n es ds a.1 b)

within_elements : (n index setting at : ℕ) (es : List paper.Element) → at + length (elements_of es) ≤ n → Within n (placed_in index setting at es)
unfolding placed_in elements_of
within_elements n index setting at [] h = tt
within_elements n index setting at (e ∷ es) h =
    let l = length-append (element_of e) (elements_of es) in
    (omega (arith, h, l), within_elements n index setting (at + (8 + length e.Data)) es (omega (arith, h, l)))

within_targets : (n index at : ℕ) (ts : List paper.Target) → Named ts → at + length (targets_of ts) ≤ n → Within n (placed_all index at ts)
unfolding placed_all targets_of
within_targets n index at [] m h = tt
within_targets n index at (t ∷ ts) m h =
    let l = length-append (target_of t) (targets_of ts) in
    let k = length-append t.sz_target_name (four (length (elements_of t.elements)) ++ (four (length t.elements) ++ elements_of t.elements)) in
    let z : length (target_of t) ≡ 274 + length (elements_of t.elements) = omega (arith, k, m.0) in
    within_both n (placed_in index t.b_alternate_setting (at + 274) t.elements) (placed_all (index + 1) (at + (274 + length (elements_of t.elements))) ts)
    (within_elements n index t.b_alternate_setting (at + 274) t.elements (omega (arith, h, l, z)))
    (within_targets n (index + 1) (at + (274 + length (elements_of t.elements))) ts m.1 (omega (arith, h, l, z)))

-- all three of a file that the paper lays out
abbrev Hold : List ℕ → Result Held Error → Type 0
Hold f q =
    (map (cut_of f) (elements_held q) ≡ data_held q) × (map (named_in f) (targets_held q) ≡ names_held q) × Within (length f - 16) (elements_held q)

hold : (f : List ℕ) (q : Result Held Error) → Paper f q → Hold f q
hold f (Err e) p = (refl, refl, tt)
hold f (Ok h) p =
    let ts : List paper.Target = h.targets in
    let front : List ℕ = sz_dfu_se ++ (1 ∷ (four (image_size h.counted ts) ++ (length ts ∷ []))) in
    let back : List ℕ = opening (ids_of h.identities) ++ four (dw_crc (image_of h.counted ts) (ids_of h.identities)) in (
      ap (λ (g : List ℕ). map (cut_of g) (placed_all 0 11 ts)) p.0 ∙ cut_targets 0 ts front back 11 p.1 refl,
      ap (λ (g : List ℕ). map (named_in g) (placed_targets 0 11 ts)) p.0 ∙ name_targets 0 ts front back 11 p.1 refl,
      within_targets (length f - 16) 0 11 ts p.1 (omega (arith, ap length p.0, length-append (image_of h.counted ts) back)),
    )

-- an index in a list of parts: what stands there, or nothing past its end
get_part : (f : List ℕ) (es : List Element) (i : ℕ) → part_of f (slice_get es i) ≡ get_or (map (cut_of f) es) i []
get_part f [] i = refl
get_part f (e ∷ es) zero = refl
get_part f (e ∷ es) (suc i) = get_part f es i

get_name : (f : List ℕ) (ts : List Target) (i : ℕ) → name_of f (slice_get ts i) ≡ name_in (get_or (map (named_in f) ts) i [])
unfolding name_in
get_name f [] i = refl
get_name f (t ∷ ts) zero = refl
get_name f (t ∷ ts) (suc i) = get_name f ts i

get_one : (n : ℕ) (es : List Element) (i : ℕ) (e : Element) → Within n es → slice_get es i ≡ Some e → e.place + e.size ≤ n
get_one n [] i e w q = absurd (cc)
get_one n (x ∷ es) zero e w q = let p : x ≡ e = cc in rw (← p) w.0
get_one n (x ∷ es) (suc i) e w q = get_one n es i e w.1 q

module _ (f : List ℕ) (h : Bytes f) (i : ℕ) where
  -- AN ELEMENT'S PART IS ITS DATA; there is none where there is no element
  pub parts_hold_the_data : part_at i f ≡ get_or (data_held (dfuse_in f)) i []
  unfolding part_at element_at
  parts_hold_the_data = get_part f (elements_held (dfuse_in f)) i ∙ ap (λ (l : List (List ℕ)). get_or l i []) (hold f (dfuse_in f) (only_the_paper f h)).0

  -- A TARGET'S NAME IS WHAT STANDS BEFORE THE FIRST ZERO OF THE PAPER'S 255 BYTES
  pub names_are_the_names : name_at i f ≡ name_in (get_or (names_held (dfuse_in f)) i [])
  unfolding name_at target_at
  names_are_the_names =
      get_name f (targets_held (dfuse_in f)) i ∙ ap (λ (l : List (List ℕ)). name_in (get_or l i [])) (hold f (dfuse_in f) (only_the_paper f h)).1

  -- AN ELEMENT'S PART LIES WITHIN THE FILE, before its suffix
  pub parts_lie_within : (e : Element) → element_at i f ≡ Some e → e.place + e.size ≤ length f - 16
  unfolding element_at
  parts_lie_within e w = get_one (length f - 16) (elements_held (dfuse_in f)) i e (hold f (dfuse_in f) (only_the_paper f h)).2 w
