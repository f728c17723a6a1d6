-- The interface strings that ST's paper prints are read as it says: the address, and the pages in order. Assumes nothing.
use Rattle.std.proofs.Common.{◌≡◌, ℕ, zero, suc, ◌+◌, ◌*◌, ◌/◌, ◌%◌, ◌^◌, ◌<◌, ◌≤◌, Bool, true, false, ltb, List, [], ◌∷◌, ◌++◌, length, drop, Some, Ok, refl, sym, ap, ◌∙◌, append-nil, append_assoc, mul-le-mul_left, pow-suc, arith, length-append, le-ltb, ne_eqb}
use native.Mathlib.Nat.{pow-zero, mod-lt, div-le_self, div-add-mod', div-lt_iff_lt-mul}
use lib.ListN.{length-replicate}
use lib.Seq.{append_snoc}
use borrow.Author.Tests.{lt-leb}
use Rattle.std.proofs.lemmas.Bool.Decides.{nat_tests}
use Rattle.ground.specs.Bytes.{prefix}
use Rattle.ground.proofs.Lists.{Without, without_both}
use Rattle.numeral.specs.Number.{digit_of, read_on, number_of}
use Rattle.numeral.proofs.Reading.{unsigned}
use Rattle.memory_layout.specs.Layout.{max_pages, max_text, split, factor_of, run_of, piece_of}
use Rattle.memory_layout.proofs.Printed.{alone, first, piece, Announces, nothing, more, accepts}
use Rattle.protocol.specs.Interface.{whole, cut, rsplit, address_of, with_protocol, done, dfuse_of, interface_of}
use Rattle.papers.specs.Um0424.{
  either,
  glyph,
  digits,
  decimal,
  Multiplier,
  bytes,
  kilo,
  mega,
  letter,
  times,
  Region,
  region,
  regions,
  string,
  pages,
  all_pages,
  Printable,
}
use Rattle.protocol.specs.declared.DfuProtocol.{DfuProtocol}

-- a glyph is read as its digit, and is none of the bytes between numbers
glyph_reads : (d : ℕ) → d < 16 → digit_of (glyph d) ≡ Some d
glyph_reads d h = grind (arith, nat_tests)

glyph_least : (t : Bool) (d : ℕ) → 48 ≤ either t (48 + d) (55 + d)
glyph_least true d = omega arith
glyph_least false d = omega arith

-- digits: how many, which bytes are none of them, and what they are read as
digits_length : (b w n : ℕ) → length (digits b w n) ≡ w
unfolding digits
digits_length b zero n = refl
digits_length b (suc w) n = simp (length-append, digits_length b w (n / b)) (omega arith)

digits_without : (x b w n : ℕ) → x < 48 → Without x (digits b w n)
unfolding digits
digits_without x b zero n h = tt
digits_without x b (suc w) n h =
    without_both x (digits b w (n / b)) (glyph (n % b) ∷ []) (digits_without x b w (n / b) h)
    (λ (e : glyph (n % b) ≡ x). omega (arith, glyph_least (ltb (n % b) 10) (n % b)), tt)

module _ (b : ℕ) (low : 0 < b) (high : b ≤ 16) where
  digit_on : (c d v : ℕ) (rest : List ℕ) → digit_of c ≡ Some d → d < b → v * b + d ≤ 4294967295 → read_on b (c ∷ rest) v ≡ read_on b rest (v * b + d)
  unfolding read_on
  digit_on c d v rest g m h = simp (g, lt-leb b d m, le-ltb 4294967295 (v * b + d) h)

  digits_on : (w n : ℕ) (rest : List ℕ) → n < b ^ w → n < 4294967296 → read_on b (digits b w n ++ rest) 0 ≡ read_on b rest n
  unfolding digits
  digits_on zero n rest h k = ap (read_on b rest) (omega (arith, pow-zero b))
  digits_on (suc w) n rest h k =
      let q : n / b * b + n % b ≡ n = div-add-mod' n b in
      let m : n % b < b = mod-lt n low in
      let g : digit_of (glyph (n % b)) ≡ Some (n % b) = glyph_reads (n % b) (omega arith) in
      rw append_snoc
      (digits_on w (n / b) (glyph (n % b) ∷ rest) ((div-lt_iff_lt-mul low).1 (rw pow-suc at h)) (omega (arith, div-le_self n b))
      ∙ digit_on (glyph (n % b)) (n % b) (n / b) rest g m (omega arith)
      ∙ ap (read_on b rest) q)

  digits_read : (w n : ℕ) → 0 < w → n < b ^ w → n < 4294967296 → number_of b (digits b w n) ≡ Some n
  unfolding read_on
  digits_read w n p h k =
      unsigned b (digits b w n) (omega (arith, digits_length b w n)) (digits_without 43 b w n (omega arith))
      ∙ sym (ap (λ (s : List ℕ). read_on b s 0) (append-nil (digits b w n))) ∙ digits_on w n [] h k

-- the cut at the last slash
slashless : (s : List ℕ) → Without 47 s → rsplit s ≡ whole
unfolding rsplit
slashless [] f = refl
slashless (c ∷ s) f = simp (slashless s f.1, ne_eqb c 47 f.0)

cut_last : (s t : List ℕ) → Without 47 t → rsplit (s ++ (47 ∷ t)) ≡ cut s t
unfolding rsplit
cut_last [] t f = simp (slashless t f)
cut_last (c ∷ s) t f = simp (cut_last s t f)

-- what a unit multiplies by
factor : (u : Multiplier) → factor_of (letter u) ≡ Some (times u)
factor bytes = refl
factor kilo = refl
factor mega = refl

unit_least : (u : Multiplier) → (48 ≤ letter u) × (1 ≤ times u)
unit_least bytes = (omega arith, omega arith)
unit_least kilo = (omega arith, omega arith)
unit_least mega = (omega arith, omega arith)

-- a region that is read: as the paper prints it, its pages' size below 2^32
pub record Good (r : Region) : Type 0 where
  pub printable : Printable r
  pub small : r.size.value * times r.unit < 4294967296

abbrev pub EachGood : Region → List Region → Type 0
EachGood r [] = Good r
EachGood r (q ∷ qs) = Good r × EachGood q qs

-- one region: its star is the only byte below the digits, and it is read as its pages
module _ (r : Region) (good : Good r) where
  region_without : (x : ℕ) → x < 48 → (42 ≡ x → ⊥) → Without x (region r)
  region_without x h n =
      let ends : List ℕ = letter r.unit ∷ r.type ∷ [] in
      let unit : letter r.unit ≡ x → ⊥ = λ e. omega (arith, (unit_least r.unit).0) in
      let sized = without_both x (decimal r.size) ends (digits_without x 10 _ _ h) (unit, (omega arith, tt)) in
      without_both x (decimal r.count) (42 ∷ (decimal r.size ++ ends)) (digits_without x 10 _ _ h) (n, sized)

  region_reads : length (pages r) < 4294967296 → (at : ℕ) → piece_of (region r) at ≡ Ok (run_of r.count.value (r.size.value * times r.unit))
  region_reads h at =
      let count = good.printable.0 in
      let size = good.printable.1 in
      let least = (unit_least r.unit).1 in
      let counted = length-replicate r.count.value (r.size.value * times r.unit) in
      piece (decimal r.count) (decimal r.size) _ _ _ _ (times r.unit) at (digits_without 42 10 _ _ (omega arith))
      (digits_read 10 (omega arith) (omega arith) _ _ count.0 count.1 (omega arith))
      (digits_read 10 (omega arith) (omega arith) _ _ size.0 size.1 (omega (arith, mul-le-mul_left r.size.value least)))
      (factor r.unit) good.small

-- all regions: no slash, and they are read as all pages
regions_without : (r : Region) (qs : List Region) → EachGood r qs → Without 47 (regions r qs)
unfolding regions
regions_without r [] g = region_without r g 47 (omega arith) (omega arith)
regions_without r (q ∷ qs) g =
    without_both 47 (region r) (44 ∷ regions q qs) (region_without r g.0 47 (omega arith) (omega arith)) (omega arith, regions_without q qs g.1)

regions_read : (r : Region) (qs : List Region) → EachGood r qs → length (all_pages r qs) < 4294967296 → Announces (split (regions r qs)) (all_pages r qs)
unfolding regions all_pages
regions_read r [] g h =
    rw (alone (region r) (region_without r g 44 (omega arith) (omega arith)), ← append-nil (pages r))
    (more (region r) [] _ _ [] (region_reads r g h) nothing)
regions_read r (q ∷ qs) g h =
    let l = length-append (pages r) (all_pages q qs) in
    rw (first (region r) (regions q qs) (region_without r g.0 44 (omega arith) (omega arith)))
    (more (region r) (split (regions q qs)) _ _ (all_pages q qs) (region_reads r g.0 (omega arith)) (regions_read q qs g.1 (omega arith)))

-- a string of the paper: its address and its pages are read, and the store past them stays
pub reads_st_strings : (name : List ℕ) (address : ℕ) (r : Region) (qs : List Region) (store : List ℕ)
    → address < 4294967296 → EachGood r qs
    → length (string name address r qs) ≤ max_text → length (all_pages r qs) ≤ max_pages → length (all_pages r qs) ≤ length store
    → interface_of (string name address r qs) (record { 0 = 1; 1 = 0x1a }) store
    ≡ done (Ok (with_protocol (DfuProtocol.Dfuse address) (length (all_pages r qs)))) (all_pages r qs ++ drop (length (all_pages r qs)) store)
unfolding interface_of dfuse_of address_of prefix
reads_st_strings name address r qs store a g t p s =
    let text = string name address r qs in
    let hex : List ℕ = 48 ∷ 120 ∷ digits 16 8 address in
    let front : List ℕ = 64 ∷ (name ++ (47 ∷ hex)) in
    let parts : front ++ (47 ∷ regions r qs) ≡ text = ap (λ (l : List ℕ). 64 ∷ l) (append_assoc name (47 ∷ hex) (47 ∷ regions r qs)) in
    let outer : rsplit text ≡ cut front (regions r qs) = sym (ap rsplit parts) ∙ cut_last front (regions r qs) (regions_without r qs g) in
    let inner = cut_last (64 ∷ name) hex (omega arith, (omega arith, digits_without 47 16 8 address (omega arith))) in
    let short : length (regions r qs) ≤ max_text = omega (arith, ap length parts, length-append front (47 ∷ regions r qs)) in
    let read = regions_read r qs g (omega arith) in
    simp (
      le-ltb max_text (length text) t,
      outer,
      inner,
      digits_read 16 (omega arith) (omega arith) 8 address (omega arith) (omega arith) a,
      accepts (length store) (regions r qs) (all_pages r qs) read short p s,
      read.listed 0,
    )
