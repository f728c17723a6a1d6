-- What the walk has kept against the lists of elements and targets: how many there are, and the wanted ones. Assumes nothing.
use Rattle.std.proofs.Common.{◌≡◌, ℕ, zero, suc, ◌+◌, ◌<◌, List, [], ◌∷◌, ◌++◌, None, slice_get, length, refl, sym, ap, ◌∙◌, arith}
use borrow.Author.Tests.{eq-eqb, ne_eqb}
use Rattle.papers.specs.Um0391 as paper
use Rattle.papers.specs.Um0391.{elements_of}
use Rattle.dfuse_file.specs.declared.Element.{Element}
use Rattle.dfuse_file.specs.declared.walk.Tally.{Tally}
use Rattle.dfuse_file.specs.Placed.{placed_in, placed_all, placed_target, placed_targets}
use Rattle.dfuse_file.specs.Walking.{fresh, met_of, met_all, came_of, tallied_all}

-- elements that were met
met_seen : (t : Tally) (es : List Element) → (met_all t es).seen ≡ t.seen + length es
unfolding met_all
met_seen t [] = omega arith
met_seen t (e ∷ es) = omega (arith, met_seen (met_of t e) es)

-- an element that was met before the others is kept
met_kept : (t : Tally) (es : List Element) → t.wanted < t.seen → (met_all t es).element ≡ t.element
unfolding met_all
met_kept t [] h = refl
met_kept t (e ∷ es) h = met_kept (met_of t e) es (omega (arith, h)) ∙ simp (ne_eqb t.seen t.wanted (λ e. omega (arith, e, h)))

-- and one that comes among them is the one at its index, if there are so many
met_get : (t : Tally) (es : List Element) (k : ℕ) → t.wanted ≡ t.seen + k → t.element ≡ None → (met_all t es).element ≡ slice_get es k
unfolding met_all
met_get t [] k e n = n
met_get t (x ∷ es) zero e n = met_kept (met_of t x) es (omega (arith, e)) ∙ simp (eq-eqb t.seen t.wanted (omega (arith, e)))
met_get t (x ∷ es) (suc k) e n = met_get (met_of t x) es k (omega (arith, e)) (simp (ne_eqb t.seen t.wanted (λ q. omega (arith, e, q))) n)

-- elements leave the target and the wanted index alone
met_target : (t : Tally) (es : List Element) → (met_all t es).target ≡ t.target
unfolding met_all
met_target t [] = refl
met_target t (e ∷ es) = met_target (met_of t e) es

met_wanted : (t : Tally) (es : List Element) → (met_all t es).wanted ≡ t.wanted
unfolding met_all
met_wanted t [] = refl
met_wanted t (e ∷ es) = met_wanted (met_of t e) es

-- a walk over targets is, but for the target that it keeps, one over all their elements
abbrev bare : Tally → Tally
bare t = record { wanted = t.wanted; seen = t.seen; element = t.element; target = None }

met_append : (t : Tally) (es ds : List Element) → met_all t (es ++ ds) ≡ met_all (met_all t es) ds
unfolding met_all
met_append t [] ds = refl
met_append t (e ∷ es) ds = met_append (met_of t e) es ds

met_bare : (t : Tally) (es : List Element) → bare (met_all t es) ≡ met_all (bare t) es
unfolding met_all
met_bare t [] = refl
met_bare t (e ∷ es) = met_bare (met_of t e) es

all_bare : (index : ℕ) (t : Tally) (at : ℕ) (us : List paper.Target) → bare (tallied_all index t at us) ≡ met_all (bare t) (placed_all index at us)
unfolding met_all tallied_all placed_all
all_bare index t at [] = refl
all_bare index t at (u ∷ us) =
    let c : Tally = came_of t index (placed_target t.seen at u) in
    let es : List Element = placed_in index u.b_alternate_setting (at + 274) u.elements in
    let rest : List Element = placed_all (index + 1) (at + (274 + length (elements_of u.elements))) us in
    all_bare (index + 1) (met_all c es) (at + (274 + length (elements_of u.elements))) us
    ∙ ap (λ (x : Tally). met_all x rest) (met_bare c es)
    ∙ sym (met_append (bare t) es rest)

-- the wanted target
target_kept : (index : ℕ) (t : Tally) (at : ℕ) (us : List paper.Target) → t.wanted < index → (tallied_all index t at us).target ≡ t.target
unfolding tallied_all
target_kept index t at [] h = refl
target_kept index t at (u ∷ us) h =
    let c : Tally = came_of t index (placed_target t.seen at u) in
    let es : List Element = placed_in index u.b_alternate_setting (at + 274) u.elements in
    target_kept (index + 1) (met_all c es) (at + (274 + length (elements_of u.elements))) us (omega (arith, h, met_wanted c es))
    ∙ met_target c es
    ∙ simp (ne_eqb index t.wanted (λ e. omega (arith, e, h)))

placed_long : (index setting at : ℕ) (es : List paper.Element) → length (placed_in index setting at es) ≡ length es
unfolding placed_in
placed_long index setting at [] = refl
placed_long index setting at (e ∷ es) = ap suc (placed_long index setting (at + (8 + length e.Data)) es)

target_get : (index : ℕ) (t : Tally) (at : ℕ) (us : List paper.Target) (k : ℕ) → t.wanted ≡ index + k → t.target ≡ None
    → (tallied_all index t at us).target ≡ slice_get (placed_targets t.seen at us) k
unfolding tallied_all placed_targets
target_get index t at [] k e n = n
target_get index t at (u ∷ us) zero e n =
    let c : Tally = came_of t index (placed_target t.seen at u) in
    let es : List Element = placed_in index u.b_alternate_setting (at + 274) u.elements in
    target_kept (index + 1) (met_all c es) (at + (274 + length (elements_of u.elements))) us (omega (arith, e, met_wanted c es))
    ∙ met_target c es
    ∙ simp (eq-eqb index t.wanted (omega (arith, e)))
target_get index t at (u ∷ us) (suc k) e n =
    let c : Tally = came_of t index (placed_target t.seen at u) in
    let es : List Element = placed_in index u.b_alternate_setting (at + 274) u.elements in
    let m : (met_all c es).seen ≡ t.seen + length u.elements =
    met_seen c es ∙ ap (λ (j : ℕ). t.seen + j) (placed_long index u.b_alternate_setting (at + 274) u.elements) in
    let none : (met_all c es).target ≡ None = met_target c es ∙ simp (ne_eqb index t.wanted (λ q. omega (arith, e, q))) n in
    target_get (index + 1) (met_all c es) (at + (274 + length (elements_of u.elements))) us k (omega (arith, e, met_wanted c es)) none
    ∙ ap (λ (j : ℕ). slice_get (placed_targets j (at + (274 + length (elements_of u.elements))) us) k) m

-- so of a whole walk
module _ (wanted : ℕ) (us : List paper.Target) where
  abbrev ended : Tally
  ended = tallied_all 0 (fresh wanted) 11 us

  pub all_seen : ended.seen ≡ length (placed_all 0 11 us)
  all_seen = ap (λ (x : Tally). x.seen) (all_bare 0 (fresh wanted) 11 us) ∙ met_seen (fresh wanted) (placed_all 0 11 us) ∙ omega arith

  pub wanted_element : ended.element ≡ slice_get (placed_all 0 11 us) wanted
  wanted_element = ap (λ (x : Tally). x.element) (all_bare 0 (fresh wanted) 11 us) ∙ met_get (fresh wanted) (placed_all 0 11 us) wanted (omega arith) refl

  pub wanted_target : ended.target ≡ slice_get (placed_targets 0 11 us) wanted
  wanted_target = target_get 0 (fresh wanted) 11 us wanted (omega arith) refl
