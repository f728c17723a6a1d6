-- The walk over targets: the tests of a target's prefix, a law for each way out of the loop and one for going on. Assumes nothing.
use Rattle.std.proofs.Common.{◌≡◌, ℕ, zero, suc, ◌+◌, ◌-◌, ◌<◌, ◌≤◌, List, eqb, ltb, false, true, length, take, drop, get_or, Result, Ok, Err, refl, sym, ap, ap₂, subst, ◌∙◌, arith, length-append, length-drop}
use Rattle.std.proofs.Math.Seq.{length-take-le}
use borrow.Author.Tests.{ltb-false, eqb-true}
use Rattle.ground.specs.Bytes.{field, prefix}
use Rattle.ground.proofs.Tests.{picked}
use Rattle.papers.specs.Um0391 as paper
use Rattle.papers.specs.Um0391.{elements_of, sz_target}
use Rattle.dfuse_file.specs.declared.error.Error.{Error}
use Rattle.dfuse_file.specs.declared.Target.{Target}
use Rattle.dfuse_file.specs.declared.walk.Tally.{Tally}
use Rattle.dfuse_file.specs.Reading.{Got, more, joined, elements_in, targets_in}
use Rattle.dfuse_file.specs.Placed.{placed_in}
use Rattle.dfuse_file.specs.Walking.{met_all, came_of, target_in, head_in, walked_of, tallied_all, walked_all}

-- elements that were read take the bytes that they were read in, and are as many as were asked for
abbrev Filled : ℕ → List ℕ → Got paper.Element → Type 0
Filled n s (Ok es) = (length (elements_of es) ≡ length s) × (length es ≡ n)
Filled n s (Err e) = Unit

module _ (n : ℕ) (s : List ℕ) (m : 8 ≤ length s) (k : field 4 4 s ≤ length s - 8) where
  abbrev z : ℕ
  z = field 4 4 s

  more_filled : (g : Got paper.Element) → Filled n (drop (8 + z) s) g → Filled (suc n) s (more (record { dw_element_address = field 0 4 s; Data = take z (drop 8 s) }) g)
  unfolding elements_of
  more_filled (Ok es) e =
      let w : length (take z (drop 8 s)) ≡ z = length-take-le z (drop 8 s) (omega (arith, k, length-drop 8 s)) in
      (omega (arith, length-append (take z (drop 8 s)) (elements_of es), w, e.0, length-drop (8 + z) s, m, k), ap suc e.1)
  more_filled (Err r) e = tt

filled : (n at : ℕ) (s : List ℕ) → Filled n s (elements_in n at s)
unfolding elements_in elements_of
filled zero at s = picked (Filled zero s) (eqb (length s) 0) _ _ (λ e. (sym (eqb-true (length s) 0 e), refl)) (λ e. tt)
filled (suc n) at s =
    picked (Filled (suc n) s) (ltb (length s) 8) _ _ (λ e. tt)
    (λ e. picked (Filled (suc n) s) (ltb (length s - 8) (field 4 4 s)) _ _ (λ f. tt)
    (λ f. more_filled n s (ltb-false (length s) 8 e) (ltb-false (length s - 8) (field 4 4 s) f) (elements_in n (at + (8 + field 4 4 s)) (drop (8 + field 4 4 s) s))
    (filled n (at + (8 + field 4 4 s)) (drop (8 + field 4 4 s) s))))

-- the target that a tally has come to, with how many elements its prefix says
abbrev here : List ℕ → ℕ → ℕ → ℕ → Target
here s at first n = record { setting = get_or s 6 0; named = field 7 4 s; elements = n; first = first; place = at + 11 }

abbrev tally_of : Result Tally Error → Tally → Tally
tally_of (Ok x) t = x
tally_of (Err e) t = t

module _ (index : ℕ) (t : Tally) (at : ℕ) (s : List ℕ) where
  gone : (es : List paper.Element) (q : Got paper.Target)
      → walked_all index t at (more (record { b_alternate_setting = get_or s 6 0; b_target_named = field 7 4 s; sz_target_name = take 255 (drop 11 s); elements = es }) q)
      ≡ walked_all (index + 1) (met_all (came_of t index (here s at t.seen (length es))) (placed_in index (get_or s 6 0) (at + 274) es)) (at + (274 + length (elements_of es))) q
  unfolding tallied_all
  gone es (Ok us) = refl
  gone es (Err e) = refl

  module _ (n : ℕ) (body : List ℕ) where
    abbrev walk : Got paper.Element → Result Tally Error
    walk g = walked_of index (get_or s 6 0) (came_of t index (here s at t.seen n)) (at + 274) g

    joined_fine : (g : Got paper.Element) (q : Got paper.Target) (x : Tally) → Filled n body g → Ok x ≡ walk g
        → walked_all index t at (joined s g q) ≡ walked_all (index + 1) x (at + (274 + length body)) q
    joined_fine (Ok es) q x e w =
        gone es q
        ∙ ap₂ (λ (k m : ℕ). walked_all (index + 1) (met_all (came_of t index (here s at t.seen k)) (placed_in index (get_or s 6 0) (at + 274) es)) (at + (274 + m)) q) e.1 e.0
        ∙ ap (λ (y : Tally). walked_all (index + 1) y (at + (274 + length body)) q) (sym (ap (λ (v : Result Tally Error). tally_of v t) w))
    joined_fine (Err r) q x e w = absurd (cc)

    joined_fault : (g : Got paper.Element) (q : Got paper.Target) (e : Error) → Err e ≡ walk g → Err e ≡ walked_all index t at (joined s g q)
    joined_fault (Ok es) q e w = absurd (cc)
    joined_fault (Err r) q e w = w

-- what the tests of a prefix have found
abbrev Headed : ℕ → ℕ → List ℕ → Result ℕ Error → Type 0
Headed k at s (Err e) = targets_in (suc k) at s ≡ Err e
Headed k at s (Ok z) =
    (274 ≤ length s) × (z ≤ length s - 274)
    × (targets_in (suc k) at s ≡ joined s (elements_in (field 270 4 s) (at + 274) (take z (drop 274 s))) (targets_in k (at + (274 + z)) (drop (274 + z) s)))

headed : (k at : ℕ) (s : List ℕ) → Headed k at s (head_in at s)
unfolding targets_in
headed k at s =
    picked (Headed k at s) (ltb (length s) 274) _ _ (λ e. simp e)
    (λ e. picked (Headed k at s) (prefix sz_target s) _ _
    (λ g. picked (Headed k at s) (ltb (length s - 274) (field 266 4 s)) _ _ (λ o. simp (e, g, o))
    (λ o. (ltb-false (length s) 274 e, ltb-false (length s - 274) (field 266 4 s) o, simp (e, g, o))))
    (λ g. simp (e, g)))

module _ (index : ℕ) (t : Tally) (at : ℕ) (s : List ℕ) where
  abbrev walks : ℕ → Result Tally Error
  walks k = walked_all index t at (targets_in k at s)

  pub not_filled : (k : ℕ) → k ≤ 0 → eqb (length s) 0 ≡ false → Err (Error.ImageNotFilled at) ≡ walks k
  unfolding targets_in
  not_filled zero h n = simp n
  not_filled (suc k) h n = absurd (omega arith)

  pub done : (k : ℕ) → k ≤ 0 → eqb (length s) 0 ≡ true → Ok t ≡ walks k
  unfolding targets_in tallied_all
  done zero h n = simp n
  done (suc k) h n = absurd (omega arith)

  found : (k : ℕ) {r : Result ℕ Error} → r ≡ head_in at s → Headed k at s r
  found k w = subst (Headed k at s) (sym w) (headed k at s)

  pub no_head : (k : ℕ) (e : Error) → 0 < k → Err e ≡ head_in at s → Err e ≡ walks k
  no_head zero e h w = absurd (omega arith)
  no_head (suc k) e h w = sym (ap (walked_all index t at) (found k w))

  module _ (z : ℕ) (w : Ok z ≡ head_in at s) where
    pub fits_in : 274 + z ≤ length s
    fits_in = let q = found 0 w in omega (arith, q.0, q.1)

    abbrev body : List ℕ
    body = take z (drop 274 s)

    body_long : length body ≡ z
    body_long = length-take-le z (drop 274 s) (omega (arith, fits_in, length-drop 274 s))

    abbrev elements : Got paper.Element
    elements = elements_in (field 270 4 s) (at + 274) body

    abbrev rest : ℕ → Got paper.Target
    rest k = targets_in k (at + (274 + z)) (drop (274 + z) s)

    opened : (k : ℕ) → walks (suc k) ≡ walked_all index t at (joined s elements (rest k))
    opened k = ap (walked_all index t at) (found k w).2

    -- the walk over the target's elements as the code does it
    abbrev walked : Result Tally Error
    walked = walked_of index (get_or s 6 0) (came_of t index (target_in t.seen at s)) (at + 274) elements

    pub faulty : (k : ℕ) (e : Error) → 0 < k → Err e ≡ walked → Err e ≡ walks k
    faulty zero e h v = absurd (omega arith)
    faulty (suc k) e h v = joined_fault index t at s (field 270 4 s) body elements (rest k) e v ∙ sym (opened k)

    pub onward : (k : ℕ) (x : Tally) → 0 < k → Ok x ≡ walked → walks k ≡ walked_all (index + 1) x (at + (274 + z)) (rest (k - 1))
    onward zero x h v = absurd (omega arith)
    onward (suc k) x h v =
        let u : suc k - 1 ≡ k = omega arith in
        opened k
        ∙ joined_fine index t at s (field 270 4 s) body elements (rest k) x (filled (field 270 4 s) (at + 274) body) v
        ∙ ap₂ (λ (m j : ℕ). walked_all (index + 1) x (at + (274 + m)) (rest j)) body_long (sym u)
