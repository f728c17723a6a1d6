-- The walk over a target's elements: a law for each way out of its loop and one for going on. Assumes nothing.
use Rattle.std.proofs.Common.{◌≡◌, ℕ, zero, suc, ◌+◌, ◌-◌, ◌<◌, ◌≤◌, List, eqb, ltb, false, true, length, take, drop, Result, Ok, Err, refl, sym, ap, ap₂, subst, ◌∙◌, arith, length-drop}
use Rattle.std.proofs.Math.Seq.{length-take-le}
use borrow.Author.Tests.{ltb-false}
use Rattle.ground.specs.Bytes.{field}
use Rattle.ground.proofs.Tests.{picked}
use Rattle.papers.specs.Um0391 as paper
use Rattle.dfuse_file.specs.declared.error.Error.{Error}
use Rattle.dfuse_file.specs.declared.Element.{Element}
use Rattle.dfuse_file.specs.declared.walk.Tally.{Tally}
use Rattle.dfuse_file.specs.Reading.{Got, more, elements_in}
use Rattle.dfuse_file.specs.Placed.{placed, placed_in}
use Rattle.dfuse_file.specs.Walking.{met_of, met_all, size_in, walked_of}

module _ (at : ℕ) (s : List ℕ) where
  -- the element that begins here, with so many bytes of data
  abbrev here : ℕ → paper.Element
  here z = record { dw_element_address = field 0 4 s; Data = take z (drop 8 s) }

  -- what the tests of a header have found
  abbrev Sized : ℕ → Result ℕ Error → Type 0
  Sized k (Err e) = elements_in (suc k) at s ≡ Err e
  Sized k (Ok z) = (8 ≤ length s) × (z ≤ length s - 8) × (elements_in (suc k) at s ≡ more (here z) (elements_in k (at + (8 + z)) (drop (8 + z) s)))

  sized : (k : ℕ) → Sized k (size_in at s)
  unfolding elements_in
  sized k =
      picked (Sized k) (ltb (length s) 8) _ _ (λ e. simp e)
      (λ e. picked (Sized k) (ltb (length s - 8) (field 4 4 s)) _ _ (λ o. simp (e, o))
      (λ o. (ltb-false (length s) 8 e, ltb-false (length s - 8) (field 4 4 s) o, simp (e, o))))

  found : (k : ℕ) {r : Result ℕ Error} → r ≡ size_in at s → Sized k r
  found k w = subst (Sized k) (sym w) (sized k)

  pub room : (z : ℕ) → Ok z ≡ size_in at s → 8 + z ≤ length s
  room z w = let q = found 0 w in omega (arith, q.0, q.1)

  module _ (index setting : ℕ) (t : Tally) where
    abbrev walk : ℕ → Result Tally Error
    walk k = walked_of index setting t at (elements_in k at s)

    pub no_size : (k : ℕ) (e : Error) → 0 < k → Err e ≡ size_in at s → Err e ≡ walk k
    no_size zero e h w = absurd (omega arith)
    no_size (suc k) e h w = sym (ap (walked_of index setting t at) (found k w))

    -- the element as the code has it
    abbrev pub one : ℕ → Element
    one size = record { target = index; setting = setting; address = field 0 4 s; place = at + 8; size = size }

    gone : (e : paper.Element) (g : Got paper.Element)
        → walked_of index setting t at (more e g) ≡ walked_of index setting (met_of t (placed index setting at e)) (at + (8 + length e.Data)) g
    unfolding met_all placed_in
    gone e (Ok es) = refl
    gone e (Err r) = refl

    pub onward : (k z : ℕ) → 0 < k → Ok z ≡ size_in at s
        → walk k ≡ walked_of index setting (met_of t (one z)) (at + (8 + z)) (elements_in (k - 1) (at + (8 + z)) (drop (8 + z) s))
    onward zero z h w = absurd (omega arith)
    onward (suc k) z h w =
        let q = found k w in
        let u : k ≡ suc k - 1 = omega arith in
        let long : length (take z (drop 8 s)) ≡ z = length-take-le z (drop 8 s) (omega (arith, q.0, q.1, length-drop 8 s)) in
        ap (walked_of index setting t at) q.2
        ∙ gone (here z) (elements_in k (at + (8 + z)) (drop (8 + z) s))
        ∙ ap₂ (λ (n j : ℕ). walked_of index setting (met_of t (one n)) (at + (8 + n)) (elements_in j (at + (8 + z)) (drop (8 + z) s))) long u

    pub not_filled : (k : ℕ) → k ≤ 0 → eqb (length s) 0 ≡ false → Err (Error.TargetNotFilled at) ≡ walk k
    unfolding elements_in
    not_filled zero h n = simp n
    not_filled (suc k) h n = absurd (omega arith)

    pub filled : (k : ℕ) → k ≤ 0 → eqb (length s) 0 ≡ true → Ok t ≡ walk k
    unfolding elements_in met_all placed_in
    filled zero h n = simp n
    filled (suc k) h n = absurd (omega arith)
