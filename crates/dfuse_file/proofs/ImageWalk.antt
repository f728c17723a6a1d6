-- A file whose tests all pass: what the walk over its targets has kept is what the file holds. Assumes nothing.
use Rattle.std.proofs.Common.{◌≡◌, ℕ, zero, suc, ◌+◌, ◌-◌, ◌≤◌, List, Bool, true, false, ◌⊎◌, ⊎_elim, eqb, ltb, length, take, drop, get_or, Result, Ok, Err, refl, sym, ap}
use borrow.Author.Tests.{le-ltb, eq-eqb}
use Rattle.ground.specs.Bytes.{field, prefix}
use Rattle.ground.proofs.Tests.{picked}
use Rattle.papers.specs.Um0391 as paper
use Rattle.papers.specs.Um0391.{sz_target, sz_dfu_se}
use Rattle.suffix.specs.declared.Suffix.{Suffix}
use Rattle.suffix.specs.declared.Checked.{Checked}
use Rattle.suffix.specs.declared.Error as suffix
use Rattle.suffix.specs.Suffix.{suffix_of, part_by, firmware_of, checked_by, checked_of}
use Rattle.dfuse_file.specs.declared.walk.Tally.{Tally}
use Rattle.dfuse_file.specs.declared.walk.Survey.{Survey}
use Rattle.dfuse_file.specs.Reading.{Got, joined, fits, elements_in, targets_in, image_in, held, whole, by_suffix, dfuse_in}
use Rattle.dfuse_file.specs.Walking.{fresh, tallied_all, walked_all, survey_of}
use Rattle.dfuse_file.proofs.Tallies.{all_seen, wanted_element, wanted_target}

-- as many targets as were asked for
abbrev Many : ℕ → Got paper.Target → Type 0
Many n (Ok ts) = length ts ≡ n
Many n (Err e) = Unit

more_many : (n : ℕ) (s : List ℕ) (g : Got paper.Element) (q : Got paper.Target) → Many n q → Many (suc n) (joined s g q)
more_many n s (Ok es) (Ok ts) m = ap suc m
more_many n s (Ok es) (Err e) m = tt
more_many n s (Err e) q m = tt

many : (n at : ℕ) (s : List ℕ) → Many n (targets_in n at s)
unfolding targets_in
many zero at s = picked (Many zero) (eqb (length s) 0) _ _ (λ e. refl) (λ e. tt)
many (suc n) at s =
    picked (Many (suc n)) (ltb (length s) 274) _ _ (λ e. tt)
    (λ e. picked (Many (suc n)) (prefix sz_target s) _ _
    (λ g. picked (Many (suc n)) (ltb (length s - 274) (field 266 4 s)) _ _ (λ f. tt)
    (λ f. more_many n s (elements_in (field 270 4 s) (at + 274) (take (field 266 4 s) (drop 274 s))) (targets_in n (at + (274 + field 266 4 s)) (drop (274 + field 266 4 s) s))
    (many n (at + (274 + field 266 4 s)) (drop (274 + field 266 4 s) s))))
    (λ g. tt))

-- what the walk ends with, as the code has it
abbrev pub surveyed : ℕ → Bool → Suffix → Tally → Survey
surveyed n c x t =
    record { dfuse = record { targets = n; elements = t.seen; counted = c; identities = x.identities; crc = x.crc }; element = t.element; target = t.target }

module _ (wanted : ℕ) (c : Bool) (x : Suffix) where
  kept : (n : ℕ) (g : Got paper.Target) (t : Tally) → Many n g → Ok t ≡ walked_all 0 (fresh wanted) 11 g → Ok (surveyed n c x t) ≡ survey_of wanted (held c x g)
  kept n (Ok us) t m w =
      let e : t ≡ tallied_all 0 (fresh wanted) 11 us = cc in
      rw (e, all_seen wanted us, wanted_element wanted us, wanted_target wanted us, sym m)
  kept n (Err e) t m w = absurd (cc)

-- where all tests before the targets pass
pub accepted : (s : List ℕ) (x : Suffix) (wanted : ℕ) (t : Tally) → x.identities.dfu_version ≡ 0x011A → 11 ≤ length s → prefix sz_dfu_se s ≡ true → get_or s 5 0 ≡ 1
    → fits (field 6 4 s) (length s) ≡ true → Ok t ≡ walked_all 0 (fresh wanted) 11 (targets_in (get_or s 10 0) 11 (drop 11 s))
    → Ok (surveyed (get_or s 10 0) (eqb (field 6 4 s) (length s + 16)) x t) ≡ survey_of wanted (whole x s)
unfolding image_in
accepted s x wanted t v h g o z w =
    simp (eq-eqb x.identities.dfu_version 0x011A v, le-ltb (length s) 11 h, g, eq-eqb (get_or s 5 0) 1 o, z)
    (kept wanted (eqb (field 6 4 s) (length s + 16)) x (get_or s 10 0) (targets_in (get_or s 10 0) 11 (drop 11 s)) t (many (get_or s 10 0) 11 (drop 11 s)) w)

-- the image that the suffix's reader hands over is what stands before the suffix
pub before_suffix : (f : List ℕ) {c : Checked} → Ok c ≡ checked_of f → whole c.suffix (take c.firmware f) ≡ dfuse_in f
unfolding dfuse_in firmware_of
before_suffix f {c = c} = by (suffix_of f)
  where
    by : (r : Result Suffix suffix.Error) → Ok c ≡ checked_by r (length f) → whole c.suffix (take c.firmware f) ≡ by_suffix r (part_by r f)
    by (Ok x) e = let q : c ≡ record { suffix = x; firmware = length f - 16 } = cc in rw q
    by (Err r) e = absurd (cc)

-- an image size is one of two
pub fits_either : (size long : ℕ) → (size ≡ long) ⊎ (size ≡ long + 16) → fits size long ≡ true
fits_either size long = ⊎_elim (λ e. simp (eq-eqb size long e)) (λ e. by (eqb size long) refl (eq-eqb size (long + 16) e))
  where
    by : (t : Bool) → eqb size long ≡ t → eqb size (long + 16) ≡ true → fits size long ≡ true
    by true q e = simp q
    by false q e = simp (q, e)
