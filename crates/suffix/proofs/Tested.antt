-- The tests of a file in their order, each with what was found before it. Assumes nothing.
use Rattle.std.proofs.Common.{◌≡◌, ℕ, ◌-◌, ◌<◌, ◌≤◌, List, [], Bool, true, false, length, take, drop, get_or, Result, Ok, Err, MatchResult, refl, sym, ap, ◌∙◌, subst, ⊎_elim, arith, codes, length-drop}
use Rattle.std.proofs.Math.Seq.{take_all}
use borrow.Author.Tests.{lt-ltb, le-ltb, eq-eqb, ne_eqb}
use Rattle.ground.specs.Bytes.{field, prefix}
use Rattle.ground.proofs.Tests.{lt_or_ge}
use Rattle.papers.specs.Crc.{crc_of}
use Rattle.suffix.specs.declared.Suffix.{Suffix}
use Rattle.suffix.specs.declared.Checked.{Checked}
use Rattle.suffix.specs.declared.Error.{Error}
use Rattle.suffix.specs.Suffix.{last_of, identities_of, suffix_of, part_by, firmware_of, checked_by, checked_of}

-- the suffix that stands in 16 bytes
abbrev pub standing : List ℕ → Suffix
standing t = record { identities = identities_of t; crc = field 12 4 t }

pub too_short : (f : List ℕ) → length f < 16 → Err Error.FileTooShort ≡ suffix_of f
unfolding suffix_of
too_short f h = simp (lt-ltb (length f) 16 h)

-- where t is the suffix as the code takes it
module _ (f t : List ℕ) (h : 16 ≤ length f) (last : t ≡ last_of f) where
  signed : (b : Bool) → prefix (codes "UFD") (take 8 (drop 8 t)) ≡ b → prefix (codes "UFD") (drop 8 (last_of f)) ≡ b
  signed b s =
      let n : length t ≡ 16 = ap length last ∙ omega (arith, length-drop (length f - 16) f) in
      ap (prefix (codes "UFD")) (ap (drop 8) (sym last) ∙ sym (take_all 8 (drop 8 t) (omega (arith, length-drop 8 t)))) ∙ s

  pub no_signature : prefix (codes "UFD") (take 8 (drop 8 t)) ≡ false → Err Error.NoSignature ≡ suffix_of f
  unfolding suffix_of
  no_signature s = simp (le-ltb (length f) 16 h, signed false s)

  module _ (s : prefix (codes "UFD") (take 8 (drop 8 t)) ≡ true) where
    pub wrong_length : (get_or t 11 0 ≡ 16 → ⊥) → Err Error.WrongLength ≡ suffix_of f
    unfolding suffix_of
    wrong_length n =
        simp (le-ltb (length f) 16 h, signed true s, ne_eqb (get_or (last_of f) 11 0) 16 (λ e. n (ap (λ (u : List ℕ). get_or u 11 0) last ∙ e)))

    module _ (n : get_or t 11 0 ≡ 16) where
      sixteen : get_or (last_of f) 11 0 ≡ 16
      sixteen = ap (λ (u : List ℕ). get_or u 11 0) (sym last) ∙ n

      pub wrong_crc : (field 12 4 t ≡ crc_of (take (length f - 4) f) → ⊥) → Err Error.WrongCrc ≡ suffix_of f
      unfolding suffix_of
      wrong_crc c =
          simp (
            le-ltb (length f) 16 h,
            signed true s,
            eq-eqb (get_or (last_of f) 11 0) 16 sixteen,
            ne_eqb (field 12 4 (last_of f)) (crc_of (take (length f - 4) f)) (λ e. c (ap (field 12 4) last ∙ e)),
          )

      pub all_read : field 12 4 t ≡ crc_of (take (length f - 4) f) → Ok (standing t) ≡ suffix_of f
      unfolding suffix_of
      all_read c =
          ap (λ (u : List ℕ). Ok (standing u)) last
          ∙ simp (
            le-ltb (length f) 16 h,
            signed true s,
            eq-eqb (get_or (last_of f) 11 0) 16 sixteen,
            eq-eqb (field 12 4 (last_of f)) (crc_of (take (length f - 4) f)) (ap (field 12 4) (sym last) ∙ c),
          )

-- what was read has a suffix's length
pub read_long : (f : List ℕ) {s : Suffix} → suffix_of f ≡ Ok s → 16 ≤ length f
read_long f e = ⊎_elim (λ l. absurd (let x = too_short f l in cc)) (λ g. g) (lt_or_ge (length f) 16)

pub part_is : (f : List ℕ) {r : Result Suffix Error} → suffix_of f ≡ r → part_by r f ≡ firmware_of f
unfolding firmware_of
part_is f e = ap (λ (r : Result Suffix Error). part_by r f) (sym e)

-- the firmware part is so many bytes from the start as both at once say; of a file that is refused it is none
by_length : (r : Result Suffix Error) (f : List ℕ) → MatchResult (checked_by r (length f)) (λ x. take x.firmware f ≡ part_by r f) (λ e. [] ≡ part_by r f)
by_length (Ok s) f = refl
by_length (Err Error.FileTooShort) f = refl
by_length (Err Error.NoSignature) f = refl
by_length (Err Error.WrongLength) f = refl
by_length (Err Error.WrongCrc) f = refl

pub checked_part : (f : List ℕ) → MatchResult (checked_of f) (λ x. take x.firmware f ≡ firmware_of f) (λ e. [] ≡ firmware_of f)
unfolding firmware_of
checked_part f = by_length (suffix_of f) f

-- the same of what a call has answered
pub part_by_answer : (f : List ℕ) {r : Result Checked Error} → r ≡ checked_of f → MatchResult r (λ x. take x.firmware f ≡ firmware_of f) (λ e. [] ≡ firmware_of f)
part_by_answer f e = subst (λ (r : Result Checked Error). MatchResult r (λ x. take x.firmware f ≡ firmware_of f) (λ e. [] ≡ firmware_of f)) (sym e) (checked_part f)
