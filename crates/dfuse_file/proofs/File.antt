-- A whole file against UM0391, both ways: what the paper lays out is read, nothing else is, and in one way. Assumes nothing.
use Rattle.std.proofs.Common.{◌≡◌, ℕ, ◌+◌, ◌-◌, ◌≤◌, List, [], ◌∷◌, ◌++◌, Bool, true, false, eqb, ltb, length, take, drop, get_or, Result, Ok, Err, refl, sym, ap, ap₂, subst, ◌∙◌, arith, length-drop}
use Rattle.std.proofs.Math.ListN.{take-append-drop}
use Rattle.std.proofs.Math.Seq.{drop-drop, drop-cons}
use borrow.Author.Tests.{le-ltb, ltb-false, eq-eqb, ne_eqb, eqb-true}
use Rattle.ground.specs.Pick.{pick}
use Rattle.ground.specs.Bytes.{field, prefix, Bytes}
use Rattle.ground.proofs.Numbers.{bytes_drop, bytes_take}
use Rattle.ground.proofs.Prefix.{starts, leads}
use Rattle.ground.proofs.Tests.{picked}
use Rattle.papers.specs.Suffix.{Ids, four, dw_crc, file_of}
use Rattle.suffix.proofs.Tested.{part_is}
use Rattle.suffix.specs.declared.Suffix.{Suffix}
use Rattle.suffix.specs.declared.Error as suffix
use Rattle.suffix.specs.Suffix.{suffix_of, firmware_of}
use Rattle.suffix.proofs.Appendix.{named, ids_of, only_the_appendix, only_the_appendix_crc}
use Rattle.suffix.proofs.AppendixRead.{reads_the_appendix, hands_the_firmware}
use Rattle.dfuse_file.specs.declared.error.Error.{Error}
use Rattle.papers.proofs.Fours.{four_field, field_four, field_drop}
use Rattle.papers.specs.Um0391.{Target, sz_dfu_se, targets_of, image_size, image_of, Named, dfuse_of}
use Rattle.dfuse_file.specs.Reading.{Got, fits, targets_in, image_in, Held, held, by_suffix, dfuse_in}
use Rattle.dfuse_file.proofs.Targets.{reads_targets, only_targets, LaidOut}

-- the image size, read
fits_short : (n : ℕ) → fits n n ≡ true
fits_short n = simp (eq-eqb n n refl)

fits_long : (n : ℕ) → fits (n + 16) n ≡ true
fits_long n = simp (ne_eqb (n + 16) n (λ e. omega (arith, e)), eq-eqb (n + 16) (n + 16) refl)

module _ (c : Bool) (ts : List Target) where
  abbrev s : List ℕ
  s = image_of c ts

  size_read : field 6 4 s ≡ image_size c ts
  size_read = field_drop 6 s ∙ field_four (image_size c ts) (length ts ∷ targets_of ts)

  both : (b : Bool) → (fits (11 + length (targets_of ts) + pick b 16 0) (11 + length (targets_of ts)) ≡ true) × (eqb (11 + length (targets_of ts) + pick b 16 0) (11 + length (targets_of ts) + 16) ≡ b)
  both true = (fits_long (11 + length (targets_of ts)), eq-eqb (11 + length (targets_of ts) + 16) (11 + length (targets_of ts) + 16) refl)
  both false =
      let e : 11 + length (targets_of ts) + 0 ≡ 11 + length (targets_of ts) = omega arith in (
        ap (λ (n : ℕ). fits n (11 + length (targets_of ts))) e ∙ fits_short (11 + length (targets_of ts)),
        ne_eqb (11 + length (targets_of ts) + 0) (11 + length (targets_of ts) + 16) (λ x. omega (arith, x)),
      )

  long : length s ≡ 11 + length (targets_of ts)
  long = omega arith

  pub reads_image : Named ts → image_in s ≡ Ok ts
  unfolding image_in
  reads_image h =
      simp (
        le-ltb (11 + length (targets_of ts)) 11 (omega arith),
        leads sz_dfu_se (drop 5 s),
        size_read,
        long,
        (both c).0,
      )
      (reads_targets ts 11 h)

  pub reads_counted : eqb (field 6 4 s) (length s + 16) ≡ c
  reads_counted = ap₂ (λ (a b : ℕ). eqb a (b + 16)) size_read long ∙ (both c).1

-- .. and nothing else: what an image is that was read
abbrev LaidImage : List ℕ → Got Target → Type 0
LaidImage s (Ok ts) = (s ≡ image_of (eqb (field 6 4 s) (length s + 16)) ts) × Named ts
LaidImage s (Err r) = Unit

module _ (s : List ℕ) (h : Bytes s) (m : 11 ≤ length s) (g : prefix sz_dfu_se s ≡ true) (v : get_or s 5 0 ≡ 1) (f : fits (field 6 4 s) (length s) ≡ true) where
  abbrev counted : Bool
  counted = eqb (field 6 4 s) (length s + 16)

  -- the size is the one that the flag says
  sized : (b : Bool) → counted ≡ b → field 6 4 s ≡ length s + pick b 16 0
  sized true e = eqb-true (field 6 4 s) (length s + 16) e
  sized false e = by (eqb (field 6 4 s) (length s)) refl
    where
      by : (t : Bool) → eqb (field 6 4 s) (length s) ≡ t → field 6 4 s ≡ length s + 0
      by true q = omega (arith, eqb-true (field 6 4 s) (length s) q)
      by false q = absurd (let x : counted ≡ true = ap (λ (t : Bool). pick t true counted) (sym q) ∙ f in cc)

  module _ (ts : List Target) (l : LaidOut (get_or s 10 0) (drop 11 s) (Ok ts)) where
    long_is : length s ≡ 11 + length (targets_of ts)
    long_is = omega (arith, ap length l.0, length-drop 11 s, m)

    size_is : field 6 4 s ≡ image_size counted ts
    size_is = sized counted refl ∙ ap (λ (n : ℕ). n + pick counted 16 0) long_is

    image_is : s ≡ image_of counted ts
    image_is =
        sym (ap₂ (λ (n k : ℕ). sz_dfu_se ++ (1 ∷ (four n ++ (k ∷ targets_of ts)))) (sym size_is) l.1
        ∙ ap (λ (x : List ℕ). sz_dfu_se ++ (1 ∷ (four (field 6 4 s) ++ (get_or s 10 0 ∷ x)))) l.0
        ∙ ap (λ (x : List ℕ). sz_dfu_se ++ (1 ∷ (four (field 6 4 s) ++ x))) (sym (drop-cons s 10 0 (omega (arith, m))))
        ∙ ap (λ (x : List ℕ). sz_dfu_se ++ (1 ∷ (x ++ drop 10 s))) (ap four (field_drop 6 s) ∙ four_field (drop 6 s) (bytes_drop 6 s h) (omega (arith, m, length-drop 6 s)))
        ∙ ap (λ (x : List ℕ). sz_dfu_se ++ (1 ∷ (take 4 (drop 6 s) ++ x))) (sym (drop-drop 4 6 s))
        ∙ ap (λ (x : List ℕ). sz_dfu_se ++ (1 ∷ x)) (take-append-drop 4 (drop 6 s))
        ∙ ap₂ (λ (x : List ℕ) (n : ℕ). x ++ (n ∷ drop 6 s)) (sym (starts sz_dfu_se s g)) (sym v)
        ∙ ap (λ (x : List ℕ). take 5 s ++ x) (sym (drop-cons s 5 0 (omega (arith, m))))
        ∙ take-append-drop 5 s)

  laid_image : (q : Got Target) → LaidOut (get_or s 10 0) (drop 11 s) q → LaidImage s q
  laid_image (Ok ts) l = (image_is ts l, l.2)
  laid_image (Err r) l = tt

pub only_image : (s : List ℕ) → Bytes s → LaidImage s (image_in s)
unfolding image_in
only_image s h =
    picked (LaidImage s) (ltb (length s) 11) _ _ (λ e. tt)
    (λ e. picked (LaidImage s) (prefix sz_dfu_se s) _ _
    (λ g. picked (LaidImage s) (eqb (get_or s 5 0) 1) _ _
    (λ v. picked (LaidImage s) (fits (field 6 4 s) (length s)) _ _
    (λ f. laid_image s h (ltb-false (length s) 11 e) g (eqb-true (get_or s 5 0) 1 v) f (targets_in (get_or s 10 0) 11 (drop 11 s))
    (only_targets (get_or s 10 0) 11 (drop 11 s) (bytes_drop 11 s h)))
    (λ f. tt))
    (λ v. tt))
    (λ g. tt))

-- WHAT THE PAPER LAYS OUT IS READ
pub reads_the_paper : (c : Bool) (ts : List Target) (i : Ids) → Named ts → i.bcd_dfu ≡ 0x011A
    → dfuse_in (dfuse_of c ts i) ≡ Ok (record { counted = c; identities = named i; crc = dw_crc (image_of c ts) i; targets = ts })
unfolding dfuse_in
reads_the_paper c ts i h v =
    let x : Suffix = record { identities = named i; crc = dw_crc (image_of c ts) i } in
    ap₂ by_suffix (reads_the_appendix (image_of c ts) i) (hands_the_firmware (image_of c ts) i)
    ∙ ap (λ (t : Bool). pick t (held (eqb (field 6 4 (image_of c ts)) (length (image_of c ts) + 16)) x (image_in (image_of c ts))) (Err Error.NotDfuse)) (eq-eqb i.bcd_dfu 0x011A v)
    ∙ ap₂ (λ (b : Bool) (q : Got Target). held b x q) (reads_counted c ts) (reads_image c ts h)

-- AND NOTHING ELSE IS
abbrev pub Paper : List ℕ → Result Held Error → Type 0
Paper f (Ok h) =
    (f ≡ dfuse_of h.counted h.targets (ids_of h.identities)) × Named h.targets × (h.identities.dfu_version ≡ 0x011A) × (h.crc ≡ dw_crc (image_of h.counted h.targets) (ids_of h.identities))
Paper f (Err r) = Unit

module _ (f : List ℕ) (h : Bytes f) {x : Suffix} (e : suffix_of f ≡ Ok x) (v : x.identities.dfu_version ≡ 0x011A) where
  image : Bytes (firmware_of f)
  image = subst Bytes (part_is f e) (bytes_take (length f - 16) f h)

  paper : (q : Got Target) → LaidImage (firmware_of f) q → Paper f (held (eqb (field 6 4 (firmware_of f)) (length (firmware_of f) + 16)) x q)
  paper (Ok ts) l = (
    only_the_appendix f h e ∙ ap (λ (y : List ℕ). file_of y (ids_of x.identities)) l.0,
    l.1,
    v,
    only_the_appendix_crc f h e ∙ ap (λ (y : List ℕ). dw_crc y (ids_of x.identities)) l.0,
  )
  paper (Err r) l = tt

by_suffix_lem : (f : List ℕ) → Bytes f → (q : Result Suffix suffix.Error) → suffix_of f ≡ q → Paper f (by_suffix q (firmware_of f))
by_suffix_lem f h (Err r) e = tt
by_suffix_lem f h (Ok x) e =
    picked (Paper f) (eqb x.identities.dfu_version 0x011A) _ _
    (λ v. let w = eqb-true x.identities.dfu_version 0x011A v in paper f h e w (image_in (firmware_of f)) (only_image (firmware_of f) (image f h e w)))
    (λ v. tt)

pub only_the_paper : (f : List ℕ) → Bytes f → Paper f (dfuse_in f)
unfolding dfuse_in
only_the_paper f h = by_suffix_lem f h (suffix_of f) refl

-- IN ONE WAY: two lists that are laid out as the same file are the same
abbrev in_file : Result Held Error → Bool × List Target × Ids
in_file (Ok h) = (h.counted, h.targets, ids_of h.identities)
in_file (Err r) = (false, [], record { bcd_device = 0; id_product = 0; id_vendor = 0; bcd_dfu = 0 })

pub one_way : (c d : Bool) (ts us : List Target) (i j : Ids) → Named ts → Named us → i.bcd_dfu ≡ 0x011A → j.bcd_dfu ≡ 0x011A
    → dfuse_of c ts i ≡ dfuse_of d us j → (c ≡ d) × (ts ≡ us) × (i ≡ j)
one_way c d ts us i j h k v w e =
    let r = ap in_file (sym (reads_the_paper c ts i h v) ∙ ap dfuse_in e ∙ reads_the_paper d us j k w) in
    (ap (λ x. x.0) r, ap (λ x. x.1) r, ap (λ x. x.2) r)
