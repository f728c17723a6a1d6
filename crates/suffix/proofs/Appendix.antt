-- The reader against DFU 1.1's appendix B: its fields under our names, and that nothing is read but what the appendix lays out.
-- That all of that is read stands in AppendixRead. Assumes nothing.
use Rattle.std.proofs.Common.{◌≡◌, ℕ, zero, suc, ◌+◌, ◌-◌, ◌*◌, ◌/◌, ◌%◌, ◌<◌, List, [], ◌∷◌, ◌++◌, Bool, eqb, length, take, drop, get_or, Result, Ok, Err, refl, sym, ap, ap₂, subst, ◌∙◌, arith, length-append, length-drop}
use Rattle.std.proofs.Math.ListN.{drop_of_length-le, take-append-drop}
use Rattle.std.proofs.Math.Seq.{drop-cons, take-append-add}
use borrow.Author.Tests.{le-ltb, eqb-true}
use Rattle.ground.specs.Pick.{pick}
use Rattle.ground.specs.Bytes.{little_endian_value, field, prefix, Bytes}
use Rattle.ground.proofs.Numbers.{bytes_drop}
use Rattle.ground.proofs.Prefix.{starts}
use Rattle.ground.proofs.Tests.{picked}
use Rattle.papers.specs.Crc.{crc_of}
use Rattle.papers.specs.Suffix.{Ids, four, opening, dw_crc, file_of}
use Rattle.suffix.specs.declared.Identities.{Identities}
use Rattle.suffix.specs.declared.Suffix.{Suffix}
use Rattle.suffix.specs.declared.Error.{Error}
use Rattle.suffix.specs.Suffix.{last_of, identities_of, last_read, suffix_of, firmware_of}
use Rattle.suffix.proofs.Tested.{read_long, part_is}

-- the appendix's fields under our names, and back
abbrev pub named : Ids → Identities
named i = record { device = i.bcd_device; product = i.id_product; vendor = i.id_vendor; dfu_version = i.bcd_dfu }

abbrev pub ids_of : Identities → Ids
ids_of i = record { bcd_device = i.device; id_product = i.product; id_vendor = i.vendor; bcd_dfu = i.dfu_version }

-- so many elements from a place on, one by one
abbrev each : List ℕ → ℕ → ℕ → List ℕ
each t i zero = []
each t i (suc n) = get_or t i 0 ∷ each t (suc i) n

each_is : (t : List ℕ) (i n : ℕ) → i + n ≡ length t → drop i t ≡ each t i n
each_is t i zero e = drop_of_length-le t {i = i} (omega arith)
each_is t i (suc n) e = drop-cons t i 0 (omega arith) ∙ ap (λ (l : List ℕ). get_or t i 0 ∷ l) (each_is t (suc i) n (omega arith))

low : (x a : ℕ) → a < 256 → ((0 + x) * 256 + a) % 256 ≡ a
low x a h = omega arith

high : (x a : ℕ) → a < 256 → ((0 + x) * 256 + a) / 256 ≡ x
high x a h = omega arith

module _ (a b c d : ℕ) (h : (a < 256) × (b < 256) × (c < 256)) where
  abbrev whole : ℕ
  whole = (((0 + d) * 256 + c) * 256 + b) * 256 + a

  four_back : (whole % 256 ≡ a) × (whole / 256 % 256 ≡ b) × (whole / 65536 % 256 ≡ c) × (whole / 16777216 ≡ d)
  four_back = (omega arith, omega arith, omega arith, omega arith)

-- sixteen bytes with signature and length are a suffix of their own numbers
module _ (b0 b1 b2 b3 b4 b5 b6 b7 b8 b9 b10 b11 b12 b13 b14 b15 : ℕ) where
  abbrev bytes : List ℕ
  bytes = b0 ∷ b1 ∷ b2 ∷ b3 ∷ b4 ∷ b5 ∷ b6 ∷ b7 ∷ b8 ∷ b9 ∷ b10 ∷ b11 ∷ b12 ∷ b13 ∷ b14 ∷ b15 ∷ []

  suffix_bytes : b0 < 256 → b2 < 256 → b4 < 256 → b6 < 256 → (b12 < 256) × (b13 < 256) × (b14 < 256) → (b8 ≡ 85) × (b9 ≡ 70) × (b10 ≡ 68) × (b11 ≡ 16)
      → bytes ≡ opening (ids_of (identities_of bytes)) ++ four (field 12 4 bytes)
  unfolding field little_endian_value
  suffix_bytes h0 h2 h4 h6 h s =
      let f = four_back b12 b13 b14 b15 h in
      simp (
        low b1 b0 h0,
        high b1 b0 h0,
        low b3 b2 h2,
        high b3 b2 h2,
        low b5 b4 h4,
        high b5 b4 h4,
        low b7 b6 h6,
        high b7 b6 h6,
        f.0,
        f.1,
        f.2,
        f.3,
        s.0,
        s.1,
        s.2,
        s.3,
      )

byte_at : (t : List ℕ) → Bytes t → (i : ℕ) → get_or t i 0 < 256
byte_at [] h i = omega arith
byte_at (b ∷ t) h zero = h.0
byte_at (b ∷ t) h (suc i) = byte_at t h.1 i

abbrev UFD : List ℕ
UFD = 85 ∷ 70 ∷ 68 ∷ []

-- so of any sixteen bytes
of_itself : (t : List ℕ) → length t ≡ 16 → Bytes t → take 3 (drop 8 t) ≡ UFD → get_or t 11 0 ≡ 16
    → t ≡ opening (ids_of (identities_of t)) ++ four (field 12 4 t)
of_itself t n h s l =
    let e : t ≡ each t 0 16 = each_is t 0 16 (sym n) in
    let b : (i : ℕ) → get_or t i 0 < 256 = byte_at t h in
    subst (λ (u : List ℕ). take 3 (drop 8 u) ≡ UFD → get_or u 11 0 ≡ 16 → u ≡ opening (ids_of (identities_of u)) ++ four (field 12 4 u)) (sym e)
    (λ r m. suffix_bytes (get_or t 0 0) (get_or t 1 0) (get_or t 2 0) (get_or t 3 0) (get_or t 4 0) (get_or t 5 0) (get_or t 6 0) (get_or t 7 0) (get_or t 8 0) (get_or t 9 0)
    (get_or t 10 0) (get_or t 11 0) (get_or t 12 0) (get_or t 13 0) (get_or t 14 0) (get_or t 15 0) (b 0) (b 2) (b 4) (b 6) (b 12, b 13, b 14)
    (ap (λ (u : List ℕ). get_or u 0 0) r, ap (λ (u : List ℕ). get_or u 1 0) r, ap (λ (u : List ℕ). get_or u 2 0) r, m))
    s
    l

-- what the tests have found where the last sixteen bytes t, after the bytes b, were read
abbrev Found : List ℕ → List ℕ → Result Suffix Error → Type 0
Found t b (Ok s) = (take 3 (drop 8 t) ≡ UFD) × (get_or t 11 0 ≡ 16) × (s.identities ≡ identities_of t) × (s.crc ≡ field 12 4 t) × (field 12 4 t ≡ crc_of b)
Found t b (Err e) = Unit

found : (t b : List ℕ) → Found t b (last_read t b)
found t b =
    picked (Found t b) (prefix UFD (drop 8 t)) _ _
    (λ s. picked (Found t b) (eqb (get_or t 11 0) 16) _ _
    (λ l. picked (Found t b) (eqb (field 12 4 t) (crc_of b)) _ _
    (λ c. (starts UFD (drop 8 t) s, eqb-true (get_or t 11 0) 16 l, refl, refl, eqb-true (field 12 4 t) (crc_of b) c)) (λ n. tt))
    (λ n. tt))
    (λ n. tt)

module _ (f : List ℕ) {s : Suffix} (e : suffix_of f ≡ Ok s) where
  abbrev ended : List ℕ
  ended = take (length f - 4) f

  tests : Found (last_of f) ended (Ok s)
  unfolding suffix_of
  tests =
      subst (Found (last_of f) ended)
      (ap (λ (t : Bool). pick t (Err Error.FileTooShort) (last_read (last_of f) ended)) (sym (le-ltb (length f) 16 (read_long f e))) ∙ e)
      (found (last_of f) ended)

  -- the CRC that a file has is that of the bytes before it
  pub stored : field 12 4 (last_of f) ≡ crc_of ended
  stored = tests.4

-- AND NOTHING ELSE IS: a file that was read is the appendix's, of its firmware and its identities, in one way
module _ (f : List ℕ) (h : Bytes f) {s : Suffix} (e : suffix_of f ≡ Ok s) where
  itself : last_of f ≡ opening (ids_of s.identities) ++ four (field 12 4 (last_of f))
  itself =
      of_itself (last_of f) (omega (arith, length-drop (length f - 16) f, read_long f e)) (bytes_drop (length f - 16) f h) (tests f e).0 (tests f e).1
      ∙ ap (λ (i : Identities). opening (ids_of i) ++ four (field 12 4 (last_of f))) (sym (tests f e).2)

  parted : firmware_of f ++ last_of f ≡ f
  parted = ap (λ (l : List ℕ). l ++ last_of f) (sym (part_is f e)) ∙ take-append-drop (length f - 16) f

  covered : take (length f - 4) f ≡ firmware_of f ++ opening (ids_of s.identities)
  covered =
      let l = length-append (firmware_of f) (last_of f) in
      let n : length f - 4 ≡ length (firmware_of f) + 12 = omega (arith, l, ap length parted, length-drop (length f - 16) f, read_long f e) in
      ap₂ (λ (m : ℕ) (l : List ℕ). take m l) n (sym parted)
      ∙ take-append-add (firmware_of f) (last_of f) 12
      ∙ ap (λ (l : List ℕ). firmware_of f ++ take 12 l) itself

  pub only_the_appendix_crc : s.crc ≡ dw_crc (firmware_of f) (ids_of s.identities)
  only_the_appendix_crc = (tests f e).3 ∙ stored f e ∙ ap crc_of covered

  pub only_the_appendix : f ≡ file_of (firmware_of f) (ids_of s.identities)
  only_the_appendix =
      sym parted
      ∙ ap (λ (l : List ℕ). firmware_of f ++ l) (itself ∙ ap (λ (n : ℕ). opening (ids_of s.identities) ++ four n) (stored f e ∙ ap crc_of covered))
