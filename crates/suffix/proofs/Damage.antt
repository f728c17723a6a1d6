-- One damaged byte is always seen: of two files that differ in one byte alone at most one is read. Assumes nothing.
use Rattle.std.proofs.Common.{◌≡◌, ℕ, suc, ◌+◌, ◌-◌, ◌<◌, ◌≤◌, List, [], ◌∷◌, ◌++◌, length, take, drop, get_or, Ok, refl, sym, ap, ap₂, ◌∙◌, ⊎_elim, arith, length-append, length-drop}
use Rattle.std.proofs.Math.Seq.{take_all, take-append-le, take-append-add, drop-append-le, drop-append-add, drop-drop, get_or-append_seam}
use Rattle.ground.specs.Bytes.{little_endian_value, field, Bytes}
use Rattle.ground.proofs.Numbers.{bytes_take, bytes_drop}
use Rattle.ground.proofs.Tests.{lt_or_ge}
use Rattle.papers.specs.Crc.{crc_of}
use Rattle.crc32.proofs.Damage.{byte_seen}
use Rattle.suffix.specs.Suffix.{suffix_of}
use Rattle.suffix.specs.declared.Suffix.{Suffix}
use Rattle.suffix.proofs.Tested.{read_long}
use Rattle.suffix.proofs.Appendix.{stored}

-- as many bytes that are the same number are the same bytes
number_one : (xs ys : List ℕ) → length xs ≡ length ys → Bytes xs → Bytes ys → little_endian_value xs ≡ little_endian_value ys → xs ≡ ys
unfolding little_endian_value
number_one [] [] n h k e = refl
number_one [] (y ∷ ys) n h k e = absurd (omega arith)
number_one (x ∷ xs) [] n h k e = absurd (omega arith)
number_one (x ∷ xs) (y ∷ ys) n h k e =
    ap₂ (λ (z : ℕ) (zs : List ℕ). z ∷ zs) (omega (arith, h.0, k.0)) (number_one xs ys (omega arith) h.1 k.1 (omega (arith, h.0, k.0)))

-- a read file's last four bytes are the CRC of those before them
last_four : (f : List ℕ) {s : Suffix} → suffix_of f ≡ Ok s → little_endian_value (drop (length f - 4) f) ≡ crc_of (take (length f - 4) f)
unfolding field
last_four f e =
    let h = read_long f e in
    let n : length f - 16 + 12 ≡ length f - 4 = omega (arith, h) in
    sym (ap little_endian_value
    (ap (take 4) (drop-drop 12 (length f - 16) f ∙ ap (λ (m : ℕ). drop m f) n) ∙ take_all 4 (drop (length f - 4) f) (omega (arith, h, length-drop (length f - 4) f))))
    ∙ stored f e

bytes_append : (p q : List ℕ) → Bytes p → Bytes q → Bytes (p ++ q)
bytes_append [] q h k = k
bytes_append (x ∷ p) q h k = (h.0, bytes_append p q h.1 k)

module _ (p q : List ℕ) (hp : Bytes p) (hq : Bytes q) where
  abbrev with : ℕ → List ℕ
  with x = p ++ (x ∷ q)

  long : (x : ℕ) → length (with x) ≡ length p + suc (length q)
  long x = length-append p (x ∷ q)

  -- the byte stands before the CRC: the CRC's bytes are the same, and those that it is over differ in the byte
  module _ (m : ℕ) (n : length q ≡ m + 4) where
    place : (x : ℕ) → length (with x) - 4 ≡ length p + suc m
    place x = omega (arith, long x)

    over : (x : ℕ) → take (length (with x) - 4) (with x) ≡ p ++ (x ∷ take m q)
    over x = ap (λ (k : ℕ). take k (with x)) (place x) ∙ take-append-add p (x ∷ q) (suc m)

    after : (x : ℕ) → drop (length (with x) - 4) (with x) ≡ drop m q
    after x = ap (λ (k : ℕ). drop k (with x)) (place x) ∙ drop-append-add p (x ∷ q) (suc m)

    covered : (a b : ℕ) → a < 256 → b < 256 → {s t : Suffix} → suffix_of (with a) ≡ Ok s → suffix_of (with b) ≡ Ok t → a ≡ b
    covered a b h k e f =
        byte_seen 0xFFFFFFFF p (take m q) a b (omega arith) hp (bytes_take m q hq) h k
        (ap crc_of (sym (over a))
        ∙ sym (last_four (with a) e)
        ∙ ap little_endian_value (after a ∙ sym (after b))
        ∙ last_four (with b) f
        ∙ ap crc_of (over b))

  -- it stands in the CRC: the bytes that the CRC is over are the same, and so is the CRC
  module _ (n : length q < 4) where
    from : ℕ
    from = length p + suc (length q) - 4

    place_in : (x : ℕ) → length (with x) - 4 ≡ from
    unfolding from
    place_in x = omega (arith, long x)

    inside : from ≤ length p
    unfolding from
    inside = omega arith

    tail : ℕ → List ℕ
    tail x = drop from p ++ (x ∷ q)

    number : (x : ℕ) → {s : Suffix} → suffix_of (with x) ≡ Ok s → little_endian_value (tail x) ≡ crc_of (take from p)
    unfolding tail
    number x e =
        ap little_endian_value (sym (ap (λ (k : ℕ). drop k (with x)) (place_in x) ∙ drop-append-le from p (x ∷ q) inside))
        ∙ last_four (with x) e
        ∙ ap crc_of (ap (λ (k : ℕ). take k (with x)) (place_in x) ∙ take-append-le from p (x ∷ q) inside)

    tail_bytes : (x : ℕ) → x < 256 → Bytes (tail x)
    unfolding tail
    tail_bytes x h = bytes_append (drop from p) (x ∷ q) (bytes_drop from p hp) (h, hq)

    tail_long : (x : ℕ) → length (tail x) ≡ length (drop from p) + suc (length q)
    unfolding tail
    tail_long x = length-append (drop from p) (x ∷ q)

    at : (x : ℕ) → get_or (tail x) (length (drop from p)) 0 ≡ x
    unfolding tail
    at x = get_or-append_seam (drop from p) x q 0

    within : (a b : ℕ) → a < 256 → b < 256 → {s t : Suffix} → suffix_of (with a) ≡ Ok s → suffix_of (with b) ≡ Ok t → a ≡ b
    within a b h k e f =
        let t = number_one (tail a) (tail b) (tail_long a ∙ sym (tail_long b)) (tail_bytes a h) (tail_bytes b k) (number a e ∙ sym (number b f)) in
        sym (at a) ∙ ap (λ (l : List ℕ). get_or l (length (drop from p)) 0) t ∙ at b

  -- ONE DAMAGED BYTE IS SEEN, wherever it stands: files that differ in it alone and are both read don't differ
  pub one_byte_is_seen : (a b : ℕ) → a < 256 → b < 256 → {s t : Suffix} → suffix_of (with a) ≡ Ok s → suffix_of (with b) ≡ Ok t → a ≡ b
  one_byte_is_seen a b h k e f =
      ⊎_elim (λ l. within l a b h k e f) (λ g. let n : length q ≡ length q - 4 + 4 = omega arith in covered (length q - 4) n a b h k e f) (lt_or_ge (length q) 4)
