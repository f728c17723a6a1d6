-- Slicing: the register is a sum, so of many bytes each goes through a table of its own. Assumes nothing.
use Rattle.std.proofs.Common.{◌≡◌, ℕ, zero, suc, ◌+◌, ◌*◌, ◌-◌, ◌/◌, ◌%◌, ◌^◌, ◌<◌, ◌≤◌, List, [], ◌∷◌, length, get_or, drop, refl, sym, ap, ap₂, ◌∙◌, arith}
use lib.Bits.{bit_xor, xor_shr, xor_mod, xor_assoc}
use Rattle.papers.specs.Crc.{eight, crc}
use Rattle.crc32.specs.Crc.{eights}
use Rattle.crc32.proofs.Linear.{eight_xor, table_step}

-- eight bits more, before the others or after them
first : (k x : ℕ) → eights k (eight x) ≡ eights (suc k) x
unfolding eights
first zero x = refl
first (suc k) x = ap eight (first k x)

-- THE REGISTER IS A SUM: what one part of it becomes, and what the bytes make of the other
pub crc_xor : (x y : ℕ) (bs : List ℕ) → crc (bit_xor x y) bs ≡ bit_xor (eights (length bs) x) (crc y bs)
unfolding crc eights
crc_xor x y [] = refl
crc_xor x y (b ∷ bs) =
    ap (λ (c : ℕ). crc c bs) (ap eight (xor_assoc x y b) ∙ eight_xor x (bit_xor y b))
    ∙ crc_xor (eight x) (eight (bit_xor y b)) bs
    ∙ ap (λ (z : ℕ). bit_xor z (crc (eight (bit_xor y b)) bs)) (first (length bs) x)

-- SLICING: a list's first byte goes through the table of the list's length, and what is above it goes on by itself
pub slice : (c b : ℕ) (bs : List ℕ) → b < 256 → bit_xor (eights (suc (length bs)) (bit_xor c b % 256)) (crc (c / 256) bs) ≡ crc c (b ∷ bs)
unfolding crc
slice c b bs h =
    ap (λ (z : ℕ). bit_xor z (crc (c / 256) bs)) (sym (first (length bs) (bit_xor c b % 256)))
    ∙ sym (crc_xor (eight (bit_xor c b % 256)) (c / 256) bs)
    ∙ ap (λ (z : ℕ). crc z bs) (table_step c b h)

-- a word that is added whole: each of its bytes is added at its place
low : (c w b : ℕ) → w % 256 ≡ b % 256 → bit_xor c w % 256 ≡ bit_xor c b % 256
low c w b e = xor_mod c w 8 ∙ ap (bit_xor (c % 256)) e ∙ sym (xor_mod c b 8)

high : (k c w b : ℕ) → w / 2 ^ k % 256 ≡ b % 256 → bit_xor c w / 2 ^ k % 256 ≡ bit_xor (c / 2 ^ k) b % 256
high k c w b e = ap (λ (x : ℕ). x % 256) (xor_shr c w k) ∙ low (c / 2 ^ k) (w / 2 ^ k) b e

-- four bytes, each by its table, from table k + 3 down to table k, added to r
abbrev pub four_by : ℕ → ℕ → ℕ → ℕ → ℕ → ℕ → ℕ
four_by k x0 x1 x2 x3 r = bit_xor (eights (suc (k + 3)) x0) (bit_xor (eights (suc (k + 2)) x1) (bit_xor (eights (suc (k + 1)) x2) (bit_xor (eights (suc k) x3) r)))

module _ (c k r x0 x1 x2 x3 : ℕ) (hc : c < 2 ^ 32) where
  -- four bytes, each added to its part of the register, before the k bytes after them
  pub fours : (b0 b1 b2 b3 : ℕ) (bs : List ℕ) → b0 < 256 → b1 < 256 → b2 < 256 → b3 < 256 → k ≡ length bs → r ≡ crc 0 bs
      → x0 ≡ bit_xor c b0 % 256 → x1 ≡ bit_xor (c / 2 ^ 8) b1 % 256 → x2 ≡ bit_xor (c / 2 ^ 16) b2 % 256 → x3 ≡ bit_xor (c / 2 ^ 24) b3 % 256
      → four_by k x0 x1 x2 x3 r ≡ crc c (b0 ∷ b1 ∷ b2 ∷ b3 ∷ bs)
  fours b0 b1 b2 b3 bs h0 h1 h2 h3 n er e0 e1 e2 e3 =
      one c (c / 2 ^ 8) b0 (k + 3) (b1 ∷ b2 ∷ b3 ∷ bs) x0 _ h0 (omega arith) (omega arith) e0
      (one (c / 2 ^ 8) (c / 2 ^ 16) b1 (k + 2) (b2 ∷ b3 ∷ bs) x1 _ h1 (omega arith) (omega arith) e1
      (one (c / 2 ^ 16) (c / 2 ^ 24) b2 (k + 1) (b3 ∷ bs) x2 _ h2 (omega arith) (omega arith) e2 (one (c / 2 ^ 24) 0 b3 k bs x3 r h3 (omega arith) n e3 er)))
    where
      one : (c d b n : ℕ) (s : List ℕ) (x r : ℕ) → b < 256 → d ≡ c / 256 → n ≡ length s → x ≡ bit_xor c b % 256 → r ≡ crc d s → bit_xor (eights (suc n) x) r ≡ crc c (b ∷ s)
      one c d b n s x r h ed en ex er = ap₂ bit_xor (ap₂ (λ (m y : ℕ). eights (suc m) y) en ex) (er ∙ ap (λ (z : ℕ). crc z s) ed) ∙ slice c b s h

  -- the same of a list's first four, that are added to the register as one word
  pub word_fours : (w : ℕ) (s : List ℕ) → ((i : ℕ) → get_or s i 0 < 256) → 4 ≤ length s → k ≡ length s - 4 → r ≡ crc 0 (drop 4 s)
      → w ≡ get_or s 0 0 + get_or s 1 0 * 256 + get_or s 2 0 * 65536 + get_or s 3 0 * 16777216
      → x0 ≡ bit_xor c w % 256 → x1 ≡ bit_xor c w / 2 ^ 8 % 256 → x2 ≡ bit_xor c w / 2 ^ 16 % 256 → x3 ≡ bit_xor c w / 2 ^ 24 % 256
      → four_by k x0 x1 x2 x3 r ≡ crc c s
  word_fours w [] byte h ek er ew e0 e1 e2 e3 = absurd (omega arith)
  word_fours w (a ∷ []) byte h ek er ew e0 e1 e2 e3 = absurd (omega arith)
  word_fours w (a ∷ b ∷ []) byte h ek er ew e0 e1 e2 e3 = absurd (omega arith)
  word_fours w (a ∷ b ∷ d ∷ []) byte h ek er ew e0 e1 e2 e3 = absurd (omega arith)
  word_fours w (b0 ∷ b1 ∷ b2 ∷ b3 ∷ bs) byte h ek er ew e0 e1 e2 e3 =
      let h0 : b0 < 256 = byte 0 in
      let h1 : b1 < 256 = byte 1 in
      let h2 : b2 < 256 = byte 2 in
      let h3 : b3 < 256 = byte 3 in
      fours b0 b1 b2 b3 bs h0 h1 h2 h3 (omega arith) er
      (e0 ∙ low c w b0 (omega arith)) (e1 ∙ high 8 c w b1 (omega arith))
      (e2 ∙ high 16 c w b2 (omega arith)) (e3 ∙ high 24 c w b3 (omega arith))
