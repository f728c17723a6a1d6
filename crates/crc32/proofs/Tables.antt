-- The sixteen tables: the first is the table itself, and each place after it is laid out from the one a table before it. Assumes nothing.
use Rattle.std.proofs.Common.{◌≡◌, ℕ, suc, ◌+◌, ◌-◌, ◌/◌, ◌%◌, ◌<◌, ◌≤◌, List, ◌++◌, length, get_or, set, sym, ap, ap₂, ◌∙◌, ⊎_elim, arith}
use Rattle.std.proofs.Math.ListN.{get_or-append}
use Rattle.std.proofs.Math.Seq.{get_or-set_same, get_or-set_other}
use lib.Bits.{bit_xor, xor_zero_r}
use Rattle.ground.proofs.Tests.{lt_or_ge}
use Rattle.papers.specs.Crc.{eight}
use Rattle.crc32.specs.Crc.{IsTable, eights, Laid, Tables}

-- the first table
pub first_table : (words rest : List ℕ) → length words ≡ 256 → IsTable words → Laid (words ++ rest) 256
unfolding eights
first_table words rest n r j h =
    let k : 0 ≡ j / 256 = omega arith in
    let x : j ≡ j % 256 = omega arith in get_or-append words rest 0 j (omega arith) ∙ r j h ∙ ap₂ (λ (p q : ℕ). eights (suc p) q) k x

-- what a place of the first table is made from: the byte itself
pub byte_itself : (i : ℕ) → i < 256 → i ≡ eights (i / 256) (i % 256)
unfolding eights
byte_itself i h =
    let k : 0 ≡ i / 256 = omega arith in
    let x : i ≡ i % 256 = omega arith in ap₂ eights k x

-- no place is laid out at first
pub none : (t : List ℕ) → Laid t 0
none t j h = absurd (omega arith)

module _ (t : List ℕ) (i : ℕ) (l : Laid t i) where
  -- in a later table than the first the word a table before
  pub word_before : 256 ≤ i → get_or t (i - 256) 0 ≡ eights (i / 256) (i % 256)
  word_before h =
      let k : suc ((i - 256) / 256) ≡ i / 256 = omega arith in
      let x : (i - 256) % 256 ≡ i % 256 = omega arith in l (i - 256) (omega arith) ∙ ap₂ eights k x

  -- one place more: the byte 0 takes what it is made from on by eight bits
  pub one_more : (c w : ℕ) → i < length t → c ≡ eights (i / 256) (i % 256) → w ≡ eight (bit_xor c 0) → Laid (set t i w) (i + 1)
  unfolding eights
  one_more c w b e f j g = ⊎_elim under at (lt_or_ge j i)
    where
      under : j < i → get_or (set t i w) j 0 ≡ eights (suc (j / 256)) (j % 256)
      under k = get_or-set_other t i j w 0 (λ d. omega arith) ∙ l j k

      at : i ≤ j → get_or (set t i w) j 0 ≡ eights (suc (j / 256)) (j % 256)
      at k =
          let d : i ≡ j = omega arith in
          ap (λ (n : ℕ). get_or (set t i w) n 0) (sym d)
          ∙ get_or-set_same t i w 0 b
          ∙ f
          ∙ ap eight (xor_zero_r c ∙ e ∙ ap (λ (n : ℕ). eights (n / 256) (n % 256)) d)

-- all of them are at the end
pub all : (t : List ℕ) (i : ℕ) → 4096 ≤ i → Laid t i → Tables t
all t i h l j k = l j (omega arith)
