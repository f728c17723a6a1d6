-- A byte by the table, and the bytes one after the other. Assumes nothing.
use Rattle.std.proofs.Common.{◌≡◌, ℕ, ◌/◌, ◌%◌, ◌<◌, ◌≤◌, List, [], ◌∷◌, ◌++◌, length, get_or, take, drop, fold, refl, sym, ap, ◌∙◌, arith}
use Rattle.std.proofs.Math.ListN.{drop_of_length-le, take-append-drop}
use lib.Bits.{bit_xor}
use Rattle.papers.specs.Crc.{eight, crc}
use Rattle.crc32.specs.Crc.{IsTable}
use Rattle.crc32.proofs.Linear.{table_step}

-- bytes and then more bytes
pub crc_append : (c : ℕ) (xs ys : List ℕ) → crc c (xs ++ ys) ≡ crc (crc c xs) ys
unfolding crc
crc_append c [] ys = refl
crc_append c (x ∷ xs) ys = crc_append (eight (bit_xor c x)) xs ys

-- so many of the bytes, and then the others
pub onward : (c n : ℕ) (bs : List ℕ) → crc (crc c (take n bs)) (drop n bs) ≡ crc c bs
onward c n bs = sym (crc_append c (take n bs) (drop n bs)) ∙ ap (crc c) (take-append-drop n bs)

-- past their end nothing is left
pub over : (s : List ℕ) (i c : ℕ) → length s ≤ i → c ≡ crc c (drop i s)
unfolding crc
over s i c h = rw (drop_of_length-le s h)

-- one byte by a table that has the rule
pub looked_up : (t : List ℕ) (c b x : ℕ) → IsTable t → b < 256 → x ≡ bit_xor c b % 256 → bit_xor (get_or t x 0) (c / 256) ≡ eight (bit_xor c b)
looked_up t c b x r h e =
    ap (λ (y : ℕ). bit_xor y (c / 256)) (r x (omega arith) ∙ ap eight e) ∙ table_step c b h

-- the bytes one after the other are a fold
pub crc_is_fold : (c : ℕ) (bs : List ℕ) → crc c bs ≡ fold (λ (r b : ℕ). eight (bit_xor r b)) c bs
unfolding crc
crc_is_fold c [] = refl
crc_is_fold c (b ∷ bs) = crc_is_fold (eight (bit_xor c b)) bs
