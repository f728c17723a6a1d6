-- One byte changed is always seen: the register forgets nothing, so two registers that differ stay different. Assumes nothing.
use Rattle.std.proofs.Common.{◌≡◌, ℕ, zero, suc, ◌*◌, ◌/◌, ◌%◌, ◌^◌, ◌<◌, List, [], ◌∷◌, ◌++◌, refl, sym, ap, ◌∙◌, subst, arith}
use lib.Bits.{bit_xor, xor_self, xor_zero_l, xor_zero_r, xor_comm, xor_lt, xor_assoc}
use Rattle.ground.specs.Bytes.{Bytes}
use Rattle.papers.specs.Crc.{polynomial, shifted, eight, crc}
use Rattle.crc32.proofs.Linear.{shifted_is, shifted_xor}
use Rattle.crc32.proofs.Bytewise.{crc_append}

-- numbers whose sum is nothing are the same, and what is added to both may be left out
same : (x y : ℕ) → bit_xor x y ≡ 0 → x ≡ y
same x y e =
    sym (xor_zero_r x) ∙ ap (bit_xor x) (sym (xor_self y)) ∙ sym (xor_assoc x y y) ∙ ap (λ (z : ℕ). bit_xor z y) e ∙ xor_zero_l y

nothing : (x y : ℕ) → x ≡ y → bit_xor x y ≡ 0
nothing x y e = ap (λ (z : ℕ). bit_xor z y) e ∙ xor_self y

pub cancel : (a x y : ℕ) → bit_xor a x ≡ bit_xor a y → x ≡ y
cancel a x y e = taken x ∙ ap (bit_xor a) e ∙ sym (taken y)
  where
    taken : (z : ℕ) → z ≡ bit_xor a (bit_xor a z)
    taken z = sym (xor_zero_l z) ∙ ap (λ (n : ℕ). bit_xor n z) (sym (xor_self a)) ∙ xor_assoc a a z

-- a bit: it stays in 32 bits, and only 0 becomes 0
pub shifted_lt : (c : ℕ) → c < 2 ^ 32 → shifted c < 2 ^ 32
shifted_lt c h = subst (λ (n : ℕ). n < 2 ^ 32) (sym (shifted_is c)) (xor_lt 32 (c % 2 * polynomial) (c / 2) (omega arith) (omega arith))

emptied : (d h : ℕ) → d < 2 → h < 2 ^ 31 → bit_xor (d * polynomial) h ≡ 0 → (d ≡ 0) × (h ≡ 0)
emptied zero h k l e = (refl, e)
emptied (suc zero) h k l e = absurd (let s = same polynomial h e in omega arith)
emptied (suc (suc d)) h k l e = absurd (omega arith)

shifted_zero : (c : ℕ) → c < 2 ^ 32 → shifted c ≡ 0 → c ≡ 0
shifted_zero c h e = let z = emptied (c % 2) (c / 2) (omega arith) (omega arith) (sym (shifted_is c) ∙ e) in omega (arith, z.0, z.1)

shifted_one : (x y : ℕ) → x < 2 ^ 32 → y < 2 ^ 32 → shifted x ≡ shifted y → x ≡ y
shifted_one x y h k e =
    same x y (shifted_zero (bit_xor x y) (xor_lt 32 x y h k) (shifted_xor x y ∙ nothing (shifted x) (shifted y) e))

-- eight bits, from one bit: k of them first
bits : ℕ → ℕ → ℕ
bits zero c = c
bits (suc k) c = bits k (shifted c)

bits_lt : (k c : ℕ) → c < 2 ^ 32 → bits k c < 2 ^ 32
unfolding bits
bits_lt zero c h = h
bits_lt (suc k) c h = bits_lt k (shifted c) (shifted_lt c h)

bits_one : (k x y : ℕ) → x < 2 ^ 32 → y < 2 ^ 32 → bits k x ≡ bits k y → x ≡ y
unfolding bits
bits_one zero x y h k e = e
bits_one (suc n) x y h k e = shifted_one x y h k (bits_one n (shifted x) (shifted y) (shifted_lt x h) (shifted_lt y k) e)

eight_is : (c : ℕ) → eight c ≡ bits 8 c
unfolding eight bits
eight_is c = refl

eight_lt : (c : ℕ) → c < 2 ^ 32 → eight c < 2 ^ 32
eight_lt c h = subst (λ (n : ℕ). n < 2 ^ 32) (sym (eight_is c)) (bits_lt 8 c h)

eight_one : (x y : ℕ) → x < 2 ^ 32 → y < 2 ^ 32 → eight x ≡ eight y → x ≡ y
eight_one x y h k e = bits_one 8 x y h k (sym (eight_is x) ∙ e ∙ eight_is y)

-- bytes: the register stays in 32 bits, and two that differ stay different
added : (c b : ℕ) → c < 2 ^ 32 → b < 256 → bit_xor c b < 2 ^ 32
added c b h k = xor_lt 32 c b h (omega arith)

pub crc_lt : (c : ℕ) (bs : List ℕ) → c < 2 ^ 32 → Bytes bs → crc c bs < 2 ^ 32
unfolding crc
crc_lt c [] h k = h
crc_lt c (b ∷ bs) h k = crc_lt (eight (bit_xor c b)) bs (eight_lt (bit_xor c b) (added c b h k.0)) k.1

pub crc_one : (x y : ℕ) (bs : List ℕ) → x < 2 ^ 32 → y < 2 ^ 32 → Bytes bs → crc x bs ≡ crc y bs → x ≡ y
unfolding crc
crc_one x y [] h k l e = e
crc_one x y (b ∷ bs) h k l e =
    let p = added x b h l.0 in
    let q = added y b k l.0 in
    cancel b x y
    (xor_comm b x
    ∙ eight_one (bit_xor x b) (bit_xor y b) p q (crc_one (eight (bit_xor x b)) (eight (bit_xor y b)) bs (eight_lt (bit_xor x b) p) (eight_lt (bit_xor y b) q) l.1 e)
    ∙ xor_comm y b)

-- ONE BYTE: of two lists of bytes that differ in it alone the CRC differs
pub byte_seen : (c : ℕ) (p q : List ℕ) (a b : ℕ) → c < 2 ^ 32 → Bytes p → Bytes q → a < 256 → b < 256 → crc c (p ++ (a ∷ q)) ≡ crc c (p ++ (b ∷ q)) → a ≡ b
unfolding crc
byte_seen c p q a b h k l s t e =
    let r = crc c p in
    let u = crc_lt c p h k in
    cancel r a b
    (eight_one (bit_xor r a) (bit_xor r b) (added r a u s) (added r b u t)
    (crc_one (eight (bit_xor r a)) (eight (bit_xor r b)) q (eight_lt (bit_xor r a) (added r a u s)) (eight_lt (bit_xor r b) (added r b u t)) l
    (sym (crc_append c p (a ∷ q)) ∙ e ∙ crc_append c p (b ∷ q))))
