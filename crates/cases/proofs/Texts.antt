-- Laws of the texts of words: pages, refusals and HEX. Assumes nothing.
use Prim.Native.Nat.{ℕ}
use mathlib.Core.Path.{◌≡◌, refl, ap, ◌∙◌}
use mathlib.Core.List.{List, [], ◌∷◌}
use native.Mathlib.Omega.{arith}
use lib.ListN.{length}
use Rattle.std.specs.Prelude.{codes}
use Rattle.cases.specs.Output.{Filled, put, puts, joined, pair_text, hex_text}

-- HEX of no bytes, and of some
pub hyphen : (f h : Filled) (bs : List ℕ) → length bs ≡ 0 → h ≡ puts f (codes " -") → h ≡ puts f (hex_text bs)
unfolding hex_text
hyphen f h [] e p = p
hyphen f h (b ∷ bs) e p = absurd (omega arith)

pub bytes : (f g h : Filled) (bs : List ℕ) → (length bs ≡ 0 → ⊥) → g ≡ put f 32 → h ≡ puts g (joined pair_text bs) → h ≡ puts f (hex_text bs)
unfolding hex_text puts
bytes f g h [] n p q = absurd (n refl)
bytes f g h (b ∷ bs) n p q = q ∙ ap (λ (t : Filled). puts t (joined pair_text (b ∷ bs))) p

-- the text of HEX
pub no_bytes : (bs : List ℕ) → length bs ≡ 0 → codes " -" ≡ hex_text bs
unfolding hex_text
no_bytes [] e = refl
no_bytes (c ∷ bs) e = absurd (omega arith)

pub some_bytes : (bs : List ℕ) → (length bs ≡ 0 → ⊥) → 32 ∷ joined pair_text bs ≡ hex_text bs
unfolding hex_text
some_bytes [] n = absurd (n refl)
some_bytes (c ∷ bs) n = refl
