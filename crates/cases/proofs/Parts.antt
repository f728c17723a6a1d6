-- What the library's `get` says of a line from a place on. Assumes nothing.
use Rattle.std.proofs.Common.{◌≡◌, ℕ, ◌+◌, ◌<◌, ◌⊎◌, List, length, get_or, drop, ap, ◌∙◌, ⊎_elim, arith}
use Rattle.std.proofs.lemmas.List.{get_or-drop}
use Rattle.std.specs.List.{slice_range}
use Rattle.ground.proofs.Lists.{onwards}

-- the place lies past the end
pub past_end : (at n : ℕ) → (n < at) ⊎ (n < n) → n < at
past_end at n h = ⊎_elim (λ l. l) (λ l. absurd (omega arith)) h

-- all from the place on, and an element of it
pub onward : (s rest : List ℕ) (at : ℕ) → rest ≡ slice_range s at (length s) → rest ≡ drop at s
onward s rest at e = e ∙ onwards at s

pub element : (s rest : List ℕ) (at i : ℕ) → rest ≡ slice_range s at (length s) → get_or rest i 0 ≡ get_or s (at + i) 0
element s rest at i e = ap (λ (t : List ℕ). get_or t i 0) (onward s rest at e) ∙ get_or-drop at s i 0
