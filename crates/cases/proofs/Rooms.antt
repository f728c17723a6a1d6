-- Laws of `NeverFull`: a buffer with room for a text is never full on the way, and what holds of a text holds of its parts. Assumes nothing.
use Prim.Native.Nat.{ℕ, suc, ◌+◌, ◌<◌, ◌≤◌}
use mathlib.Core.Path.{◌≡◌, sym, ap, subst, ◌∙◌}
use mathlib.Core.List.{List, [], ◌∷◌, ◌++◌}
use native.Mathlib.Omega.{arith}
use lib.ListN.{length, take, drop, get_or, set, length-set, take-append-drop}
use lib.Seq.{drop-cons}
use Rattle.cases.specs.Output.{Filled, filled, put, puts, NeverFull, joined}
use Rattle.cases.proofs.Puts.{fits}
use Rattle.cases.proofs.Begins.{from}

-- where there is room for all of it
pub roomy : (f : Filled) (s : List ℕ) → f.held + length s ≤ length f.bytes → NeverFull f s
roomy f [] h = tt
roomy f (b ∷ s) h = (
  λ e. omega (arith, h, e),
  subst (λ (g : Filled). NeverFull g s) (fits f.bytes f.held b (omega (arith, h)))
      (roomy (filled (set f.bytes f.held b) (f.held + 1)) s (omega (arith, h, length-set f.bytes f.held b))),
)

pub same : (f : Filled) (s t : List ℕ) → s ≡ t → NeverFull f s → NeverFull f t
same f s t e h = subst (NeverFull f) e h

-- for the front of a text, and for what stands behind it
pub front : (f : Filled) (s t : List ℕ) → NeverFull f (s ++ t) → NeverFull f s
front f [] t h = tt
front f (b ∷ s) t h = (h.0, front (put f b) s t h.1)

rest : (f : Filled) (s t : List ℕ) → NeverFull f (s ++ t) → NeverFull (puts f s) t
unfolding puts
rest f [] t h = h
rest f (b ∷ s) t h = rest (put f b) s t h.1

pub behind : (f g : Filled) (s t : List ℕ) → g ≡ puts f s → NeverFull f (s ++ t) → NeverFull g t
behind f g s t e h = subst (λ (x : Filled). NeverFull x t) (sym e) (rest f s t h)

-- for a byte of a text, and for a number's text
pub byte : (f g : Filled) (s : List ℕ) (i : ℕ) → i < length s → g ≡ puts f (take i s) → NeverFull f s → NeverFull g (get_or s i 0 ∷ [])
byte f g s i k e h =
    front g (get_or s i 0 ∷ []) (drop (suc i) s)
    (behind f g (take i s) (get_or s i 0 ∷ drop (suc i) s) e
    (same f _ _ (sym (take-append-drop i s) ∙ ap (λ (t : List ℕ). take i s ++ t) (drop-cons s i 0 k)) h))

pub amid : (text : ℕ → List ℕ) (f g : Filled) (xs : List ℕ) (i : ℕ) → i < length xs → g ≡ puts f (joined text (take i xs)) → NeverFull f (joined text xs) → NeverFull g (text (get_or xs i 0))
amid text f g xs i k e h =
    front g (text (get_or xs i 0)) (joined text (drop (suc i) xs))
    (behind f g (joined text (take i xs)) (text (get_or xs i 0) ++ joined text (drop (suc i) xs)) e (same f _ _ (sym (from text xs i k)) h))
