-- Laws of `Begun`, a text that was begun and not ended, and of the answers that are a sink's. Assumes nothing.
use Prim.Native.Nat.{ℕ, zero, suc, ◌+◌, ◌<◌}
use mathlib.Core.Path.{◌≡◌, refl, sym, ap, ◌∙◌}
use mathlib.Core.List.{List, [], ◌∷◌, ◌++◌, append_assoc, append-nil}
use native.Mathlib.Numerals.{add-one}
use lib.ListN.{length, take, drop, get_or, take-append-drop}
use lib.Seq.{take-suc, drop-cons}
use Rattle.cases.specs.Output.{Filled, puts, Begun, joined}
use Rattle.cases.proofs.Puts.{both}

-- none of it was put
pub not_yet : (f g : Filled) (s : List ℕ) → g ≡ f → Begun f s g
unfolding puts
not_yet f g s e = (0, e)

take_left : (s t : List ℕ) (k : ℕ) → (n : ℕ) × (take k s ≡ take n (s ++ t))
take_left [] t zero = (0, refl)
take_left [] t (suc k) = (0, refl)
take_left (b ∷ s) t zero = (0, refl)
take_left (b ∷ s) t (suc k) = let r = take_left s t k in (suc r.0, ap (λ (x : List ℕ). b ∷ x) r.1)

-- what was begun is the front of a longer text, or stands behind one that was put
pub in_front : (f g : Filled) (s t : List ℕ) → Begun f s g → Begun f (s ++ t) g
in_front f g s t b =
    let n = take_left s t b.0 in
    (n.0, b.1 ∙ ap (puts f) n.1)

take_behind : (s t : List ℕ) (k : ℕ) → (n : ℕ) × (s ++ take k t ≡ take n (s ++ t))
take_behind [] t k = (k, refl)
take_behind (b ∷ s) t k = let r = take_behind s t k in (suc r.0, ap (λ (x : List ℕ). b ∷ x) r.1)

pub behind : (f g h : Filled) (s t : List ℕ) → g ≡ puts f s → Begun g t h → Begun f (s ++ t) h
behind f g h s t e b =
    let n = take_behind s t b.0 in
    (n.0, b.1 ∙ ap (λ (x : Filled). puts x (take b.0 t)) e ∙ sym (both f s (take b.0 t)) ∙ ap (puts f) n.1)

-- the texts of numbers: of some and then others; of those up to a number, and from it on
parts : (text : ℕ → List ℕ) (xs ys : List ℕ) → joined text (xs ++ ys) ≡ joined text xs ++ joined text ys
unfolding joined
parts text [] ys = refl
parts text (x ∷ xs) ys = ap (λ (t : List ℕ). text x ++ t) (parts text xs ys) ∙ sym (append_assoc (text x) (joined text xs) (joined text ys))

pub up_to : (text : ℕ → List ℕ) (xs : List ℕ) (i : ℕ) → i < length xs → joined text (take (i + 1) xs) ≡ joined text (take i xs) ++ text (get_or xs i 0)
unfolding joined
up_to text xs i h =
    ap (λ (n : ℕ). joined text (take n xs)) (add-one i)
    ∙ ap (joined text) (take-suc xs i 0 h)
    ∙ parts text (take i xs) (get_or xs i 0 ∷ [])
    ∙ ap (λ (t : List ℕ). joined text (take i xs) ++ t) (append-nil (text (get_or xs i 0)))

pub from : (text : ℕ → List ℕ) (xs : List ℕ) (i : ℕ) → i < length xs → joined text (take i xs) ++ (text (get_or xs i 0) ++ joined text (drop (suc i) xs)) ≡ joined text xs
unfolding joined
from text xs i h =
    ap (λ (t : List ℕ). joined text (take i xs) ++ joined text t) (sym (drop-cons xs i 0 h))
    ∙ sym (parts text (take i xs) (drop i xs))
    ∙ ap (joined text) (take-append-drop i xs)
