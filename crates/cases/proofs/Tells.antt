-- Laws of `Told`: no byte of a transcript is lost. Assumes nothing.
use Prim.Native.Nat.{ℕ, ◌+◌, ◌<◌, ◌≤◌}
use mathlib.Core.Path.{◌≡◌, refl, sym, ap, ◌∙◌}
use mathlib.Core.List.{List, [], ◌∷◌, ◌++◌, append_assoc, append-nil}
use native.Mathlib.Numerals.{add-one}
use native.Mathlib.Omega.{arith}
use lib.ListN.{length, take, set, length-set}
use lib.Seq.{take-suc-set}
use Rattle.std.proofs.Common.{Some, None}
use Rattle.std.specs.Io.KnownBytes.{Appends}
use Rattle.std.specs.declared.option.Option.{Option}
use Rattle.cases.specs.Output.{Filled, filled, Told}

appends_none : (a : Option (List ℕ)) → Appends a a []
appends_none None = tt
appends_none (Some xs) = sym (append-nil xs)

appends_both : (a b c : Option (List ℕ)) (s t : List ℕ) → Appends a b s → Appends b c t → Appends a c (s ++ t)
appends_both None b c s t p q = tt
appends_both (Some xs) None c s t p q = absurd p
appends_both (Some xs) (Some ys) None s t p q = absurd q
appends_both (Some xs) (Some ys) (Some zs) s t p q = q ∙ ap (λ (u : List ℕ). u ++ t) p ∙ append_assoc xs s t

-- no text, one text behind another, and the same text
pub silent : (a : Option (List ℕ)) (f : Filled) → Told a f a f []
silent a f = λ sound. (sound, appends_none _)

pub both : (a b c : Option (List ℕ)) (f g h : Filled) (s t : List ℕ) → Told a f b g s → Told b g c h t → Told a f c h (s ++ t)
both a b c f g h s t p q = λ sound. let x = p sound in let y = q x.0 in (y.0, appends_both _ _ _ s t x.1 y.1)

-- a byte: into a buffer with room, and into one that was written out
pub fits : (a : Option (List ℕ)) (out : List ℕ) (at b : ℕ) → at < length out → Told a (filled out at) a (filled (set out at b) (at + 1)) (b ∷ [])
fits None out at b h = λ sound. ((omega (arith, length-set out at b), omega (arith, length-set out at b)), tt)
fits (Some xs) out at b h = λ sound. (
  (omega (arith, length-set out at b), omega (arith, length-set out at b)),
  ap (λ (n : ℕ). xs ++ take n (set out at b)) (add-one at) ∙ ap (λ (t : List ℕ). xs ++ t) (take-suc-set out at b h) ∙ sym (append_assoc xs (take at out) (b ∷ [])),
)

first_set : (out : List ℕ) (b : ℕ) → 0 < length out → take 1 (set out 0 b) ≡ b ∷ []
first_set [] b h = absurd (omega arith)
first_set (x ∷ out) b h = refl

pub written : (a c : Option (List ℕ)) (out : List ℕ) (at b : ℕ) → 0 < length out → (at ≤ length out → Appends a c (take at out)) → Told a (filled out at) c (filled (set out 0 b) 1) (b ∷ [])
written None c out at b h p = λ sound. ((omega (arith, length-set out 0 b), omega (arith, length-set out 0 b)), tt)
written (Some xs) None out at b h p = λ sound. absurd (p sound.1)
written (Some xs) (Some ys) out at b h p = λ sound. (
  (omega (arith, length-set out 0 b), omega (arith, length-set out 0 b)),
  ap (λ (t : List ℕ). ys ++ t) (first_set out b h) ∙ ap (λ (t : List ℕ). t ++ (b ∷ [])) (p sound.1),
)

pub roomless : (a c : Option (List ℕ)) (f g : Filled) (s : List ℕ) → length f.bytes ≤ 0 → Told a f c g s
roomless a c f g s h = λ sound. absurd (omega arith)
