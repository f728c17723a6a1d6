-- Laws of `hex_at` and `last_hex_at`: one for each way that their readers go. Assumes nothing.
use Prim.Native.Nat.{ℕ, ◌+◌, ◌≤◌}
use mathlib.Core.Path.{◌≡◌, refl, ap, ◌∙◌}
use mathlib.Core.List.{List}
use lib.ListN.{length, get_or, get_or-eq_default}
use borrow.Author.Tests.{eq-eqb, ne_eqb}
use Rattle.cases.specs.declared.words.Bytes.{Bytes}
use Rattle.std.specs.Prelude.{Option, Some, None}
use Rattle.std.specs.Bool.{then_some}
use mathlib.Core.Bool.{Bool, true, false}
use lib.Dec.{eqb}
use Rattle.ground.specs.Pick.{pick}
use Rattle.cases.specs.Words.{hex_bytes, Taken, taken, pairs_at, hex_at, ending, last_hex_at}
use Rattle.cases.proofs.Pairs.{none}

pub nothing : (line : List ℕ) (at : ℕ) (bs : List ℕ) → length line ≤ at → taken None bs ≡ hex_at line at bs
unfolding hex_at
nothing line at bs h = simp (get_or-eq_default line 0 h) (none line at bs h)

pub hyphen : (line : List ℕ) (at : ℕ) (bs : List ℕ) → get_or line at 0 ≡ 45 → taken (Some (hex_bytes 0 (at + 1))) bs ≡ hex_at line at bs
unfolding hex_at
hyphen line at bs e = simp (eq-eqb (get_or line at 0) 45 e)

pub other : (line : List ℕ) (at : ℕ) (bs : List ℕ) (t : Taken) → (get_or line at 0 ≡ 45 → ⊥) → t ≡ pairs_at line at bs → t ≡ hex_at line at bs
unfolding hex_at
other line at bs t n e = simp (ne_eqb (get_or line at 0) 45 n) e

-- the library's choice is the definition's
chosen : {A : Type 0} (t : Bool) (x : A) → then_some t x ≡ pick t (Some x) None
chosen true x = refl
chosen false x = refl

pub ends : (line : List ℕ) (b : Bytes) → then_some (eqb b.end (length line)) b ≡ ending line (Some b)
ends line b = chosen (eqb b.end (length line)) b

-- what HEX gave, and what is answered
pub last : (line : List ℕ) (at : ℕ) (bs bytes : List ℕ) (read answer : Option Bytes)
    → taken read bytes ≡ hex_at line at bs → answer ≡ ending line read → taken answer bytes ≡ last_hex_at line at bs
unfolding last_hex_at
last line at bs bytes read answer h e =
    ap (λ (r : Option Bytes). taken r bytes) e ∙ ap (λ (t : Taken). taken (ending line t.answer) t.buffer) h
