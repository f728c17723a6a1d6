-- The table's rule at all of its words, by one test that is computed, word after word. Assumes nothing.
use Rattle.std.proofs.Common.{◌≡◌, ℕ, zero, suc, ◌+◌, ◌<◌, List, [], ◌∷◌, Bool, true, false, T, eqb, length, get_or, ap, ◌∙◌, arith}
use lib.Dec.{eqb→eq}
use Rattle.ground.specs.Pick.{pick}
use Rattle.papers.specs.Crc.{eight}
use Rattle.crc32.specs.Crc.{IsTable}

-- whether each word is what eight bits make of its place, counted from i
abbrev pub ruled : ℕ → List ℕ → Bool
ruled i [] = true
ruled i (w ∷ ws) = pick (eqb w (eight i)) (ruled (suc i) ws) false

first : (s t : Bool) → T (pick s t false) → T s
first true t h = tt
first false t h = h

rest : (s t : Bool) → T (pick s t false) → T t
rest true t h = h
rest false t h = absurd h

at : (i : ℕ) (ws : List ℕ) → T (ruled i ws) → (x : ℕ) → x < length ws → get_or ws x 0 ≡ eight (i + x)
at i [] t x h = absurd (omega arith)
at i (w ∷ ws) t zero h =
    let e : i ≡ i + 0 = omega arith in eqb→eq w (eight i) (first (eqb w (eight i)) (ruled (suc i) ws) t) ∙ ap eight e
at i (w ∷ ws) t (suc x) h =
    let e : suc i + x ≡ i + suc x = omega arith in at (suc i) ws (rest (eqb w (eight i)) (ruled (suc i) ws) t) x (omega arith) ∙ ap eight e

pub rule : (ws : List ℕ) → length ws ≡ 256 → T (ruled 0 ws) → IsTable ws
rule ws n t x h = let e : 0 + x ≡ x = omega arith in at 0 ws t x (omega arith) ∙ ap eight e
