-- How many requests a plan has. Assumes nothing.
use Prim.Native.Nat.{ℕ, zero, suc, ◌+◌}
use native.Mathlib.Omega.{arith}
use mathlib.Core.Path.{◌≡◌, refl, ap, ◌∙◌}
use mathlib.Core.Bool.{Bool, true, false}
use mathlib.Core.List.{List, [], ◌∷◌, ◌++◌}
use lib.ListN.{length, length-append}
use Rattle.papers.specs.Dfuse.{set_address_command}
use Rattle.papers.specs.Plan.{Dnload, dnload, pages_for, blocks_for, erasing, several, block_number, block_of, sending, plan, commands}

pub length_several {ℓ} : {A : Type ℓ} (f : ℕ → A) (i n : ℕ) → length (several f i n) ≡ n
unfolding several
length_several f i zero = refl
length_several f i (suc n) = ap suc (length_several f (suc i) n)

pub length_erasing : (at : ℕ) (ps : List ℕ) → length (erasing at ps) ≡ length ps
unfolding erasing
length_erasing at [] = refl
length_erasing at (p ∷ ps) = ap suc (length_erasing (at + p) ps)

-- the blocks and the empty one
pub length_sending : (d : Bool) (size : ℕ) (fw : List ℕ) → length (sending d size fw) ≡ blocks_for (length fw) size + 1
length_sending d size fw =
    length-append (several (block_of d size fw) 0 (blocks_for (length fw) size)) (dnload (block_number d (blocks_for (length fw) size)) [] ∷ [])
    ∙ ap (λ (x : ℕ). x + 1) (length_several (block_of d size fw) 0 (blocks_for (length fw) size))

-- P + B + 2 requests for DfuSe, B + 1 for plain DFU
pub plan_length : (d : Bool) (a size : ℕ) (fw ps : List ℕ) → length (plan d a size fw ps) ≡ commands d (length fw) size ps
unfolding plan
plan_length true a size fw ps =
    let erased : List Dnload = erasing a (pages_for (length fw) ps) in
    let address : List Dnload = dnload 0 (set_address_command a) ∷ [] in
    omega (
      arith,
      length-append (erased ++ address) (sending true size fw),
      length-append erased address,
      length_erasing a (pages_for (length fw) ps),
      length_sending true size fw,
    )
plan_length false a size fw ps = length_sending false size fw
