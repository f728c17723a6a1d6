-- The bytes of the blocks: each of the firmware's once, in order. Assumes nothing.
use Rattle.std.proofs.Common.{ℕ, zero, suc, ◌+◌, ◌-◌, ◌*◌, ◌<◌, arith, ◌≡◌, ap, sym, ◌∙◌, List, ◌++◌, length, drop, take-append-drop, drop_of_length-le, drop-drop}
use Rattle.papers.specs.Plan.{several, bytes_of, blocks_for, joined}
use Rattle.work.specs.Work.{block_count}
use Rattle.work.proofs.Fills.{block_count_none, block_count_next}
use Rattle.plan.proofs.Agree.{blocks_agree}

-- the blocks' bytes from the i-th on are the firmware from there on: each byte once, in order
joined_from : (size : ℕ) (fw : List ℕ) (c i : ℕ) → 0 < size → block_count (length fw - i * size) size ≡ c
    → joined (several (bytes_of size fw) i c) ≡ drop (i * size) fw
unfolding joined several
joined_from size fw zero i h e =
    let z : length fw - i * size ≡ 0 = block_count_none _ _ h e in
    sym (drop_of_length-le fw {i = i * size} (omega arith))
joined_from size fw (suc c) i h e =
    let z : suc i * size ≡ i * size + size = omega arith in
    let tail : drop (suc i * size) fw ≡ drop size (drop (i * size) fw) = ap (λ (x : ℕ). drop x fw) z ∙ sym (drop-drop size (i * size) fw) in
    ap (λ (x : List ℕ). bytes_of size fw i ++ x) (joined_from size fw c (suc i) h (block_count_next (length fw) size i c h e) ∙ tail)
    ∙ take-append-drop size (drop (i * size) fw)

pub carries_the_firmware : (size : ℕ) (fw : List ℕ) → 0 < size → joined (several (bytes_of size fw) 0 (blocks_for (length fw) size)) ≡ fw
carries_the_firmware size fw h =
    let z : 0 * size ≡ 0 = omega arith in
    ap (λ (c : ℕ). joined (several (bytes_of size fw) 0 c)) (blocks_agree (length fw) size)
    ∙ joined_from size fw (block_count (length fw) size) 0 h (ap (λ (x : ℕ). block_count x size) (omega arith))
    ∙ ap (λ (x : ℕ). drop x fw) z
