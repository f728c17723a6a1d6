-- The plan by meaning, put on the wire, is the papers' plan. Assumes nothing.
use Rattle.std.proofs.Common.{ℕ, zero, suc, ◌+◌, ◌-◌, ◌*◌, ◌<◌, ◌≤◌, min, arith, ◌≡◌, refl, ap, sym, ◌∙◌, Bool, true, false, List, [], ◌∷◌, ◌++◌, map, length, take, drop, length-drop, leb, le-leb}
use mathlib.Core.List.{map-append}
use Rattle.ground.proofs.Lists.{take_min}
use Rattle.papers.specs.Requests.{DFU_DNLOAD}
use Rattle.papers.specs.Dfuse.{erase_command, set_address_command}
use Rattle.papers.specs.Plan.{Dnload, dnload, erasing, several, block_number, bytes_of, block_of, plan, pages_for}
use Rattle.papers.proofs.Numbers.{block_length_lem}
use Rattle.work.specs.Work.{block_count}
use Rattle.work.proofs.Fills.{blocks_within}
use Rattle.download.specs.Download.{covering}
use Rattle.plan.proofs.Agree.{pages_agree, blocks_agree}
use Rattle.plan.specs.Sent.{on_wire}
use Rattle.plan.proofs.Wire.{erase_command_lem, address_command}
use Rattle.promises.specs.Words.{pick, Command, Setup}
use Rattle.promises.proofs.Wanted.{erases, block_at, blocks_of, prepared, wanted}

-- each kind of request
erase_on_wire : (fw : List ℕ) (a : ℕ) → on_wire fw (Command.Erase a) ≡ dnload 0 (erase_command a)
erase_on_wire fw a = ap (λ (b : List ℕ). record { setup = DFU_DNLOAD 0 5; bytes = b }) (erase_command_lem a fw [])

address_on_wire : (fw : List ℕ) (a : ℕ) → on_wire fw (Command.SetAddress a) ≡ dnload 0 (set_address_command a)
address_on_wire fw a = ap (λ (b : List ℕ). record { setup = DFU_DNLOAD 0 5; bytes = b }) (address_command a fw [])

block_on_wire : (fw : List ℕ) (su : Setup) (i : ℕ) → length fw ≡ su.length → i * su.size < su.length
    → on_wire fw (block_at su i) ≡ block_of su.dfuse su.size fw i
unfolding block_at block_of
block_on_wire fw su i h k =
    let n : ℕ = block_number su.dfuse i in
    let f : ℕ = i * su.size in
    let m : ℕ = min su.size (su.length - f) in
    let inside : leb (f + m) (length fw) ≡ true = le-leb (f + m) (length fw) (omega arith) in
    let short : su.length - f ≡ length (drop f fw) = omega (arith, length-drop f fw) in
    let same : take m (drop f fw) ≡ bytes_of su.size fw i = ap (λ (x : ℕ). take (min su.size x) (drop f fw)) short ∙ take_min su.size (drop f fw) in
    let long : m ≡ length (bytes_of su.size fw i) = omega (arith, block_length_lem su.size fw i) in
    ap (λ (b : Bool). record { setup = DFU_DNLOAD n m; bytes = pick b (take m (drop f fw)) [] }) inside
    ∙ ap (λ (b : List ℕ). record { setup = DFU_DNLOAD n m; bytes = b }) same
    ∙ ap (λ (x : ℕ). record { setup = DFU_DNLOAD n x; bytes = bytes_of su.size fw i }) long

-- and each list of them
erases_on_wire : (fw : List ℕ) (at : ℕ) (ps : List ℕ) → map (on_wire fw) (erases at ps) ≡ erasing at ps
unfolding erases erasing
erases_on_wire fw at [] = refl
erases_on_wire fw at (p ∷ ps) =
    ap (λ (x : Dnload). x ∷ map (on_wire fw) (erases (at + p) ps)) (erase_on_wire fw at)
    ∙ ap (λ (x : List Dnload). dnload 0 (erase_command at) ∷ x) (erases_on_wire fw (at + p) ps)

blocks_on_wire : (fw : List ℕ) (su : Setup) (i c : ℕ) → length fw ≡ su.length → 0 < su.size → i + c ≤ blocks_of su
    → map (on_wire fw) (several (block_at su) i c) ≡ several (block_of su.dfuse su.size fw) i c
unfolding several
blocks_on_wire fw su i zero h k e = refl
blocks_on_wire fw su i (suc c) h k e =
    ap (λ (x : Dnload). x ∷ map (on_wire fw) (several (block_at su) (suc i) c)) (block_on_wire fw su i h (blocks_within su.length su.size i k (omega arith)))
    ∙ ap (λ (x : List Dnload). block_of su.dfuse su.size fw i ∷ x) (blocks_on_wire fw su (suc i) c h k (omega arith))

prepared_on_wire : (fw : List ℕ) (su : Setup) (ps : List ℕ) → length fw ≡ su.length
    → map (on_wire fw) (prepared su ps) ≡ pick su.dfuse (erasing su.address (pages_for (length fw) ps) ++ (dnload 0 (set_address_command su.address) ∷ [])) []
unfolding prepared
prepared_on_wire fw su ps h = by su.dfuse
  where
    by : (b : Bool)
        → map (on_wire fw) (pick b (erases su.address (covering su.length ps) ++ (Command.SetAddress su.address ∷ [])) [])
        ≡ pick b (erasing su.address (pages_for (length fw) ps) ++ (dnload 0 (set_address_command su.address) ∷ [])) []
    by true =
        map-append (on_wire fw) (erases su.address (covering su.length ps)) (Command.SetAddress su.address ∷ [])
        ∙ ap (λ (x : List Dnload). x ++ (on_wire fw (Command.SetAddress su.address) ∷ [])) (erases_on_wire fw su.address (covering su.length ps))
        ∙ ap (λ (x : Dnload). erasing su.address (covering su.length ps) ++ (x ∷ [])) (address_on_wire fw su.address)
        ∙ ap (λ (n : ℕ). erasing su.address (covering n ps) ++ (dnload 0 (set_address_command su.address) ∷ [])) (sym h)
        ∙ ap (λ (x : List ℕ). erasing su.address x ++ (dnload 0 (set_address_command su.address) ∷ [])) (sym (pages_agree (length fw) ps))
    by false = refl

-- THE PLAN BY MEANING IS THE PAPERS' PLAN
pub wanted_plan : (fw : List ℕ) (su : Setup) (ps : List ℕ) → length fw ≡ su.length → 0 < su.size
    → map (on_wire fw) (wanted su ps) ≡ plan su.dfuse su.address su.size fw ps
unfolding wanted plan
wanted_plan fw su ps h k =
    map-append (on_wire fw) (prepared su ps) (several (block_at su) 0 (blocks_of su) ++ (Command.Empty (block_number su.dfuse (blocks_of su)) ∷ []))
    ∙ ap (λ (x : List Dnload). x ++ map (on_wire fw) (several (block_at su) 0 (blocks_of su) ++ (Command.Empty (block_number su.dfuse (blocks_of su)) ∷ []))) (prepared_on_wire fw su ps h)
    ∙ ap (λ (x : List Dnload). front ++ x)
    (map-append (on_wire fw) (several (block_at su) 0 (blocks_of su)) (Command.Empty (block_number su.dfuse (blocks_of su)) ∷ [])
    ∙ ap (λ (x : List Dnload). x ++ (dnload (block_number su.dfuse (blocks_of su)) [] ∷ [])) (blocks_on_wire fw su 0 (blocks_of su) h k (omega arith))
    ∙ ap (λ (n : ℕ). several (block_of su.dfuse su.size fw) 0 (block_count n su.size) ++ (dnload (block_number su.dfuse (block_count n su.size)) [] ∷ [])) (sym h)
    ∙ ap (λ (c : ℕ). several (block_of su.dfuse su.size fw) 0 c ++ (dnload (block_number su.dfuse c) [] ∷ [])) (sym (blocks_agree (length fw) su.size)))
  where
    front : List Dnload
    front = pick su.dfuse (erasing su.address (pages_for (length fw) ps) ++ (dnload 0 (set_address_command su.address) ∷ [])) []
