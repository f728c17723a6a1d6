-- What a download still wants, as a list: each wish is its head, and at the start it is the plan. Assumes nothing.
use Rattle.std.proofs.Common.{ℕ, zero, suc, ◌+◌, ◌-◌, ◌*◌, ◌%◌, ◌<◌, ◌≤◌, min, add-one, arith, ◌≡◌, refl, ap, sym, ◌∙◌, Bool, true, false, List, [], ◌∷◌, ◌++◌, append_assoc, length, drop, get_or, drop-cons, Result, Ok, Err}
use Rattle.papers.specs.Plan.{several, block_number}
use Rattle.work.specs.Work.{whole_of, end_of, block_count, number_at, block_length, staged, entered}
use Rattle.work.proofs.Fills.{block_count_zero, block_count_more, block_count_pos, block_count_next, block_count_fill}
use Rattle.download.specs.Download.{covering, passed, next_at, next_of, took_of}
use Rattle.plan.proofs.Pages.{covering_zero, covering_more}
use Rattle.promises.specs.Words.{pick, Command, Setup, Progress, Stage, Todo, Work, download, fresh, Error}
use Rattle.promises.proofs.Wishes.{erase_picked, write_picked}

-- an erase for each page, from a position on
unfoldable pub erases : ℕ → List ℕ → List Command
erases at [] = []
erases at (p ∷ ps) = Command.Erase at ∷ erases (at + p) ps

-- c blocks of either direction from a place on, and what comes last
unfoldable pub blocks : (ℕ → ℕ → ℕ → Command) → (ℕ → Command) → Setup → ℕ → ℕ → List Command
blocks b z su zero place = z (number_at su place) ∷ []
blocks b z su (suc c) place = b (number_at su place) place (block_length su place) ∷ blocks b z su c (place + block_length su place)

-- those that are left at a place
unfoldable pub row : (ℕ → ℕ → ℕ → Command) → (ℕ → Command) → Setup → ℕ → List Command
row b z su at = blocks b z su (block_count (su.length - at) su.size) at

-- a download's, with the empty block; before it the address; before that the erases
unfoldable pub write_left : Setup → Progress → List Command
write_left su pr = row Command.Block Command.Empty su pr.accepted

unfoldable pub erase_left : List ℕ → Setup → Progress → List Command
erase_left ps su pr = erases pr.erased (covering (end_of su - pr.erased) (drop pr.page ps)) ++ (Command.SetAddress su.address ∷ write_left su pr)

abbrev pub left_at : Stage → List ℕ → Setup → Progress → List Command
left_at Stage.Erasing ps su pr = erase_left ps su pr
left_at Stage.Writing ps su pr = write_left su pr
left_at Stage.Ending ps su pr = []

abbrev pub left : List ℕ → Setup → Progress → List Command
left ps su pr = left_at pr.stage ps su pr

-- the head of each list
module _ (b : ℕ → ℕ → ℕ → Command) (z : ℕ → Command) (su : Setup) where
  pub row_more : (at : ℕ) → 0 < su.size → at < su.length
      → b (number_at su at) at (block_length su at) ∷ row b z su (min su.length (at + block_length su at)) ≡ row b z su at
  unfolding row blocks
  row_more at h k =
      let head : Command = b (number_at su at) at (block_length su at) in
      let e : min su.length (at + block_length su at) ≡ at + block_length su at = omega arith in
      let y : su.length - (at + block_length su at) ≡ su.length - at - su.size = omega arith in
      ap (λ (x : ℕ). head ∷ blocks b z su (block_count (su.length - x) su.size) x) e
      ∙ ap (λ (x : ℕ). head ∷ blocks b z su (block_count x su.size) (at + block_length su at)) y
      ∙ ap (λ (c : ℕ). blocks b z su c at) (sym (block_count_more (su.length - at) su.size h (omega arith)))

  pub row_done : (at : ℕ) → 0 < su.size → su.length ≤ at → z (number_at su at) ∷ [] ≡ row b z su at
  unfolding row blocks
  row_done at h k =
      let y : 0 ≡ su.length - at = omega arith in
      ap (λ (c : ℕ). blocks b z su c at) (sym (block_count_zero su.size h))
      ∙ ap (λ (x : ℕ). blocks b z su (block_count x su.size) at) y

write_left_more : (su : Setup) (pr : Progress) → 0 < su.size → pr.accepted < su.length
    → Command.Block (number_at su pr.accepted) pr.accepted (block_length su pr.accepted) ∷ write_left su (entered su (staged Stage.Writing pr) (block_length su pr.accepted)) ≡ write_left su pr
unfolding write_left
write_left_more su pr h k = row_more Command.Block Command.Empty su pr.accepted h k

write_left_done : (su : Setup) (pr : Progress) → 0 < su.size → su.length ≤ pr.accepted → Command.Empty (number_at su pr.accepted) ∷ [] ≡ write_left su pr
unfolding write_left
write_left_done su pr h k = row_done Command.Block Command.Empty su pr.accepted h k

erase_left_more : (ps : List ℕ) (su : Setup) (pr : Progress) → pr.erased < end_of su → pr.page < length ps
    → Command.Erase pr.erased ∷ erase_left ps su (passed pr (get_or ps pr.page 0)) ≡ erase_left ps su pr
unfolding erase_left erases write_left
erase_left_more ps su pr h k =
    let p : ℕ = get_or ps pr.page 0 in
    let z : end_of su - (pr.erased + p) ≡ end_of su - pr.erased - p = omega arith in
    ap (λ (x : ℕ). Command.Erase pr.erased ∷ (erases (pr.erased + p) (covering (end_of su - (pr.erased + p)) (drop x ps)) ++ (Command.SetAddress su.address ∷ write_left su pr))) (add-one pr.page)
    ∙ ap (λ (x : ℕ). Command.Erase pr.erased ∷ (erases (pr.erased + p) (covering x (drop (suc pr.page) ps)) ++ (Command.SetAddress su.address ∷ write_left su pr))) z
    ∙ ap (λ (x : List ℕ). erases pr.erased x ++ (Command.SetAddress su.address ∷ write_left su pr)) (sym (covering_more (end_of su - pr.erased) p (drop (suc pr.page) ps) (omega arith)))
    ∙ ap (λ (x : List ℕ). erases pr.erased (covering (end_of su - pr.erased) x) ++ (Command.SetAddress su.address ∷ write_left su pr)) (sym (drop-cons ps pr.page 0 k))

erase_left_done : (ps : List ℕ) (su : Setup) (pr : Progress) → end_of su ≤ pr.erased → Command.SetAddress su.address ∷ write_left su (staged Stage.Writing pr) ≡ erase_left ps su pr
unfolding erase_left erases write_left
erase_left_done ps su pr h =
    let z : 0 ≡ end_of su - pr.erased = omega arith in
    ap (λ (x : List ℕ). erases pr.erased x ++ (Command.SetAddress su.address ∷ write_left su pr)) (sym (covering_zero (drop pr.page ps)))
    ∙ ap (λ (x : ℕ). erases pr.erased (covering x (drop pr.page ps)) ++ (Command.SetAddress su.address ∷ write_left su pr)) z

-- a wish is the head of what is still wanted
abbrev pub Heads : Work → (Progress → List Command) → Setup → List Command → Result Todo Error → Type 0
Heads w left su r (Ok (Todo.Send c then)) = c ∷ left (w.took su then c (whole_of c)) ≡ r
Heads w left su r (Ok (Todo.End e)) = [] ≡ r
Heads w left su r (Err e) = Unit

heads_at : (st : Stage) (ps : List ℕ) (su : Setup) (pr : Progress) → 0 < su.size → Heads (download ps) (left ps su) su (left_at st ps su pr) (next_at st ps su pr)
unfolding took_of
heads_at Stage.Erasing ps su pr h =
    erase_picked (λ (t : Result Todo Error). Heads (download ps) (left ps su) su (erase_left ps su pr) t) ps su pr (erase_left_more ps su pr) (λ e f g. tt) (λ e f. tt) (erase_left_done ps su pr)
heads_at Stage.Writing ps su pr h =
    write_picked (λ (t : Todo). Heads (download ps) (left ps su) su (write_left su pr) (Ok t)) su pr (write_left_more su pr h) (write_left_done su pr h)
heads_at Stage.Ending ps su pr h = refl

pub heads : (ps : List ℕ) (su : Setup) (pr : Progress) → 0 < su.size → Heads (download ps) (left ps su) su (left ps su pr) (next_of ps su pr)
unfolding next_of
heads ps su pr h = heads_at pr.stage ps su pr h

-- the plan by meaning: block i has a number, a place and a length
unfoldable pub block_at : Setup → ℕ → Command
block_at su i = Command.Block (block_number su.dfuse i) (i * su.size) (min su.size (su.length - i * su.size))

abbrev pub blocks_of : Setup → ℕ
blocks_of su = block_count su.length su.size

unfoldable pub prepared : Setup → List ℕ → List Command
prepared su ps = pick su.dfuse (erases su.address (covering su.length ps) ++ (Command.SetAddress su.address ∷ [])) []

unfoldable pub wanted : Setup → List ℕ → List Command
wanted su ps = prepared su ps ++ (several (block_at su) 0 (blocks_of su) ++ (Command.Empty (block_number su.dfuse (blocks_of su)) ∷ []))

-- the number at a place with i blocks before it is block i's
number_of : (su : Setup) (i place : ℕ) → block_count place su.size ≡ i → number_at su place ≡ block_number su.dfuse i
number_of su i place q = ap (λ (n : ℕ). (pick su.dfuse 2 0 + n) % 65536) q

-- the i-th of either direction
unfoldable pub nth : (ℕ → ℕ → ℕ → Command) → Setup → ℕ → Command
nth b su i = b (block_number su.dfuse i) (i * su.size) (min su.size (su.length - i * su.size))

pub blocks_several : (b : ℕ → ℕ → ℕ → Command) (z : ℕ → Command) (su : Setup) (c i place : ℕ) → 0 < su.size → block_count (su.length - i * su.size) su.size ≡ c
    → (0 < c → place ≡ i * su.size) → block_count place su.size ≡ i → blocks b z su c place ≡ several (nth b su) i c ++ (z (block_number su.dfuse (i + c)) ∷ [])
unfolding blocks several nth
blocks_several b z su zero i place h e p q =
    let same : number_at su place ≡ block_number su.dfuse (i + 0) = number_of su i place q ∙ ap (block_number su.dfuse) (omega arith) in
    ap (λ (x : ℕ). z x ∷ []) same
blocks_several b z su (suc c) i place h e p q =
    let at : place ≡ i * su.size = p (omega arith) in
    let n : number_at su place ≡ block_number su.dfuse i = number_of su i place q in
    ap (λ (x : ℕ). b x place (block_length su place) ∷ blocks b z su c (place + block_length su place)) n
    ∙ ap (λ (x : ℕ). b (block_number su.dfuse i) x (block_length su x) ∷ blocks b z su c (place + block_length su place)) at
    ∙ ap (λ (x : List Command). nth b su i ∷ x)
    (blocks_several b z su c (suc i) (place + block_length su place) h (block_count_next su.length su.size i c h e) far full
    ∙ ap (λ (x : ℕ). several (nth b su) (suc i) c ++ (z (block_number su.dfuse x) ∷ [])) (omega arith))
  where
    far : 0 < c → place + block_length su place ≡ suc i * su.size
    far k =
        let z : place ≡ i * su.size = p (omega arith) in
        let more : 0 < su.length - suc i * su.size = block_count_pos _ _ h (omega (arith, block_count_next su.length su.size i c h e)) in
        omega arith

    full : block_count (place + block_length su place) su.size ≡ suc i
    full =
        let z : place ≡ i * su.size = p (omega arith) in
        let more : 0 < su.length - i * su.size = block_count_pos _ _ h (omega (arith, e)) in
        ap (λ (x : ℕ). block_count (x + block_length su place) su.size) z ∙ block_count_fill su.size i (block_length su place) (omega arith) (omega arith)

pub fresh_row : (b : ℕ → ℕ → ℕ → Command) (z : ℕ → Command) (su : Setup) → 0 < su.size
    → row b z su 0 ≡ several (nth b su) 0 (blocks_of su) ++ (z (block_number su.dfuse (blocks_of su)) ∷ [])
unfolding row
fresh_row b z su h =
    ap (λ (x : ℕ). blocks b z su (block_count x su.size) 0) (omega arith)
    ∙ blocks_several b z su (blocks_of su) 0 0 h (ap (λ (x : ℕ). block_count x su.size) (omega arith)) (λ k. omega arith) (block_count_zero su.size h)
    ∙ ap (λ (x : ℕ). several (nth b su) 0 (blocks_of su) ++ (z (block_number su.dfuse x) ∷ [])) (omega arith)

several_same : (su : Setup) (i c : ℕ) → several (nth Command.Block su) i c ≡ several (block_at su) i c
unfolding several nth block_at
several_same su i zero = refl
several_same su i (suc c) = ap (λ (x : List Command). block_at su i ∷ x) (several_same su (suc i) c)

fresh_blocks : (su : Setup) → 0 < su.size → write_left su (fresh su) ≡ several (block_at su) 0 (blocks_of su) ++ (Command.Empty (block_number su.dfuse (blocks_of su)) ∷ [])
unfolding write_left
fresh_blocks su h = fresh_row Command.Block Command.Empty su h ∙ ap (λ (x : List Command). x ++ (Command.Empty (block_number su.dfuse (blocks_of su)) ∷ [])) (several_same su 0 (blocks_of su))

-- WHAT IS WANTED AT THE START
pub fresh_wanted : (ps : List ℕ) (su : Setup) → 0 < su.size → left ps su (fresh su) ≡ wanted su ps
unfolding erase_left wanted prepared
fresh_wanted ps su h = by su.dfuse refl ∙ ap (λ (x : List Command). prepared su ps ++ x) (fresh_blocks su h)
  where
    by : (b : Bool) → su.dfuse ≡ b
        → left_at (pick b Stage.Erasing Stage.Writing) ps su (fresh su)
        ≡ pick b (erases su.address (covering su.length ps) ++ (Command.SetAddress su.address ∷ [])) [] ++ write_left su (fresh su)
    by true d =
        let z : pick su.dfuse su.address 0 ≡ su.address = rw d in
        let y : end_of su - su.address ≡ su.length = omega arith in
        ap (λ (x : ℕ). erases x (covering (end_of su - x) ps) ++ (Command.SetAddress su.address ∷ write_left su (fresh su))) z
        ∙ ap (λ (x : ℕ). erases su.address (covering x ps) ++ (Command.SetAddress su.address ∷ write_left su (fresh su))) y
        ∙ sym (append_assoc (erases su.address (covering su.length ps)) (Command.SetAddress su.address ∷ []) (write_left su (fresh su)))
    by false d = refl
