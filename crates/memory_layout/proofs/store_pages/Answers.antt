-- `store_pages` meets its contract: the pages so far stand in front, and what is to come is known.
use Rattle.std.proofs.Common.{◌≡◌, ◌==◌, ℕ, ◌+◌, length, drop, sym, arith, rules, subst}
use Rattle.std.proofs.lemmas.List.{length_push}
use Rattle.std.proofs.lemmas.Iterator.Consumers.{YieldsList-turn, YieldsList-end}
use Rattle.std.proofs.lemmas.Iterator.Splits.{YieldsList-from_slice_split}
use Rattle.memory_layout.specs.Layout.{split}
use Rattle.memory_layout.proofs.Accepted.{accepted, no_fault}
use Rattle.memory_layout.proofs.Store.{StoredTo, here, none_left, none_stored, more_stored, all_stored, room}
use Rattle.memory_layout.proofs.store_pages.Goals as goal

pub loop-piece-init : goal.loop-piece-init
loop-piece-init c = let a = accepted _ c.requires in (a.0, none_stored c.args.text.now c.args.store.now a.0 a.1)

pub returns-in_default : goal.returns-in_default
returns-in_default c =
    let l = c.loop-piece in
    let e = YieldsList-from_slice_split _ (λ b. b == 44) c.args.text.now (cc) (cc) (cc) (λ x b q. search rules) in
    let t = YieldsList-turn e l.yielded _ l.yielded_by _ _ c.in-Some.piece c.in-Some.is c.next.ensures.steps in
    let i = here c.args.text.now c.args.store.now l.invariant.0 (length l.yielded) l.at l.filled l.store l.invariant.1 c.in-Some.piece.now t in
    absurd (no_fault _ _ _ _ _ _ i.accepted c.in_default.field-0 (sym c.in_default.ensures))

pub lay-requires : goal.lay-requires
lay-requires c =
    let l = c.loop-piece in
    let e = YieldsList-from_slice_split _ (λ b. b == 44) c.args.text.now (cc) (cc) (cc) (λ x b q. search rules) in
    let t = YieldsList-turn e l.yielded _ l.yielded_by _ _ c.in-Some.piece c.in-Some.is c.next.ensures.steps in
    let i = here c.args.text.now c.args.store.now l.invariant.0 (length l.yielded) l.at l.filled l.store l.invariant.1 c.in-Some.piece.now t in
    room _ _ _ _ _ _ _ _ i c.in-Ok.run' (sym c.in-Ok.ensures)

pub overflow_add-at-in-loop-piece : goal.overflow_add-at-in-loop-piece
overflow_add-at-in-loop-piece c =
    let l = c.loop-piece in
    let e = YieldsList-from_slice_split _ (λ b. b == 44) c.args.text.now (cc) (cc) (cc) (λ x b q. search rules) in
    let t = YieldsList-turn e l.yielded _ l.yielded_by _ _ c.in-Some.piece c.in-Some.is c.next.ensures.steps in
    let i = here c.args.text.now c.args.store.now l.invariant.0 (length l.yielded) l.at l.filled l.store l.invariant.1 c.in-Some.piece.now t in
    omega (arith, i.left)

pub loop-piece-preserved : goal.loop-piece-preserved
loop-piece-preserved c =
    let l = c.loop-piece in
    let e = YieldsList-from_slice_split _ (λ b. b == 44) c.args.text.now (cc) (cc) (cc) (λ x b q. search rules) in
    let t = YieldsList-turn e l.yielded _ l.yielded_by _ _ c.in-Some.piece c.in-Some.is c.next.ensures.steps in
    let i = here c.args.text.now c.args.store.now l.invariant.0 (length l.yielded) l.at l.filled l.store l.invariant.1 c.in-Some.piece.now t in
    let n = length_push l.yielded c.in-Some.piece in
    let o : l.at + length c.in-Some.piece.now + 1 ≡ l.at + (length c.in-Some.piece.now + 1) = omega arith in
    let P : ℕ → Type 0 = λ at. StoredTo c.args.text.now c.args.store.now l.invariant.0 (drop (length l.yielded + 1) (split c.args.text.now)) at (l.filled + c.in-Ok.run'.count) c.lay.new.store in
    (l.invariant.0, rw n (subst P o (more_stored _ _ _ _ _ _ _ _ i c.in-Ok.run' (sym c.in-Ok.ensures) c.lay.new.store c.lay.ensures)))

pub returns : goal.returns
returns c =
    let l = c.loop-piece in
    let e = YieldsList-from_slice_split _ (λ b. b == 44) c.args.text.now (cc) (cc) (cc) (λ x b q. search rules) in
    let t = YieldsList-end e l.yielded _ l.yielded_by _ _ c.in-None.is c.next.ensures.steps in
    all_stored _ _ _ _ _ _ (none_left c.args.text.now c.args.store.now l.invariant.0 (length l.yielded) l.at l.filled l.store l.invariant.1 (omega (arith, t.1)))
