-- `checked_first` meets its contract: what was accepted is stored, and a refusal stores nothing.
use Rattle.std.proofs.Common.{◌≡◌, ℕ, List, Result, Ok, Err, ◌++◌, drop, length, refl, sym, ap, ◌∙◌, arith, rules}
use Rattle.memory_layout.specs.Layout.{split, sizes, layout_of, done}
use Rattle.memory_layout.specs.declared.Error.{Error}
use Rattle.memory_layout.specs.declared.MemoryLayout.{MemoryLayout}
use Rattle.memory_layout.proofs.Accepted.{checked_pieces, counted}
use Rattle.memory_layout.proofs.MemoryLayout.checked_first.Goals as goal

pub store_pages-requires : goal.store_pages-requires
store_pages-requires c = let e = checked_pieces _ _ _ (sym c.in_ok-layout.ensures) in rw e refl

pub returns-in_err-layout : goal.returns-in_err-layout
unfolding layout_of
returns-in_err-layout c =
    let t : c.from_residual.result ≡ Err c.in_err-layout.field-0.0 = search rules in
    rw (sym c.in_err-layout.ensures) (ap (λ (r : Result MemoryLayout Error). done r c.args.store.now) t)

pub returns : goal.returns
unfolding layout_of
returns c =
    let s = c.args.src.now in
    let layout = c.in_ok-layout.layout in
    let e = checked_pieces _ _ _ (sym c.in_ok-layout.ensures) in
    let n : length (sizes (split s) 0) ≡ layout.pages = omega (arith, counted _ _ _ _ _ e) in
    rw (sym c.in_ok-layout.ensures)
    (ap (λ (x : List ℕ). done (Ok layout) x) (c.store_pages.ensures ∙ ap (λ (k : ℕ). sizes (split s) 0 ++ drop k c.args.store.now) n))
