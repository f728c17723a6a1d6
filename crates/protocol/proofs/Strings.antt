-- What an interface string leaves where its address is good: the layout's answer, and its store. Assumes nothing.
use Rattle.std.proofs.Common.{◌≡◌, ℕ, List, length, Result, Ok, Err, sym, ap, ◌∙◌}
use Rattle.memory_layout.specs.Layout as layout
use Rattle.memory_layout.specs.declared.Error.{Error as Fault}
use Rattle.memory_layout.specs.declared.MemoryLayout.{MemoryLayout}
use Rattle.protocol.specs.Interface.{with_protocol, answered, done, leaves}
use Rattle.protocol.specs.declared.DfuProtocol.{DfuProtocol}
use Rattle.protocol.specs.declared.Error.{Error}

-- a layout that was read, and what stands in the store then
module _ (r : Result MemoryLayout Fault) (text before now : List ℕ) (e : layout.done r now ≡ layout.layout_of text before) where
  read_as : r ≡ layout.checked (length before) text
  unfolding layout.layout_of
  read_as = ap (λ (d : layout.Done). d.answer) e

  holds : now ≡ layout.stored_by (layout.checked (length before) text) text before
  unfolding layout.layout_of
  holds = ap (λ (d : layout.Done). d.store) e

  pub stored : (l : MemoryLayout) (a : ℕ) → r ≡ Ok l
      → done (Ok (with_protocol (DfuProtocol.Dfuse a) l.pages)) now ≡ leaves (answered (layout.checked (length before) text) (Ok a)) text before
  stored l a p =
      let c : layout.checked (length before) text ≡ Ok l = sym read_as ∙ p in
      rw c (ap (done (Ok (with_protocol (DfuProtocol.Dfuse a) l.pages))) (holds ∙ rw c))

  pub kept : (f : Fault) (a : ℕ) → r ≡ Err f → done (Err (Error.MemoryLayout f)) now ≡ leaves (answered (layout.checked (length before) text) (Ok a)) text before
  kept f a p = let c : layout.checked (length before) text ≡ Err f = sym read_as ∙ p in rw c (ap (done (Err (Error.MemoryLayout f))) (holds ∙ rw c))
