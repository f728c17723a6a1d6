-- Each public call is pinned down: two outcomes that its contract allows, at the same arguments, are equal. Assumes nothing.
use Prim.Native.Nat.{ℕ}
use mathlib.Core.Path.{◌≡◌, sym, ◌∙◌}
use mathlib.Core.List.{List}
use contract.Lifetimes.{Lfts}
use borrow.Fn.Kinds.{Dens, ended_of}
use borrow.Fn.World.{ResD}
use denote.Triple.Clauses.{AtExit}
use Rattle.ground.specs.Pins.{Pins}
use Rattle.wire.specs.declared.Control.{Control}
use Rattle.wire.proofs.Request.control.Kinds as control_kinds
use Rattle.wire.proofs.Request.control.Reads as control_reads
use Rattle.wire.proofs.fill.Kinds as fill_kinds
use Rattle.wire.proofs.fill.Reads as fill_reads
use Rattle.wire.specs.contracts.«data» as data_signature
use Rattle.wire.proofs.«data».Kinds as data_kinds
use Rattle.wire.proofs.«data».Reads as data_reads

pub pinned_control : Pins control_kinds.ps control_kinds.r {R = Control} control_reads.Post (λ κs r s. r)
pinned_control κs a x y s t p q = p ∙ sym q

pub pinned_fill : Pins fill_kinds.ps fill_kinds.r {R = Unit} {O = List ℕ} fill_reads.Post (λ κs r s. s.1.0.now)
pinned_fill κs a x y s t p q = p ∙ sym q

-- the bytes of the part that is handed back
pub pinned_data : (κs : Lfts 1) (a : Dens {n = 1} κs data_kinds.ps) (x y : ResD data_signature.signature κs) (s t : AtExit (ended_of 1 data_kinds.ps data_kinds.r) κs)
    → data_reads.Post κs a x s → data_reads.Post κs a y t → x.now ≡ y.now
pinned_data κs a x y s t p q = p ∙ sym q
