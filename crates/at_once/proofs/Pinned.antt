-- Each public call is pinned down: two outcomes that its contract allows, at the same arguments, are equal. Assumes nothing.
use mathlib.Core.Path.{sym, ◌∙◌}
use Rattle.ground.specs.Pins.{Pins}
use Rattle.session.specs.Calls.{out}
use Rattle.session.specs.declared.Step.{Step}
use Rattle.at_once.proofs.told.Kinds as at_once_kinds
use Rattle.at_once.proofs.told.Reads as at_once_reads

pub pinned_told_at_once : Pins at_once_kinds.ps at_once_kinds.r {R = Step} at_once_reads.Post (λ κs r s. out r s.1.1.1.0.now)
pinned_told_at_once κs a x y s t p q = p ∙ sym q
