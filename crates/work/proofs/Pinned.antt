-- Each public call is pinned down: two outcomes that its contract allows, at the same arguments, are equal. Assumes nothing.
use Prim.Native.Nat.{ℕ}
use mathlib.Core.Path.{sym, ◌∙◌}
use mathlib.Core.Bool.{Bool}
use Rattle.ground.specs.Pins.{Pins}
use Rattle.work.specs.declared.Progress.{Progress}
use Rattle.work.specs.declared.Wait.{Wait}
use Rattle.work.proofs.blocks.Kinds as blocks_kinds
use Rattle.work.proofs.blocks.Reads as blocks_reads
use Rattle.work.proofs.whole.Kinds as whole_kinds
use Rattle.work.proofs.whole.Reads as whole_reads
use Rattle.work.proofs.Setup.number_at.Kinds as number_at_kinds
use Rattle.work.proofs.Setup.number_at.Reads as number_at_reads
use Rattle.work.proofs.Setup.block_length.Kinds as block_length_kinds
use Rattle.work.proofs.Setup.block_length.Reads as block_length_reads
use Rattle.work.proofs.Progress.staged.Kinds as staged_kinds
use Rattle.work.proofs.Progress.staged.Reads as staged_reads
use Rattle.work.proofs.Progress.enter.Kinds as enter_kinds
use Rattle.work.proofs.Progress.enter.Reads as enter_reads
use Rattle.work.proofs.is_taken.Kinds as is_taken_kinds
use Rattle.work.proofs.is_taken.Reads as is_taken_reads
use Rattle.work.proofs.Setup.wait_after.Kinds as wait_after_kinds
use Rattle.work.proofs.Setup.wait_after.Reads as wait_after_reads
use Rattle.ground.specs.declared.Report.{Report}
use Rattle.work.proofs.ErrorAnswer.said.Kinds as said_kinds
use Rattle.work.proofs.ErrorAnswer.said.Reads as said_reads

pub pinned_blocks : Pins blocks_kinds.ps blocks_kinds.r {R = ℕ} blocks_reads.Post (λ κs r s. r)
pinned_blocks κs a x y s t p q = p ∙ sym q

pub pinned_whole : Pins whole_kinds.ps whole_kinds.r {R = ℕ} whole_reads.Post (λ κs r s. r)
pinned_whole κs a x y s t p q = p ∙ sym q

pub pinned_number_at : Pins number_at_kinds.ps number_at_kinds.r {R = ℕ} number_at_reads.Post (λ κs r s. r)
pinned_number_at κs a x y s t p q = p ∙ sym q

pub pinned_block_length : Pins block_length_kinds.ps block_length_kinds.r {R = ℕ} block_length_reads.Post (λ κs r s. r)
pinned_block_length κs a x y s t p q = p ∙ sym q

pub pinned_staged : Pins staged_kinds.ps staged_kinds.r {R = Progress} staged_reads.Post (λ κs r s. r)
pinned_staged κs a x y s t p q = p ∙ sym q

pub pinned_enter : Pins enter_kinds.ps enter_kinds.r {R = Progress} enter_reads.Post (λ κs r s. r)
pinned_enter κs a x y s t p q = p ∙ sym q

pub pinned_is_taken : Pins is_taken_kinds.ps is_taken_kinds.r {R = Bool} is_taken_reads.Post (λ κs r s. r)
pinned_is_taken κs a x y s t p q = p ∙ sym q

pub pinned_wait_after : Pins wait_after_kinds.ps wait_after_kinds.r {R = Wait} wait_after_reads.Post (λ κs r s. r)
pinned_wait_after κs a x y s t p q = p ∙ sym q

pub pinned_said : Pins said_kinds.ps said_kinds.r {R = Report} said_reads.Post (λ κs r s. r)
pinned_said κs a x y s t p q = p ∙ sym q
