-- Each public call is pinned down: two outcomes that its contract allows, at the same arguments, are equal. Assumes nothing.
use Rattle.std.proofs.Common.{Result, sym, ◌∙◌}
use Rattle.ground.specs.Pins.{Pins}
use Rattle.memory_layout.specs.Layout.{done as layout-done}
use Rattle.memory_layout.specs.declared.MemoryLayout.{MemoryLayout}
use Rattle.memory_layout.specs.declared.Error.{Error}
use Rattle.memory_layout.proofs.MemoryLayout.check.Kinds as check_kinds
use Rattle.memory_layout.proofs.MemoryLayout.check.Reads as check_reads
use Rattle.memory_layout.proofs.MemoryLayout.try_from.Kinds as layout_kinds
use Rattle.memory_layout.proofs.MemoryLayout.try_from.Reads as layout_reads
use Rattle.ground.specs.declared.Report.{Report}
use Rattle.memory_layout.proofs.ErrorAnswer.said.Kinds as error_said_kinds
use Rattle.memory_layout.proofs.ErrorAnswer.said.Reads as error_said_reads
use Rattle.memory_layout.proofs.MemoryLayoutAnswer.said.Kinds as layout_said_kinds
use Rattle.memory_layout.proofs.MemoryLayoutAnswer.said.Reads as layout_said_reads
use Rattle.memory_layout.specs.contracts.MemoryLayout.{the_row as layout_row}
use Rattle.memory_layout.specs.contracts.Error.{the_row as error_row}
use Rattle.memory_layout.proofs.MemoryLayout.TheLaws.{the_row_laws as layout_laws}
use Rattle.memory_layout.proofs.Error.TheLaws.{the_row_laws as error_laws}
use Rattle.memory_layout.specs.contracts.MemoryLayoutAnswer.TheImpl.{ghosts as layout_ghosts, dict as layout_dict}
use Rattle.memory_layout.specs.contracts.ErrorAnswer.TheImpl.{ghosts as error_ghosts, dict as error_dict}
use Rattle.ground.proofs.ResultAnswer.said.Kinds as result_kinds
use Rattle.ground.proofs.ResultAnswer.said.Reads as result_reads
use Rattle.ground.proofs.Pinned.{pinned_result_said}

pub pinned_check : Pins check_kinds.ps check_kinds.r {R = Result MemoryLayout Error} check_reads.Post (λ κs r s. r)
pinned_check κs a x y s t p q = p ∙ sym q

pub pinned_layout : Pins layout_kinds.ps layout_kinds.r {R = Result MemoryLayout Error} layout_reads.Post (λ κs r s. layout-done r s.1.0.now)
pinned_layout κs a x y s t p q = p ∙ sym q

pub pinned_error_said : Pins error_said_kinds.ps error_said_kinds.r {R = Report} error_said_reads.Post (λ κs r s. r)
pinned_error_said κs a x y s t p q = p ∙ sym q

-- of the whole answer, a layout or a refusal
pub pinned_layout_said :
    Pins
    (result_kinds.ps layout_row error_row layout_laws error_laws)
    (result_kinds.r layout_row error_row layout_laws error_laws)
    {R = Report}
    (result_reads.Post layout_row error_row layout_laws error_laws layout_ghosts layout_dict error_ghosts error_dict)
    (λ κs r s. r)
pinned_layout_said = pinned_result_said layout_row error_row layout_laws error_laws layout_ghosts layout_dict error_ghosts error_dict

pub pinned_good_said : Pins layout_said_kinds.ps layout_said_kinds.r {R = Report} layout_said_reads.Post (λ κs r s. r)
pinned_good_said κs a x y s t p q = p ∙ sym q
