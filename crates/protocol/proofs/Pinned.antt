-- Each public call is pinned down: two outcomes that its contract allows, at the same arguments, are equal. Assumes nothing.
use Rattle.std.proofs.Common.{Bool, Result, sym, ◌∙◌}
use Rattle.ground.specs.Pins.{Pins}
use Rattle.protocol.specs.Interface.{done as protocol-done}
use Rattle.protocol.specs.declared.Error.{Error}
use Rattle.protocol.specs.declared.Interface.{Interface}
use Rattle.protocol.specs.declared.UsbWriteControl.{UsbWriteControl}
use Rattle.protocol.proofs.DfuProtocol.new.Kinds as protocol_kinds
use Rattle.protocol.proofs.DfuProtocol.new.Reads as protocol_reads
use Rattle.protocol.proofs.DfuProtocol.is_dfuse.Kinds as is_dfuse_kinds
use Rattle.protocol.proofs.DfuProtocol.is_dfuse.Reads as is_dfuse_reads
use Rattle.protocol.proofs.detach.Kinds as detach_kinds
use Rattle.protocol.proofs.detach.Reads as detach_reads
use Rattle.ground.specs.declared.Report.{Report}
use Rattle.protocol.proofs.ErrorAnswer.said.Kinds as error_said_kinds
use Rattle.protocol.proofs.ErrorAnswer.said.Reads as error_said_reads
use Rattle.protocol.proofs.InterfaceAnswer.said.Kinds as interface_said_kinds
use Rattle.protocol.proofs.InterfaceAnswer.said.Reads as interface_said_reads
use Rattle.protocol.specs.contracts.Interface.{the_row as interface_row}
use Rattle.protocol.specs.contracts.Error.{the_row as error_row}
use Rattle.protocol.proofs.Interface.TheLaws.{the_row_laws as interface_laws}
use Rattle.protocol.proofs.Error.TheLaws.{the_row_laws as error_laws}
use Rattle.protocol.specs.contracts.InterfaceAnswer.TheImpl.{ghosts as interface_ghosts, dict as interface_dict}
use Rattle.protocol.specs.contracts.ErrorAnswer.TheImpl.{ghosts as error_ghosts, dict as error_dict}
use Rattle.ground.proofs.ResultAnswer.said.Kinds as result_kinds
use Rattle.ground.proofs.ResultAnswer.said.Reads as result_reads
use Rattle.ground.proofs.Pinned.{pinned_result_said}

pub pinned_protocol : Pins protocol_kinds.ps protocol_kinds.r {R = Result Interface Error} protocol_reads.Post (λ κs r s. protocol-done r s.1.1.0.now)
pinned_protocol κs a x y s t p q = p ∙ sym q

pub pinned_is_dfuse : Pins is_dfuse_kinds.ps is_dfuse_kinds.r {R = Bool} is_dfuse_reads.Post (λ κs r s. r)
pinned_is_dfuse κs a x y s t p q = p ∙ sym q

pub pinned_detach : Pins detach_kinds.ps detach_kinds.r {R = UsbWriteControl} detach_reads.Post (λ κs r s. r)
pinned_detach κs a x y s t p q = p ∙ sym q

pub pinned_error_said : Pins error_said_kinds.ps error_said_kinds.r {R = Report} error_said_reads.Post (λ κs r s. r)
pinned_error_said κs a x y s t p q = p ∙ sym q

-- of the whole answer, an interface or a refusal
pub pinned_interface_said :
    Pins
    (result_kinds.ps interface_row error_row interface_laws error_laws)
    (result_kinds.r interface_row error_row interface_laws error_laws)
    {R = Report}
    (result_reads.Post interface_row error_row interface_laws error_laws interface_ghosts interface_dict error_ghosts error_dict)
    (λ κs r s. r)
pinned_interface_said = pinned_result_said interface_row error_row interface_laws error_laws interface_ghosts interface_dict error_ghosts error_dict

pub pinned_good_said : Pins interface_said_kinds.ps interface_said_kinds.r {R = Report} interface_said_reads.Post (λ κs r s. r)
pinned_good_said κs a x y s t p q = p ∙ sym q
