-- Each public call is pinned down: two outcomes that its contract allows, at the same arguments, are equal. Assumes nothing.
use Prim.Native.Nat.{ℕ}
use mathlib.Core.Path.{sym, ◌∙◌}
use Rattle.std.specs.Prelude.{Result}
use Rattle.ground.specs.Pins.{Pins}
use Rattle.get_status.specs.declared.State.{State}
use Rattle.get_status.specs.declared.Status.{Status}
use Rattle.get_status.specs.declared.GetStatusMessage.{GetStatusMessage}
use Rattle.get_status.specs.declared.Met.{Met}
use Rattle.get_status.specs.declared.Error.{Error}
use Rattle.get_status.proofs.State.from_byte.Kinds as state_from_byte_kinds
use Rattle.get_status.proofs.State.from_byte.Reads as state_from_byte_reads
use Rattle.get_status.proofs.State.byte.Kinds as state_byte_kinds
use Rattle.get_status.proofs.State.byte.Reads as state_byte_reads
use Rattle.get_status.proofs.Status.from_byte.Kinds as status_from_byte_kinds
use Rattle.get_status.proofs.Status.from_byte.Reads as status_from_byte_reads
use Rattle.get_status.proofs.Status.byte.Kinds as status_byte_kinds
use Rattle.get_status.proofs.Status.byte.Reads as status_byte_reads
use Rattle.get_status.proofs.GetStatusMessage.from_bytes.Kinds as reply_kinds
use Rattle.get_status.proofs.GetStatusMessage.from_bytes.Reads as reply_reads
use Rattle.get_status.proofs.GetStatusMessage.strict_from_bytes.Kinds as strict_reply_kinds
use Rattle.get_status.proofs.GetStatusMessage.strict_from_bytes.Reads as strict_reply_reads
use Rattle.get_status.proofs.GetStatusMessage.judge.Kinds as judge_kinds
use Rattle.get_status.proofs.GetStatusMessage.judge.Reads as judge_reads
use Rattle.ground.specs.declared.Report.{Report}
use Rattle.get_status.proofs.GetStatusMessageAnswer.said.Kinds as reply_said_kinds
use Rattle.get_status.proofs.GetStatusMessageAnswer.said.Reads as reply_said_reads
use Rattle.get_status.proofs.MetAnswer.said.Kinds as met_said_kinds
use Rattle.get_status.proofs.MetAnswer.said.Reads as met_said_reads
use Rattle.get_status.proofs.ErrorAnswer.said.Kinds as error_said_kinds
use Rattle.get_status.proofs.ErrorAnswer.said.Reads as error_said_reads
use Rattle.get_status.specs.contracts.GetStatusMessage.{the_row as message_row}
use Rattle.get_status.specs.contracts.Error.{the_row as error_row}
use Rattle.get_status.proofs.GetStatusMessage.TheLaws.{the_row_laws as message_laws}
use Rattle.get_status.proofs.Error.TheLaws.{the_row_laws as error_laws}
use Rattle.get_status.specs.contracts.GetStatusMessageAnswer.TheImpl.{ghosts as message_ghosts, dict as message_dict}
use Rattle.get_status.specs.contracts.ErrorAnswer.TheImpl.{ghosts as error_ghosts, dict as error_dict}
use Rattle.ground.proofs.ResultAnswer.said.Kinds as result_kinds
use Rattle.ground.proofs.ResultAnswer.said.Reads as result_reads
use Rattle.ground.proofs.Pinned.{pinned_result_said}
use Rattle.get_status.specs.contracts.Met.{the_row as met_row}
use Rattle.get_status.proofs.Met.TheLaws.{the_row_laws as met_laws}
use Rattle.get_status.specs.contracts.MetAnswer.TheImpl.{ghosts as met_ghosts, dict as met_dict}

pub pinned_state_from_byte : Pins state_from_byte_kinds.ps state_from_byte_kinds.r {R = State} state_from_byte_reads.Post (λ κs r s. r)
pinned_state_from_byte κs a x y s t p q = p ∙ sym q

pub pinned_state_byte : Pins state_byte_kinds.ps state_byte_kinds.r {R = ℕ} state_byte_reads.Post (λ κs r s. r)
pinned_state_byte κs a x y s t p q = p ∙ sym q

pub pinned_status_from_byte : Pins status_from_byte_kinds.ps status_from_byte_kinds.r {R = Status} status_from_byte_reads.Post (λ κs r s. r)
pinned_status_from_byte κs a x y s t p q = p ∙ sym q

pub pinned_status_byte : Pins status_byte_kinds.ps status_byte_kinds.r {R = ℕ} status_byte_reads.Post (λ κs r s. r)
pinned_status_byte κs a x y s t p q = p ∙ sym q

pub pinned_reply : Pins reply_kinds.ps reply_kinds.r {R = Result GetStatusMessage Error} reply_reads.Post (λ κs r s. r)
pinned_reply κs a x y s t p q = p ∙ sym q

pub pinned_strict_reply : Pins strict_reply_kinds.ps strict_reply_kinds.r {R = Result GetStatusMessage Error} strict_reply_reads.Post (λ κs r s. r)
pinned_strict_reply κs a x y s t p q = p ∙ sym q

pub pinned_judge : Pins judge_kinds.ps judge_kinds.r {R = Result Met Error} judge_reads.Post (λ κs r s. r)
pinned_judge κs a x y s t p q = p ∙ sym q

-- of the whole answer, a reply or a refusal
pub pinned_reply_said :
    Pins
    (result_kinds.ps message_row error_row message_laws error_laws)
    (result_kinds.r message_row error_row message_laws error_laws)
    {R = Report}
    (result_reads.Post message_row error_row message_laws error_laws message_ghosts message_dict error_ghosts error_dict)
    (λ κs r s. r)
pinned_reply_said = pinned_result_said message_row error_row message_laws error_laws message_ghosts message_dict error_ghosts error_dict

pub pinned_message_said : Pins reply_said_kinds.ps reply_said_kinds.r {R = Report} reply_said_reads.Post (λ κs r s. r)
pinned_message_said κs a x y s t p q = p ∙ sym q

-- of the whole answer, what a reply means to a wait or a refusal
pub pinned_met_said :
    Pins
    (result_kinds.ps met_row error_row met_laws error_laws)
    (result_kinds.r met_row error_row met_laws error_laws)
    {R = Report}
    (result_reads.Post met_row error_row met_laws error_laws met_ghosts met_dict error_ghosts error_dict)
    (λ κs r s. r)
pinned_met_said = pinned_result_said met_row error_row met_laws error_laws met_ghosts met_dict error_ghosts error_dict

pub pinned_look_said : Pins met_said_kinds.ps met_said_kinds.r {R = Report} met_said_reads.Post (λ κs r s. r)
pinned_look_said κs a x y s t p q = p ∙ sym q

pub pinned_error_said : Pins error_said_kinds.ps error_said_kinds.r {R = Report} error_said_reads.Post (λ κs r s. r)
pinned_error_said κs a x y s t p q = p ∙ sym q
