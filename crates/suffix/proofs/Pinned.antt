-- Each public call is pinned down: two outcomes that its contract allows, at the same arguments, are equal. Assumes nothing.
use Rattle.std.proofs.Common.{◌≡◌, Result, sym, ◌∙◌}
use contract.Lifetimes.{Lfts}
use borrow.Fn.Kinds.{Dens, ended_of}
use borrow.Fn.World.{ResD}
use denote.Triple.Clauses.{AtExit}
use Rattle.ground.specs.Pins.{Pins}
use Rattle.ground.specs.declared.Report.{Report}
use Rattle.suffix.specs.declared.Suffix.{Suffix}
use Rattle.suffix.specs.declared.Checked.{Checked}
use Rattle.suffix.specs.declared.Error.{Error}
use Rattle.suffix.proofs.Suffix.read.Kinds as suffix_kinds
use Rattle.suffix.proofs.Suffix.read.Reads as suffix_reads
use Rattle.suffix.specs.contracts.Suffix.firmware as firmware_signature
use Rattle.suffix.proofs.Suffix.firmware.Kinds as firmware_kinds
use Rattle.suffix.proofs.Suffix.firmware.Reads as firmware_reads
use Rattle.suffix.proofs.Suffix.check.Kinds as check_kinds
use Rattle.suffix.proofs.Suffix.check.Reads as check_reads
use Rattle.suffix.proofs.SuffixAnswer.said.Kinds as said_kinds
use Rattle.suffix.proofs.SuffixAnswer.said.Reads as said_reads
use Rattle.suffix.proofs.ErrorAnswer.said.Kinds as error_said_kinds
use Rattle.suffix.proofs.ErrorAnswer.said.Reads as error_said_reads
use Rattle.suffix.specs.contracts.Suffix.{the_row as suffix_row}
use Rattle.suffix.specs.contracts.Error.{the_row as error_row}
use Rattle.suffix.proofs.Suffix.TheLaws.{the_row_laws as suffix_laws}
use Rattle.suffix.proofs.Error.TheLaws.{the_row_laws as error_laws}
use Rattle.suffix.specs.contracts.SuffixAnswer.TheImpl.{ghosts as suffix_ghosts, dict as suffix_dict}
use Rattle.suffix.specs.contracts.ErrorAnswer.TheImpl.{ghosts as error_ghosts, dict as error_dict}
use Rattle.ground.proofs.ResultAnswer.said.Kinds as result_kinds
use Rattle.ground.proofs.ResultAnswer.said.Reads as result_reads
use Rattle.ground.proofs.Pinned.{pinned_result_said}
-- `word_at` is ground's, and pinned there
pub use Rattle.ground.proofs.Pinned.{pinned_word_at}

pub pinned_suffix : Pins suffix_kinds.ps suffix_kinds.r {R = Result Suffix Error} suffix_reads.Post (λ κs r s. r)
pinned_suffix κs a x y s t p q = p ∙ sym q

pub pinned_firmware : (κs : Lfts 1) (a : Dens {n = 1} κs firmware_kinds.ps) (x y : ResD firmware_signature.signature κs)
    (s t : AtExit (ended_of 1 firmware_kinds.ps firmware_kinds.r) κs) → firmware_reads.Post κs a x s → firmware_reads.Post κs a y t → x.now ≡ y.now
pinned_firmware κs a x y s t p q = p ∙ sym q

-- of the whole answer, a suffix or a refusal
pub pinned_said :
    Pins
    (result_kinds.ps suffix_row error_row suffix_laws error_laws)
    (result_kinds.r suffix_row error_row suffix_laws error_laws)
    {R = Report}
    (result_reads.Post suffix_row error_row suffix_laws error_laws suffix_ghosts suffix_dict error_ghosts error_dict)
    (λ κs r s. r)
pinned_said = pinned_result_said suffix_row error_row suffix_laws error_laws suffix_ghosts suffix_dict error_ghosts error_dict

pub pinned_good_said : Pins said_kinds.ps said_kinds.r {R = Report} said_reads.Post (λ κs r s. r)
pinned_good_said κs a x y s t p q = p ∙ sym q

pub pinned_error_said : Pins error_said_kinds.ps error_said_kinds.r {R = Report} error_said_reads.Post (λ κs r s. r)
pinned_error_said κs a x y s t p q = p ∙ sym q

pub pinned_check : Pins check_kinds.ps check_kinds.r {R = Result Checked Error} check_reads.Post (λ κs r s. r)
pinned_check κs a x y s t p q = p ∙ sym q
