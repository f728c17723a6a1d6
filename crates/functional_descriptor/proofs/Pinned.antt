-- Each public call is pinned down: two outcomes that its contract allows, at the same arguments, are equal. Assumes nothing.
use Rattle.std.proofs.Common.{sym, ◌∙◌}
use Rattle.std.specs.Prelude.{Option, Result}
use Rattle.ground.specs.Pins.{Pins}
use Rattle.functional_descriptor.specs.declared.FunctionalDescriptor.{FunctionalDescriptor}
use Rattle.functional_descriptor.specs.declared.Error.{Error}
use Rattle.functional_descriptor.proofs.FunctionalDescriptor.from_bytes.Kinds as descriptor_kinds
use Rattle.functional_descriptor.proofs.FunctionalDescriptor.from_bytes.Reads as descriptor_reads
use Rattle.ground.specs.declared.Report.{Report}
use Rattle.functional_descriptor.proofs.FunctionalDescriptorAnswer.said.Kinds as said_kinds
use Rattle.functional_descriptor.proofs.FunctionalDescriptorAnswer.said.Reads as said_reads
use Rattle.functional_descriptor.proofs.ErrorAnswer.said.Kinds as error_said_kinds
use Rattle.functional_descriptor.proofs.ErrorAnswer.said.Reads as error_said_reads
use denote.RattleType.{RattleType}
use denote.Param.Laws.{Laws}
use Rattle.functional_descriptor.specs.contracts.FunctionalDescriptor.{the_row as descriptor_row}
use Rattle.functional_descriptor.specs.contracts.Error.{the_row as error_row}
use Rattle.functional_descriptor.proofs.FunctionalDescriptor.TheLaws.{the_row_laws as descriptor_laws}
use Rattle.functional_descriptor.proofs.Error.TheLaws.{the_row_laws as error_laws}
use Rattle.functional_descriptor.specs.contracts.FunctionalDescriptorAnswer.TheImpl.{ghosts as descriptor_ghosts, dict as descriptor_dict}
use Rattle.functional_descriptor.specs.contracts.ErrorAnswer.TheImpl.{ghosts as error_ghosts, dict as error_dict}
use mir.Syntax.{Dict}
use Rattle.std.specs.contracts.result.Result.{the_row as result_row}
use Rattle.std.proofs.result.Result.TheLaws.{the_row_laws as result_laws}
use Rattle.ground.specs.declared.Answer.{Ghosts}
use Rattle.ground.specs.contracts.ResultAnswer.TheImpl.{ghosts as result_ghosts, dict as result_dict}
use Rattle.ground.proofs.OptionAnswer.said.Kinds as option_kinds
use Rattle.ground.proofs.OptionAnswer.said.Reads as option_reads
use Rattle.ground.proofs.Pinned.{pinned_option_said}

pub pinned_descriptor : Pins descriptor_kinds.ps descriptor_kinds.r {R = Option (Result FunctionalDescriptor Error)} descriptor_reads.Post (λ κs r s. r)
pinned_descriptor κs a x y s t p q = p ∙ sym q

-- the type of a descriptor or a refusal, and what is known of it
abbrev read_row : RattleType
read_row = result_row descriptor_row error_row

abbrev read_laws : Laws read_row
read_laws = result_laws descriptor_row error_row descriptor_laws error_laws

abbrev read_ghosts : Ghosts (Result FunctionalDescriptor Error)
read_ghosts = result_ghosts descriptor_row error_row descriptor_ghosts descriptor_dict error_ghosts error_dict

abbrev read_dict : Dict
read_dict = result_dict descriptor_row error_row descriptor_ghosts descriptor_dict error_ghosts error_dict

-- of the whole answer: none, a descriptor or a refusal
pub pinned_said :
    Pins
    (option_kinds.ps read_row read_laws)
    (option_kinds.r read_row read_laws)
    {R = Report}
    (option_reads.Post read_row read_laws read_ghosts read_dict)
    (λ κs r s. r)
pinned_said = pinned_option_said read_row read_laws read_ghosts read_dict

pub pinned_good_said : Pins said_kinds.ps said_kinds.r {R = Report} said_reads.Post (λ κs r s. r)
pinned_good_said κs a x y s t p q = p ∙ sym q

pub pinned_error_said : Pins error_said_kinds.ps error_said_kinds.r {R = Report} error_said_reads.Post (λ κs r s. r)
pinned_error_said κs a x y s t p q = p ∙ sym q
