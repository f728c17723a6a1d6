-- Each public call is pinned down: two outcomes that its contract allows, at the same arguments, are equal. Assumes nothing.
use mathlib.Core.Path.{sym, ◌∙◌}
use mathlib.Core.Bool.{Bool}
use Rattle.ground.specs.Pins.{Pins}
use Rattle.protocol.specs.declared.UsbWriteControl.{UsbWriteControl}
use Rattle.start.specs.declared.DfuSansIo.{DfuSansIo}
use Rattle.std.specs.Prelude.{Result}
use Rattle.session.specs.declared.Session.{Session}
use Rattle.start.specs.declared.StartError.{StartError}
use Rattle.start.proofs.is_over.Kinds as is_over_kinds
use Rattle.start.proofs.is_over.Reads as is_over_reads
use Rattle.start.proofs.is_many.Kinds as is_many_kinds
use Rattle.start.proofs.is_many.Reads as is_many_reads
use Rattle.start.proofs.DfuSansIo.new.Kinds as new_kinds
use Rattle.start.proofs.DfuSansIo.new.Reads as new_reads
use Rattle.start.proofs.DfuSansIo.set_address.Kinds as set_address_kinds
use Rattle.start.proofs.DfuSansIo.set_address.Reads as set_address_reads
use Rattle.start.proofs.DfuSansIo.begin.Kinds as begin_kinds
use Rattle.start.proofs.DfuSansIo.begin.Reads as begin_reads
use Rattle.start.proofs.DfuSansIo.download.Kinds as download_kinds
use Rattle.start.proofs.DfuSansIo.download.Reads as download_reads
use Rattle.start.proofs.DfuSansIo.detach.Kinds as io_detach_kinds
use Rattle.start.proofs.DfuSansIo.detach.Reads as io_detach_reads
use Rattle.ground.specs.declared.Report.{Report}
use Rattle.start.proofs.StartErrorAnswer.said.Kinds as error_said_kinds
use Rattle.start.proofs.StartErrorAnswer.said.Reads as error_said_reads
use Rattle.start.proofs.said.Kinds as started_said_kinds
use Rattle.start.proofs.said.Reads as started_said_reads

pub pinned_is_many : Pins is_many_kinds.ps is_many_kinds.r {R = Bool} is_many_reads.Post (λ κs r s. r)
pinned_is_many κs a x y s t p q = p ∙ sym q

pub pinned_is_over : Pins is_over_kinds.ps is_over_kinds.r {R = Bool} is_over_reads.Post (λ κs r s. r)
pinned_is_over κs a x y s t p q = p ∙ sym q

pub pinned_new : Pins new_kinds.ps new_kinds.r {R = DfuSansIo} new_reads.Post (λ κs r s. r)
pinned_new κs a x y s t p q = p ∙ sym q

pub pinned_set_address : Pins set_address_kinds.ps set_address_kinds.r {R = DfuSansIo} set_address_reads.Post (λ κs r s. r)
pinned_set_address κs a x y s t p q = p ∙ sym q

pub pinned_begin : Pins begin_kinds.ps begin_kinds.r {R = Result Session StartError} begin_reads.Post (λ κs r s. r)
pinned_begin κs a x y s t p q = p ∙ sym q

pub pinned_download : Pins download_kinds.ps download_kinds.r {R = Result Session StartError} download_reads.Post (λ κs r s. r)
pinned_download κs a x y s t p q = p ∙ sym q

pub pinned_io_detach : Pins io_detach_kinds.ps io_detach_kinds.r {R = UsbWriteControl} io_detach_reads.Post (λ κs r s. r)
pinned_io_detach κs a x y s t p q = p ∙ sym q

pub pinned_error_said : Pins error_said_kinds.ps error_said_kinds.r {R = Report} error_said_reads.Post (λ κs r s. r)
pinned_error_said κs a x y s t p q = p ∙ sym q

pub pinned_started_said : Pins started_said_kinds.ps started_said_kinds.r {R = Report} started_said_reads.Post (λ κs r s. r)
pinned_started_said κs a x y s t p q = p ∙ sym q
