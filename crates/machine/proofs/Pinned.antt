-- Each public call is pinned down: two outcomes that its contract allows, at the same arguments, are equal. Assumes nothing.
use mathlib.Core.Path.{sym, ◌∙◌}
use mathlib.Core.Bool.{Bool}
use Rattle.ground.specs.Pins.{Pins}
use Rattle.machine.specs.declared.Ask.{Ask}
use Rattle.machine.specs.declared.Moved.{Moved}
use Rattle.machine.proofs.Phase.asked.Kinds as asked_kinds
use Rattle.machine.proofs.Phase.asked.Reads as asked_reads
use Rattle.machine.proofs.Phase.is_live.Kinds as is_live_kinds
use Rattle.machine.proofs.Phase.is_live.Reads as is_live_reads
use Rattle.machine.proofs.Phase.is_pause.Kinds as is_pause_kinds
use Rattle.machine.proofs.Phase.is_pause.Reads as is_pause_reads
use Rattle.machine.proofs.Moved.refused.Kinds as refused_kinds
use Rattle.machine.proofs.Moved.refused.Reads as refused_reads
use Rattle.machine.proofs.Moved.issued.Kinds as issued_kinds
use Rattle.machine.proofs.Moved.issued.Reads as issued_reads
use Rattle.machine.proofs.Moved.proceeded.Kinds as proceeded_kinds
use Rattle.machine.proofs.Moved.proceeded.Reads as proceeded_reads
use Rattle.machine.proofs.Moved.counted.Kinds as counted_kinds
use Rattle.machine.proofs.Moved.counted.Reads as counted_reads
use Rattle.machine.proofs.Moved.first_reply.Kinds as first_reply_kinds
use Rattle.machine.proofs.Moved.first_reply.Reads as first_reply_reads
use Rattle.machine.proofs.Moved.second_reply.Kinds as second_reply_kinds
use Rattle.machine.proofs.Moved.second_reply.Reads as second_reply_reads
use Rattle.machine.proofs.Moved.wait_reply.Kinds as wait_reply_kinds
use Rattle.machine.proofs.Moved.wait_reply.Reads as wait_reply_reads
use Rattle.machine.proofs.Ask.is_end.Kinds as is_end_kinds
use Rattle.machine.proofs.Ask.is_end.Reads as is_end_reads
use Rattle.ground.specs.declared.Report.{Report}
use Rattle.machine.proofs.asks.AskAnswer.said.Kinds as said_kinds
use Rattle.machine.proofs.asks.AskAnswer.said.Reads as said_reads

pub pinned_asked : Pins asked_kinds.ps asked_kinds.r {R = Ask} asked_reads.Post (λ κs r s. r)
pinned_asked κs a x y s t p q = p ∙ sym q

pub pinned_is_live : Pins is_live_kinds.ps is_live_kinds.r {R = Bool} is_live_reads.Post (λ κs r s. r)
pinned_is_live κs a x y s t p q = p ∙ sym q

pub pinned_is_pause : Pins is_pause_kinds.ps is_pause_kinds.r {R = Bool} is_pause_reads.Post (λ κs r s. r)
pinned_is_pause κs a x y s t p q = p ∙ sym q

pub pinned_refused : Pins refused_kinds.ps refused_kinds.r {R = Moved} refused_reads.Post (λ κs r s. r)
pinned_refused κs a x y s t p q = p ∙ sym q

pub pinned_issued : Pins issued_kinds.ps issued_kinds.r {R = Moved} issued_reads.Post (λ κs r s. r)
pinned_issued κs a x y s t p q = p ∙ sym q

pub pinned_proceeded : Pins proceeded_kinds.ps proceeded_kinds.r {R = Moved} proceeded_reads.Post (λ κs r s. r)
pinned_proceeded κs a x y s t p q = p ∙ sym q

pub pinned_counted : Pins counted_kinds.ps counted_kinds.r {R = Moved} counted_reads.Post (λ κs r s. r)
pinned_counted κs a x y s t p q = p ∙ sym q

pub pinned_first_reply : Pins first_reply_kinds.ps first_reply_kinds.r {R = Moved} first_reply_reads.Post (λ κs r s. r)
pinned_first_reply κs a x y s t p q = p ∙ sym q

pub pinned_second_reply : Pins second_reply_kinds.ps second_reply_kinds.r {R = Moved} second_reply_reads.Post (λ κs r s. r)
pinned_second_reply κs a x y s t p q = p ∙ sym q

pub pinned_wait_reply : Pins wait_reply_kinds.ps wait_reply_kinds.r {R = Moved} wait_reply_reads.Post (λ κs r s. r)
pinned_wait_reply κs a x y s t p q = p ∙ sym q

pub pinned_said : Pins said_kinds.ps said_kinds.r {R = Report} said_reads.Post (λ κs r s. r)
pinned_said κs a x y s t p q = p ∙ sym q

pub pinned_is_end : Pins is_end_kinds.ps is_end_kinds.r {R = Bool} is_end_reads.Post (λ κs r s. r)
pinned_is_end κs a x y s t p q = p ∙ sym q
