-- Each public call is pinned down: two outcomes that its contract allows, at the same arguments, are equal. Assumes nothing.
use mathlib.Core.Path.{◌≡◌, sym, ◌∙◌}
use contract.Lifetimes.{Lfts}
use borrow.Fn.Kinds.{Dens, ended_of}
use borrow.Fn.World.{ResD}
use denote.Triple.Clauses.{AtExit}
use Rattle.ground.specs.Pins.{Pins}
use Rattle.machine.specs.declared.Ask.{Ask}
use Rattle.session.specs.Calls.{out}
use Rattle.session.specs.declared.Step.{Step}
use Rattle.session.proofs.Session.asks.Kinds as asks_kinds
use Rattle.session.proofs.Session.asks.Reads as asks_reads
use Rattle.session.proofs.Session.told_count.Kinds as told_count_kinds
use Rattle.session.proofs.Session.told_count.Reads as told_count_reads
use Rattle.session.proofs.Session.told_wait.Kinds as told_wait_kinds
use Rattle.session.proofs.Session.told_wait.Reads as told_wait_reads
use Rattle.session.proofs.Session.told_reset.Kinds as told_reset_kinds
use Rattle.session.proofs.Session.told_reset.Reads as told_reset_reads
use Rattle.session.proofs.Session.told_failure.Kinds as told_failure_kinds
use Rattle.session.proofs.Session.told_failure.Reads as told_failure_reads
use Rattle.session.proofs.Session.told_reply.Kinds as told_reply_kinds
use Rattle.session.proofs.Session.told_reply.Reads as told_reply_reads
use Rattle.session.specs.contracts.Session.«data» as data_signature
use Rattle.session.proofs.Session.«data».Kinds as data_kinds
use Rattle.session.proofs.Session.«data».Reads as data_reads

pub pinned_asks : Pins asks_kinds.ps asks_kinds.r {R = Ask} asks_reads.Post (λ κs r s. r)
pinned_asks κs a x y s t p q = p ∙ sym q

pub pinned_told_count : Pins told_count_kinds.ps told_count_kinds.r {R = Step} told_count_reads.Post (λ κs r s. r)
pinned_told_count κs a x y s t p q = p ∙ sym q

pub pinned_told_wait : Pins told_wait_kinds.ps told_wait_kinds.r {R = Step} told_wait_reads.Post (λ κs r s. r)
pinned_told_wait κs a x y s t p q = p ∙ sym q

pub pinned_told_reset : Pins told_reset_kinds.ps told_reset_kinds.r {R = Step} told_reset_reads.Post (λ κs r s. r)
pinned_told_reset κs a x y s t p q = p ∙ sym q

pub pinned_told_failure : Pins told_failure_kinds.ps told_failure_kinds.r {R = Step} told_failure_reads.Post (λ κs r s. r)
pinned_told_failure κs a x y s t p q = p ∙ sym q

pub pinned_told_reply : Pins told_reply_kinds.ps told_reply_kinds.r {R = Step} told_reply_reads.Post (λ κs r s. out r s.1.1.1.1.0.now)
pinned_told_reply κs a x y s t p q = p ∙ sym q

pub pinned_data : (κs : Lfts 1) (a : Dens {n = 1} κs data_kinds.ps) (x y : ResD data_signature.signature κs) (s t : AtExit (ended_of 1 data_kinds.ps data_kinds.r) κs)
    → data_reads.Post κs a x s → data_reads.Post κs a y t → x.now ≡ y.now
pinned_data κs a x y s t p q = p ∙ sym q
