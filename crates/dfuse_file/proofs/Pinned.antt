-- Each public call is pinned down: two outcomes that its contract allows, at the same arguments, are equal. Assumes nothing.
use Rattle.std.proofs.Common.{◌≡◌, Option, Result, sym, ◌∙◌}
use contract.Lifetimes.{Lfts}
use borrow.Fn.Kinds.{Dens, ended_of}
use borrow.Fn.World.{ResD}
use denote.Triple.Clauses.{AtExit}
use Rattle.ground.specs.Pins.{Pins}
use Rattle.dfuse_file.specs.declared.Dfuse.{Dfuse}
use Rattle.dfuse_file.specs.declared.Element.{Element}
use Rattle.dfuse_file.specs.declared.Target.{Target}
use Rattle.dfuse_file.specs.declared.error.Error.{Error}
use Rattle.dfuse_file.proofs.Dfuse.read.Kinds as read_kinds
use Rattle.dfuse_file.proofs.Dfuse.read.Reads as read_reads
use Rattle.dfuse_file.proofs.Dfuse.element.Kinds as element_kinds
use Rattle.dfuse_file.proofs.Dfuse.element.Reads as element_reads
use Rattle.dfuse_file.specs.contracts.Dfuse.part as part_signature
use Rattle.dfuse_file.proofs.Dfuse.part.Kinds as part_kinds
use Rattle.dfuse_file.proofs.Dfuse.part.Reads as part_reads
use Rattle.dfuse_file.proofs.Dfuse.target.Kinds as target_kinds
use Rattle.dfuse_file.proofs.Dfuse.target.Reads as target_reads
use Rattle.dfuse_file.specs.contracts.Dfuse.name as name_signature
use Rattle.dfuse_file.proofs.Dfuse.name.Kinds as name_kinds
use Rattle.dfuse_file.proofs.Dfuse.name.Reads as name_reads

pub pinned_read : Pins read_kinds.ps read_kinds.r {R = Result Dfuse Error} read_reads.Post (λ κs r s. r)
pinned_read κs a x y s t p q = p ∙ sym q

pub pinned_element : Pins element_kinds.ps element_kinds.r {R = Option Element} element_reads.Post (λ κs r s. r)
pinned_element κs a x y s t p q = p ∙ sym q

pub pinned_part : (κs : Lfts 1) (a : Dens {n = 1} κs part_kinds.ps) (x y : ResD part_signature.signature κs)
    (s t : AtExit (ended_of 1 part_kinds.ps part_kinds.r) κs) → part_reads.Post κs a x s → part_reads.Post κs a y t → x.now ≡ y.now
pinned_part κs a x y s t p q = p ∙ sym q

pub pinned_target : Pins target_kinds.ps target_kinds.r {R = Option Target} target_reads.Post (λ κs r s. r)
pinned_target κs a x y s t p q = p ∙ sym q

pub pinned_name : (κs : Lfts 1) (a : Dens {n = 1} κs name_kinds.ps) (x y : ResD name_signature.signature κs)
    (s t : AtExit (ended_of 1 name_kinds.ps name_kinds.r) κs) → name_reads.Post κs a x s → name_reads.Post κs a y t → x.now ≡ y.now
pinned_name κs a x y s t p q = p ∙ sym q
