-- Each public call is pinned down: two outcomes that its contract allows, at the same arguments, are equal. Assumes nothing.
use Prim.Native.Nat.{ℕ}
use mathlib.Core.Path.{sym, ◌∙◌}
use Rattle.ground.specs.Pins.{Pins}
use Rattle.speed.specs.Speed.{answered as told_number}
use Rattle.speed_c.proofs.rt_layout.Kinds as rt_layout_kinds
use Rattle.speed_c.proofs.rt_layout.Reads as rt_layout_reads
use Rattle.speed_c.proofs.rt_verify.Kinds as rt_verify_kinds
use Rattle.speed_c.proofs.rt_verify.Reads as rt_verify_reads
use Rattle.speed_c.proofs.rt_session.Kinds as rt_session_kinds
use Rattle.speed_c.proofs.rt_session.Reads as rt_session_reads

pub pinned_rt_layout : Pins rt_layout_kinds.ps rt_layout_kinds.r {R = ℕ} rt_layout_reads.Post (λ κs r s. told_number r s.1.0.now)
pinned_rt_layout κs a x y s t p q = p ∙ sym q

pub pinned_rt_session : Pins rt_session_kinds.ps rt_session_kinds.r {R = ℕ} rt_session_reads.Post (λ κs r s. r)
pinned_rt_session κs a x y s t p q = p ∙ sym q

pub pinned_rt_verify : Pins rt_verify_kinds.ps rt_verify_kinds.r {R = ℕ} rt_verify_reads.Post (λ κs r s. r)
pinned_rt_verify κs a x y s t p q = p ∙ sym q
