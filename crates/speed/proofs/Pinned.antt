-- Each public call is pinned down: two outcomes that its contract allows, at the same arguments, are equal. Assumes nothing.
use Prim.Native.Nat.{ℕ}
use mathlib.Core.Path.{sym, ◌∙◌}
use Rattle.ground.specs.Pins.{Pins}
use Rattle.speed.specs.Speed.{answered as told-number}
use Rattle.speed.proofs.rt_layout.Kinds as rt-layout-kinds
use Rattle.speed.proofs.rt_layout.Reads as rt-layout-reads
use Rattle.speed.proofs.rt_verify.Kinds as rt-verify-kinds
use Rattle.speed.proofs.rt_verify.Reads as rt-verify-reads
use Rattle.speed.proofs.rt_session.Kinds as rt-session-kinds
use Rattle.speed.proofs.rt_session.Reads as rt-session-reads

pub pinned_rt_layout : Pins rt-layout-kinds.ps rt-layout-kinds.r {R = ℕ} rt-layout-reads.Post (λ κs r s. told-number r s.1.0.now)
pinned_rt_layout κs a x y s t p q = p ∙ sym q

pub pinned_rt_session : Pins rt-session-kinds.ps rt-session-kinds.r {R = ℕ} rt-session-reads.Post (λ κs r s. r)
pinned_rt_session κs a x y s t p q = p ∙ sym q

pub pinned_rt_verify : Pins rt-verify-kinds.ps rt-verify-kinds.r {R = ℕ} rt-verify-reads.Post (λ κs r s. r)
pinned_rt_verify κs a x y s t p q = p ∙ sym q
