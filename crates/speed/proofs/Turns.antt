-- A run of calls, one call at a time. Assumes nothing.
use Rattle.std.proofs.Common.{ℕ, suc, ◌+◌, ◌-◌, ◌<◌, ◌≤◌, arith, ◌≡◌, ap, ◌∙◌, Bool, true, false, List}
use Rattle.ground.specs.Pick.{pick}
use Rattle.session.specs.Calls.{Outcome, call_of}
use Rattle.session.specs.declared.Session.{Session}
use Rattle.plan.specs.Answers.{ideal}
use Rattle.machine.specs.Machine.{endb}
use Rattle.speed.specs.Speed.{asked_of, ran_of}

module _ (fw ps cmd : List ℕ) (s : Session) (most i : ℕ) where
  -- the next call
  abbrev pub call : Outcome
  call = call_of fw ps cmd s (ideal s.phase)

  -- the calls have run out, or there is one more
  pub run_out : most ≤ i → asked_of s ≡ ran_of fw ps (most - i) cmd s
  unfolding ran_of
  run_out h = let z : 0 ≡ most - i = omega arith in ap (λ (n : ℕ). ran_of fw ps n cmd s) z

  turn : (b : Bool) → i < most → endb call.step.says ≡ b
      → ran_of fw ps (most - i) cmd s ≡ pick b (asked_of call.step.next) (ran_of fw ps (most - (i + 1)) call.command call.step.next)
  unfolding ran_of
  turn b h e =
      let z : most - i ≡ suc (most - (i + 1)) = omega arith in
      ap (λ (n : ℕ). ran_of fw ps n cmd s) z ∙ ap (λ (x : Bool). pick x (asked_of call.step.next) (ran_of fw ps (most - (i + 1)) call.command call.step.next)) e

  -- a call that goes on, and one that ends
  pub goes_on : i < most → endb call.step.says ≡ false → ran_of fw ps (most - i) cmd s ≡ ran_of fw ps (most - (i + 1)) call.command call.step.next
  goes_on = turn false

  pub ends : i < most → endb call.step.says ≡ true → ran_of fw ps (most - i) cmd s ≡ asked_of call.step.next
  ends = turn true
