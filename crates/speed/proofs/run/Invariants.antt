use Rattle.std.proofs.Common.{◌≡◌, ◌-◌, length}
use Rattle.speed.specs.Speed.{ran_of}
use Rattle.speed.proofs.run.Given as goal

abbrev pub invariant-loop : goal.invariant-loop
invariant-loop l =
    (length l.command ≡ length l.initial.command) × (ran_of l.firmware l.pages (1000000 - l.counter) l.command l.session ≡ ran_of l.firmware l.pages 1000000 l.initial.command l.initial.session)
