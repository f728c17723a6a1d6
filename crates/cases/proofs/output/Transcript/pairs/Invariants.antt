-- So many of them were told, in the buffer that was lent.
use Rattle.std.proofs.Common.{take, Ok, ◌≡◌}
use Rattle.std.specs.declared.io.Error.{Error}
use Rattle.cases.specs.Output.{filled, Tells, joined, pair_text}
use Rattle.cases.proofs.output.Transcript.pairs.Given as goal

abbrev pub invariant-loop-b : goal.invariant-loop-b
invariant-loop-b g l =
    Tells {E = Error} (g.W.Write.contents l.initial.sink) (filled l.initial.self.bytes.now l.initial.self.held) (g.W.Write.contents l.sink) (filled l.self.bytes.now l.self.held)
    (joined pair_text (take l.b-index l.bytes)) (Ok tt)
    × (l.self.bytes.ghost_name ≡ l.initial.self.bytes.ghost_name)
