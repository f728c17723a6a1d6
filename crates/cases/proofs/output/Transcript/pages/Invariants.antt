-- How many there are was told, and so many of them, in the buffer that was lent.
use Rattle.std.proofs.Common.{take, Ok, ◌≡◌}
use Rattle.std.specs.declared.io.Error.{Error}
use Rattle.cases.specs.Output.{filled, Tells, joined, value_text}
use Rattle.cases.proofs.output.Transcript.pages.Given as goal

abbrev pub invariant-loop-page : goal.invariant-loop-page
invariant-loop-page g l =
    Tells {E = Error} (g.W.Write.contents l.initial.sink) (filled l.initial.self.bytes.now l.initial.self.held) (g.W.Write.contents l.sink) (filled l.self.bytes.now l.self.held)
    (joined value_text (take l.page-index l.page-items)) (Ok tt)
    × (l.self.bytes.ghost_name ≡ l.initial.self.bytes.ghost_name)
