-- `passed` meets its contract: where it stops, and what is gathered up to there.
use mathlib.Core.Path.{◌∙◌}
use Rattle.cases.specs.Output.{filled}
use Rattle.cases.proofs.Pieces.{settled, at_newline, at_last}
use Rattle.cases.proofs.lines.passed.Goals as goal

pub returns-then-stop-end : goal.returns-then-stop-end
returns-then-stop-end c =
    let a = c.args in
    let g = c.gather-len in
    let s = c.newline-stop in
    at_newline a.place s.result (filled g.new.line g.result) c.if-stop-end.true
    ∙ settled a.place a.input.now a.line.now s.result _ s.ensures g.ensures

pub returns : goal.returns
returns c =
    let a = c.args in
    let g = c.gather-len in
    let s = c.newline-stop in
    at_last a.place s.result (filled g.new.line g.result) c.if-stop-end.false
    ∙ settled a.place a.input.now a.line.now s.result _ s.ensures g.ensures
