-- `advance` meets its contract: each turn takes a block from what is still to come.
use Rattle.std.proofs.Common.{ap, ap₂, ◌∙◌}
use Rattle.papers.specs.Crc.{crc}
use Rattle.crc32.proofs.Bytewise.{onward}
use Rattle.crc32.proofs.Table.advance.Goals as goal

pub loop-block-preserved : goal.loop-block-preserved
loop-block-preserved c =
    let l = c.loop-block in
    let cut = c.in-Some.ensures.cases in
    ap₂ crc (c.block-c.ensures ∙ ap (crc l.c) (ap (λ x. x.now) c.in-Some.block-is ∙ cut.0)) cut.1 ∙ onward l.c 16 l.rest.now ∙ l.invariant
