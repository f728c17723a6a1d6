-- `starts_with` meets its contract: the library's test is the definition's.
use Rattle.std.proofs.Common.{◌∙◌}
use Rattle.ground.proofs.Prefix.{pointed}
use Rattle.ground.proofs.starts_with.Goals as goal

pub returns : goal.returns
returns c = c.starts_with.ensures.value ∙ pointed c.args.p.now c.args.s.now
