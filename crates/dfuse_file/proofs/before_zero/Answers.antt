-- `before_zero` meets its contract: the first zero is where the name stops.
use Rattle.dfuse_file.proofs.Cutting.{stops, goes_on}
use Rattle.dfuse_file.proofs.before_zero.Goals as goal

pub returns-in-Some : goal.returns-in-Some
returns-in-Some c = stops c.args.s.now _ c.in-Some.ensures

pub returns-in-None : goal.returns-in-None
returns-in-None c = goes_on c.args.s.now c.in-None.ensures
