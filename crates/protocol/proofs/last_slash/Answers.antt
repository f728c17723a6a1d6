-- `last_slash` meets its contract: the library's last place is the cut's.
use Rattle.std.proofs.Common.{rules}
use Rattle.protocol.proofs.Cuts.{found}
use Rattle.protocol.proofs.last_slash.Goals as goal

pub returns-clause-place : goal.returns-clause-place
returns-clause-place c = found c.args.s.now _ (search rules)
