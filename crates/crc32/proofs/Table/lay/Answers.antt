-- `lay` meets its contract: each turn lays out one place more.
use Rattle.std.proofs.Common.{arith}
use Rattle.crc32.proofs.Tables.{none, one_more}
use Rattle.crc32.proofs.Table.lay.Goals as goal

pub loop-i-init : goal.loop-i-init
loop-i-init c = none _

pub loop-i-preserved : goal.loop-i-preserved
loop-i-preserved c = let l = c.loop-i in one_more l.words l.i l.invariant _ _ (omega arith) c.source.ensures c.step.ensures
