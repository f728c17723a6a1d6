use Rattle.crc32.specs.Crc.{Laid}
use Rattle.crc32.proofs.Table.lay.Given as goal

abbrev pub invariant-loop-i : goal.invariant-loop-i
invariant-loop-i l = Laid l.words l.i
