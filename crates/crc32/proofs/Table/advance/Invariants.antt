use Rattle.std.proofs.Common.{◌≡◌, length}
use Rattle.papers.specs.Crc.{crc}
use Rattle.crc32.proofs.Table.advance.Given as goal

abbrev pub invariant-loop-block : goal.invariant-loop-block
invariant-loop-block l = crc l.c l.rest ≡ crc l.start l.bytes

abbrev pub decreases-loop-block : goal.decreases-loop-block
decreases-loop-block l = length l.rest
