-- `of` meets its contract: the words of the source have the table's rule.
use Rattle.std.proofs.Common.{refl}
use Rattle.papers.specs.Crc.{shifted, eight}
use Rattle.crc32.specs.declared.TheConstants.{WORDS}
use Rattle.crc32.proofs.Rule.{rule}
use Rattle.crc32.proofs.of.Goals as goal

pub invariant_of-table : goal.invariant_of-table
unfolding shifted eight
invariant_of-table c = record { rule = rule WORDS refl tt }
