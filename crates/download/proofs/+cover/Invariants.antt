use Rattle.std.proofs.Common.{length}
use Rattle.download.proofs.+cover.Given as goal

abbrev pub decreases-cover : goal.decreases-cover
decreases-cover l = length l.pages.now
