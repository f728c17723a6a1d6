-- `check` meets its contract: the suffix's reader hands the image over.
use Rattle.std.proofs.Common.{ap, ◌∙◌}
use Rattle.dfuse_file.specs.Walking.{survey_of}
use Rattle.dfuse_file.proofs.ImageWalk.{before_suffix}
use Rattle.dfuse_file.proofs.walk.check.Goals as goal

pub returns : goal.returns
returns c = c.image.ensures ∙ ap (survey_of c.args.wanted) (before_suffix c.args.file.now c.in_ok-checked.ensures)
