-- The turns are counted down.
use Rattle.replay.proofs.run.Given as goal

abbrev pub decreases-loop-place : goal.decreases-loop-place
decreases-loop-place g l = l.place.turns
