use Rattle.std.proofs.Common.{◌≡◌, ◌-◌, ◌≤◌}
use Rattle.dfuse_file.specs.Reading.{targets_in}
use Rattle.dfuse_file.specs.Walking.{fresh, walked_all}
use Rattle.dfuse_file.proofs.walk.walk_targets.Given as goal

abbrev pub invariant-loop-index : goal.invariant-loop-index
invariant-loop-index l =
    let p = l.rest in
    let e = l.targets in
    (l.tally.seen ≤ p.at)
    × (walked_all l.index l.tally p.at (targets_in (l.n - l.index) p.at p.bytes.now) ≡ walked_all 0 (fresh l.wanted) e.at (targets_in l.n e.at e.bytes.now))
