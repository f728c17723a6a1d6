use Rattle.std.proofs.Common.{◌≡◌, ◌+◌, ◌-◌, ◌≤◌, length}
use Rattle.dfuse_file.specs.Reading.{elements_in}
use Rattle.dfuse_file.specs.Walking.{walked_of}
use Rattle.dfuse_file.proofs.walk.walk_elements.Given as goal

abbrev pub invariant-loop : goal.invariant-loop
invariant-loop l =
    let p = l.rest in
    let e = l.elements in
    (l.tally.seen ≤ p.at) × (p.at + length p.bytes.now ≡ e.at + length e.bytes.now)
    × (walked_of l.index l.target.setting l.tally p.at (elements_in (l.end - l.counter) p.at p.bytes.now) ≡ walked_of l.index l.target.setting l.initial.tally e.at (elements_in l.end e.at e.bytes.now))
