-- `block` meets its contract: after the last four bytes nothing is left.
use Rattle.std.proofs.Common.{arith, take, drop, length, ◌≤◌}
use Rattle.crc32.proofs.Bytewise.{over}
use Rattle.std.proofs.lemmas.Grind.{common_steps}
use Rattle.crc32.proofs.Sixteen.block.Goals as goal

pub four-z-requires-clause-after : goal.four-z-requires-clause-after
four-z-requires-clause-after c =
    let h : length (take 4 (drop 12 c.args.block.now)) ≤ 4 = grind (arith, common_steps) in over _ 4 0 h
