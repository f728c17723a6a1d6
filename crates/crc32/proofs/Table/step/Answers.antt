-- `step` meets its contract: the low byte by the table, the others shifted.
use Rattle.std.proofs.Common.{rules}
use Rattle.crc32.proofs.Bytewise.{looked_up}
use Rattle.crc32.proofs.Table.step.Goals as goal

pub returns : goal.returns
returns c =
    let a = c.args in
    looked_up a.self.now.words.now a.c a.b c.from-2.result a.self.now.rule (search rules) (search rules)
