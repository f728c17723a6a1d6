-- `put` meets its contract: a store and a copy are five bytes in front.
use Rattle.std.proofs.Common.{◌∙◌}
use Rattle.wire.proofs.Lent.{five}
use Rattle.wire.proofs.put.Goals as goal

pub returns : goal.returns
returns c =
    let k = c.copy_from_slice.ensures.after ∙ c.to_le_bytes.ensures in
    rw k (five c.args.command.now c.args.op c.args.position c.requires)
