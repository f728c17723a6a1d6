-- `last_hex` meets its contract: what HEX gave is answered where it ends the line.
use Rattle.std.proofs.Common.{◌∙◌}
use Rattle.cases.proofs.Hex.{ends, last}
use Rattle.cases.proofs.words.last_hex.Goals as goal

pub returns-in_err-read : goal.returns-in_err-read
returns-in_err-read c =
    let a = c.args in
    last a.line.now a.at a.bytes.now _ _ _ c.in_err-read.ensures c.from_residual.ensures

pub returns : goal.returns
returns c =
    let a = c.args in
    last a.line.now a.at a.bytes.now _ _ _ c.in_ok-read.ensures (c.then_some.ensures ∙ ends a.line.now c.in_ok-read.read)
