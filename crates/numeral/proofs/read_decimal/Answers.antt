-- `read_decimal` meets its contract: zeros add nothing, and eleven digits after them are too many.
use Rattle.std.proofs.Common.{sym, ap, ◌∙◌, arith, length, length-drop}
use Rattle.ground.proofs.Lists.{onwards}
use Rattle.numeral.proofs.Decimals.{from_first, eleven}
use Rattle.numeral.proofs.read_decimal.Goals as goal

pub returns-then-digits-gt10 : goal.returns-then-digits-gt10
returns-then-digits-gt10 c =
    let s = c.args.digits.now in
    let i = c.in-Some.first in
    let f = from_first s i (sym c.in-Some.ensures) in
    sym (f.1 ∙ eleven s i (omega (arith, ap length (onwards i s), length-drop i s)) f.2)
