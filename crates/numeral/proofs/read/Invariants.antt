use Rattle.std.proofs.Common.{◌≡◌, drop}
use Rattle.numeral.specs.Number.{read_on}
use Rattle.numeral.proofs.read.Given as goal

abbrev pub invariant-loop-byte : goal.invariant-loop-byte
invariant-loop-byte l = read_on l.base (drop l.byte-index l.digits) l.value ≡ read_on l.base l.digits 0
