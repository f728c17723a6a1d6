use Rattle.std.proofs.Common.{◌≡◌, ◌^◌, ◌<◌, drop}
use Rattle.numeral.specs.Number.{read_on}
use Rattle.numeral.proofs.Decimals.{late}
use Rattle.numeral.proofs.read_few.Given as goal

abbrev pub invariant-loop-byte : goal.invariant-loop-byte
invariant-loop-byte l = (l.value < 10 ^ l.byte-index) × (late (drop l.byte-index l.digits) l.value ≡ read_on 10 l.digits 0)
