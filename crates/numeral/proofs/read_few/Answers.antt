-- `read_few` meets its contract: what is left to read goes on from the value so far, which has as many digits as were read.
use Rattle.std.proofs.Common.{ℕ, ◌+◌, ◌%◌, ◌<◌, get_or, sym, ap, ◌∙◌, rules}
use Rattle.numeral.proofs.Decimals.{next, more}
use Rattle.numeral.proofs.read_few.Goals as goal

pub loop-byte-preserved : goal.loop-byte-preserved
loop-byte-preserved c =
    let s = c.args.digits.now in
    let l = c.loop-byte in
    let k : get_or s l.byte-index 0 < 256 = search rules in (
      more l.value _ l.byte-index l.invariant.0 c.if-digit-gt9.false,
      sym (next s l.byte-index l.value _ c.loop-byte-test.true k (ap (λ (x : ℕ). (x + 18446744073709551568) % 18446744073709551616) c.from-digit.ensures) c.if-digit-gt9.false) ∙ l.invariant.1,
    )
