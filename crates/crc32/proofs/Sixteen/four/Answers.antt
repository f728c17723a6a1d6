-- `four` meets its contract: the word is added whole, and each of its bytes goes through its table.
use Rattle.std.proofs.Common.{◌-◌, length, refl}
use Rattle.crc32.proofs.Slices.{word_fours}
use Rattle.crc32.proofs.Sixteen.four.Goals as goal

pub returns : goal.returns
returns c =
    let a = c.args in
    rw (c.word.ensures, c.word-2.ensures, c.word-3.ensures, c.word-4.ensures)
    (word_fours a.c (length a.bytes.now - 4) a.rest _ _ _ _ c.ranges.c.fits c.from_le_bytes.result a.bytes.now (λ n. (c.type_inv.bytes n).fits) c.requires.at_least refl c.requires.after
    c.from_le_bytes.ensures c.lowest.ensures c.lowest-2.ensures c.lowest-3.ensures c.lowest-4.ensures)
