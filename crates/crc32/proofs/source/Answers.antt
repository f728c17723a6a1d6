-- `source` meets its contract: the byte itself, or the word a table before.
use Rattle.crc32.proofs.Tables.{byte_itself, word_before}
use Rattle.crc32.proofs.source.Goals as goal

pub returns-then-i-lt256 : goal.returns-then-i-lt256
returns-then-i-lt256 c = byte_itself c.args.i c.if-i-lt256.true

pub returns-else-i-lt256 : goal.returns-else-i-lt256
returns-else-i-lt256 c = word_before c.args.words.now c.args.i c.requires.laid c.if-i-lt256.false
