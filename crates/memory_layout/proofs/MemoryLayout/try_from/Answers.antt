-- `try_from` meets its contract: a text of usual pieces in one pass, any other as before.
use Rattle.memory_layout.proofs.Runs.{too_long, read_quickly}
use Rattle.memory_layout.proofs.MemoryLayout.try_from.Goals as goal

pub returns-then-src-gt-MAX_TEXT : goal.returns-then-src-gt-MAX_TEXT
returns-then-src-gt-MAX_TEXT c = too_long c.args.src.now c.args.store.now c.if-src-gt-MAX_TEXT.true

pub returns-in-Some : goal.returns-in-Some
returns-in-Some c = read_quickly c.args.src.now c.args.store.now _ _ _ c.in-Some.read c.min.ensures c.if-src-gt-MAX_TEXT.false c.in-Some.ensures c.lay.ensures
