-- `lay` meets its contract: after each turn the pages of one run more stand at the front.
use Rattle.memory_layout.proofs.Laid.{more_length, more_placed}
use Rattle.memory_layout.proofs.usual.lay.Goals as goal

pub loop-run-preserved : goal.loop-run-preserved
loop-run-preserved c =
    let l = c.loop-run in (
      more_length c.args.runs.now l.run-index l.at c.args.store.now l.store c.loop-run-test.true l.invariant.0 l.invariant.1 _,
      more_placed c.args.runs.now l.run-index l.at c.args.store.now l.store c.loop-run-test.true l.invariant.0 l.invariant.1 _ c.lay.new.store c.lay.ensures,
    )
