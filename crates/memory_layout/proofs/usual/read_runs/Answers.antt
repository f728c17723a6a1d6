-- `read_runs` meets its contract: each turn keeps a run more.
use Rattle.std.proofs.Common.{arith}
use Rattle.memory_layout.proofs.Runs.{within, next_run, last_run}
use Rattle.memory_layout.proofs.usual.read_runs.Goals as goal

pub returns-then-piece-text : goal.returns-then-piece-text
returns-then-piece-text c =
    let s = c.args.text.now in
    let l = c.loop-piece in
    let p = c.in_ok-piece.piece in
    let u = c.in_ok-piece.ensures in
    last_run s c.args.room l.runs l.at l.pages l.kept p.run p.end l.invariant u.0 u.1 c.requires.0 (omega (arith, c.if-room-pages.false)) c.if-piece-text.true

pub loop-piece-preserved : goal.loop-piece-preserved
loop-piece-preserved c =
    let s = c.args.text.now in
    let l = c.loop-piece in
    let p = c.in_ok-piece.piece in
    let u = c.in_ok-piece.ensures in
    next_run s c.args.room l.runs l.at l.pages l.kept p.run p.end l.invariant u.0 u.1 c.requires.0 (omega (arith, c.if-room-pages.false)) (omega (arith, within s c.args.room l.runs l.at l.pages l.kept p.run p.end l.invariant u.0 u.1, c.if-piece-text.false))
