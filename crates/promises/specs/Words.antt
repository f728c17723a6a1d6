-- The words that most promises use, of the crates below: passed on, so that a file brings them in with one line.
pub use Rattle.ground.specs.Pick.{pick}
pub use Rattle.protocol.specs.declared.DfuProtocol.{DfuProtocol}
pub use Rattle.wire.specs.declared.Command.{Command}
pub use Rattle.wire.specs.declared.Request.{Request}
pub use Rattle.work.specs.declared.Setup.{Setup}
pub use Rattle.work.specs.declared.Progress.{Progress}
pub use Rattle.work.specs.declared.Stage.{Stage}
pub use Rattle.work.specs.declared.Todo.{Todo}
pub use Rattle.work.specs.declared.Wait.{Wait}
pub use Rattle.work.specs.declared.End.{End}
pub use Rattle.work.specs.declared.Error.{Error}
pub use Rattle.work.specs.Work.{Work}
pub use Rattle.download.specs.Download.{download}
pub use Rattle.machine.specs.declared.Phase.{Phase}
pub use Rattle.machine.specs.declared.Moved.{Moved}
pub use Rattle.machine.specs.declared.Ask.{Ask}
pub use Rattle.session.specs.declared.Session.{Session}
pub use Rattle.session.specs.declared.Step.{Step}
pub use Rattle.session.specs.Told.{Answer, count, reply, waited, was_reset, failed, mk}
unfoldable pub use Rattle.session.specs.Told.{told}
pub use Rattle.start.specs.declared.DfuSansIo.{DfuSansIo}
pub use Rattle.start.specs.Start.{setup_of, fresh}
