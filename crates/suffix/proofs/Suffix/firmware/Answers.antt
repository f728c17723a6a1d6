-- `firmware` meets its contract: so many bytes from the start, as `check` has answered.
use Rattle.suffix.proofs.Tested.{part_by_answer}
use Rattle.suffix.proofs.Suffix.firmware.Goals as goal

pub returns-in-Ok : goal.returns-in-Ok
returns-in-Ok c = part_by_answer c.args.file.now c.in-Ok.ensures

pub returns-in-Err : goal.returns-in-Err
returns-in-Err c = part_by_answer c.args.file.now c.in-Err.ensures
