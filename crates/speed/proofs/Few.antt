-- No refusal has a number of more than two digits, so none overflows where it is added to 2^63. Assumes nothing.
use Rattle.std.proofs.Common.{◌<◌, arith}
use Rattle.memory_layout.specs.declared.Error.{Error as LayoutError}
use Rattle.memory_layout.specs.Layout as layout
use Rattle.suffix.specs.declared.Error.{Error as FileError}
use Rattle.suffix.specs.Suffix as suffix

pub few_layout : (e : LayoutError) → (layout.said_error e).number < 100
few_layout LayoutError.TooManyPages = omega arith
few_layout e = omega arith

pub few_suffix : (e : FileError) → (suffix.said_error e).number < 100
few_suffix FileError.WrongCrc = omega arith
few_suffix e = omega arith
