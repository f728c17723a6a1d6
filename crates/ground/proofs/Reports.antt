-- A report loses nothing of what is said: the values that count are those. Assumes nothing.
use Prim.Native.Nat.{◌-◌}
use mathlib.Core.Path.{◌≡◌}
use lib.ListN.{length, take, replicate}
use lib.Seq.{take-append_seam}
use Rattle.ground.specs.Said.{Said, report_of}

pub report_keeps : (s : Said) → take (report_of s).count (report_of s).values ≡ s.values
report_keeps s = take-append_seam s.values (replicate (8 - length s.values) 0)
