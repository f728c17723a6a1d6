-- Document 01's starred cases hold, and so do the published strings: one table, one proof. Assumes nothing.
use Rattle.std.proofs.Common.{◌≡◌, refl, map}
use Rattle.ground.specs.Bytes.{little_endian_value, field, prefix, bytes_low}
use Rattle.papers.specs.Plan.{sum}
use Rattle.numeral.specs.Number.{read_on, number_of}
use Rattle.memory_layout.specs.Layout.{up_to, end_of, split, scaled, starred, piece_of, pieces, checked, sizes}
use Rattle.protocol.specs.Interface.{rsplit, address_of, dfuse_of, interface_of}
use Rattle.work.specs.Work.{block_count}
use Rattle.download.specs.Download.{erase_next, write_next, next_of, took_of}
use Rattle.machine.specs.Machine.{on_first, on_second, on_poll}
use Rattle.start.specs.Start.{begun_of, begin_of}
use Rattle.promises.specs.Words.{told}
use Rattle.promises.specs.Run.{after_by, in_time}
use Rattle.promises.specs.Starred.{done_in, cases, run, wanted}

pub starred_cases : map run cases ≡ map wanted cases
unfolding prefix read_on number_of up_to end_of split scaled starred piece_of pieces checked sizes rsplit address_of dfuse_of interface_of sum on_first on_second on_poll told block_count erase_next write_next next_of took_of begun_of begin_of after_by in_time done_in bytes_low field little_endian_value
starred_cases = refl
