-- Every refusal has its number and its values: one table, one proof. Assumes nothing.
use Rattle.std.proofs.Common.{◌≡◌, refl, map}
use Rattle.ground.specs.Bytes.{little_endian_value, field, prefix}
use Rattle.papers.specs.Crc.{shifted, eight, crc}
use Rattle.numeral.specs.Number.{read_on, number_of}
use Rattle.memory_layout.specs.Layout.{up_to, end_of, split, scaled, starred, piece_of, pieces, checked}
use Rattle.protocol.specs.Interface.{rsplit, address_of, dfuse_of, interface_of}
use Rattle.work.specs.Work.{block_count}
use Rattle.download.specs.Download.{erase_next, write_next, next_of, took_of}
use Rattle.machine.specs.Machine.{on_first, on_second, on_poll}
use Rattle.session.specs.Calls.{as_at_start, guard_of, called, call_of}
use Rattle.start.specs.Start.{begun_of, begin_of}
use Rattle.suffix.specs.Suffix.{suffix_of}
use Rattle.promises.specs.Words.{told}
use Rattle.promises.specs.Refusals.{last_said, rows, found_in, wanted_in}

pub every_refusal : map found_in rows ≡ map wanted_in rows
unfolding prefix read_on number_of up_to end_of split scaled starred piece_of pieces checked rsplit address_of dfuse_of interface_of on_first on_second on_poll told block_count erase_next write_next next_of took_of begun_of begin_of as_at_start guard_of called call_of suffix_of shifted eight crc last_said field little_endian_value
every_refusal = refl
