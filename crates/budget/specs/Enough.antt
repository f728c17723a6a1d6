-- A budget that always suffices, from start's own arguments and the busy replies that a wait may meet.
use Rattle.std.specs.Prelude.{ℕ, ◌+◌, ◌*◌, ◌^◌, List, length, nat_lt, Option, Some, None}
use Rattle.ground.specs.Pick.{pick}
use Rattle.papers.specs.Plan.{commands}
use Rattle.protocol.specs.Interface.{dfuseb}
use Rattle.protocol.specs.declared.DfuProtocol.{DfuProtocol}
use Rattle.start.specs.declared.DfuSansIo.{DfuSansIo}
use Rattle.start.specs.Start.{overb, manyb}

-- three transfers for the opening with its CLRSTATUS, and k + 2 for each download request: it, and k + 1 looks
abbrev pub enough_for : ℕ → ℕ → ℕ
enough_for requests k = 3 + requests * (k + 2)

-- a budget is a 64-bit count
abbrev pub fitted : ℕ → Option ℕ
fitted n = pick (nat_lt n (2 ^ 64)) (Some n) None

-- none where start refuses the lengths: too long (1), too many pages (22), too many blocks (29)
unfoldable pub enough_of : DfuSansIo → DfuProtocol → ℕ → List ℕ → ℕ → Option ℕ
enough_of io p len pages k =
    pick (nat_lt 4294967295 len) None
    (pick (overb (dfuseb p) (length pages)) None
    (pick (manyb (dfuseb p) len io.descriptor.transfer_size) None (fitted (enough_for (commands (dfuseb p) len io.descriptor.transfer_size pages) k))))
