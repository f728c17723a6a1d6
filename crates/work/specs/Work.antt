-- What every work has: document 01, 'One session, step by step', its paragraphs on blocks and on what is awaited after a command.
use Rattle.std.specs.Prelude.{ℕ, ◌+◌, ◌-◌, ◌/◌, ◌^◌, ◌%◌, min, Bool, true, [], ◌∷◌, ◌==◌, Result}
use Rattle.ground.specs.Pick.{pick}
use Rattle.ground.specs.Said.{Said, says}
use Rattle.get_status.specs.Names.{state_byte, status_byte}
use Rattle.get_status.specs.declared.State.{State}
use Rattle.get_status.specs.declared.Error.{Error as ReplyError}
use Rattle.wire.specs.declared.Command.{Command}
use Rattle.work.specs.declared.Wait.{Wait}
use Rattle.work.specs.declared.Error.{Error}
use Rattle.work.specs.declared.Setup.{Setup}
use Rattle.work.specs.declared.Progress.{Progress}
use Rattle.work.specs.declared.Todo.{Todo}
use Rattle.work.specs.declared.Stage.{Stage}

-- positions and lengths lie below it
abbrev pub limit : ℕ
limit = 2 ^ 32

-- where the target ends; how many blocks of at most s bytes n bytes fill
abbrev pub end_of : Setup → ℕ
end_of su = su.address + su.length

unfoldable pub block_count : ℕ → ℕ → ℕ
block_count n s = (n + (s - 1)) / s

-- the block at a place: its number, from 0 (plain) or 2 (DfuSe) on, 65,535 followed by 0; and its bytes
abbrev pub number_at : Setup → ℕ → ℕ
number_at su place = (pick su.dfuse 2 0 + block_count place su.size) % 65536

abbrev pub block_length : Setup → ℕ → ℕ
block_length su place = min su.size (su.length - place)

-- another stage; nothing else moves
abbrev pub staged : Stage → Progress → Progress
staged st pr = record { stage = st; erased = pr.erased; page = pr.page; accepted = pr.accepted }

-- the ledger: n bytes more were accepted; it never passes the firmware's end, whatever the record
abbrev pub entered : Setup → Progress → ℕ → Progress
entered su pr n = record { stage = pr.stage; erased = pr.erased; page = pr.page; accepted = min su.length (pr.accepted + n) }

-- the work: what it wants next, and how a command that was taken, with so many bytes, moves it
pub record Work : Type 0 where
  pub next : Setup → Progress → Result Todo Error
  pub took : Setup → Progress → Command → ℕ → Progress

-- after a command that was taken with k bytes; erase, address or block: wait, 0 ms first; busy 4, target 5; after the empty block busy 7, target 2 if tolerant, else 7
abbrev pub wait_after : Setup → Command → ℕ → Wait
wait_after su (Command.Erase a) k = Wait.Pause State.DfuDnbusy State.DfuDnloadIdle 0
wait_after su (Command.SetAddress a) k = Wait.Pause State.DfuDnbusy State.DfuDnloadIdle 0
wait_after su (Command.Block n f m) k = Wait.Pause State.DfuDnbusy State.DfuDnloadIdle 0
wait_after su (Command.Empty n) k = Wait.Pause State.DfuManifest (pick su.tolerant State.DfuIdle State.DfuManifest) 0

-- the bytes that a command has to be taken with: a block's own
abbrev pub whole_of : Command → ℕ
whole_of (Command.Erase a) = 0
whole_of (Command.SetAddress a) = 0
whole_of (Command.Block n f m) = m
whole_of (Command.Empty n) = 0

-- a block's count is its length; counts told for erase, address and the empty block are ignored
abbrev pub takenb : Command → ℕ → Bool
takenb (Command.Erase a) n = true
takenb (Command.SetAddress a) n = true
takenb (Command.Block b f m) n = n == m
takenb (Command.Empty b) n = true

-- why a reply ends a session
abbrev pub refusal_of : ReplyError → Error
refusal_of (ReplyError.ResponseTooShort got) = Error.ResponseTooShort got
refusal_of (ReplyError.StatusError status) = Error.StatusError status
refusal_of (ReplyError.InvalidState got expected) = Error.InvalidState got expected

-- document 01's number and values for each answer
abbrev pub said_error : Error → Said
said_error (Error.InvalidState got expected) = says 2 (state_byte got ∷ state_byte expected ∷ [])
said_error Error.EraseLimitReached = says 4 []
said_error Error.NoSpaceLeft = says 5 []
said_error (Error.ResponseTooShort got) = says 6 (got ∷ 6 ∷ [])
said_error Error.BudgetSpent = says 23 []
said_error Error.NotAwaited = says 24 []
said_error Error.NotAsAtStart = says 25 []
said_error Error.Failed = says 26 []
said_error (Error.StatusError status) = says 27 (status_byte status ∷ [])
said_error (Error.WrongCount n m) = says 28 (n ∷ m ∷ [])
