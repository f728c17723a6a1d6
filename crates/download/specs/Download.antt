-- The download as work: document 01, 'One session, step by step'.
use Rattle.std.specs.Prelude.{ℕ, zero, suc, ◌+◌, ◌-◌, List, [], ◌∷◌, length, nat_lt, slice_index, Result, Ok, Err}
use Rattle.ground.specs.Pick.{pick}
use Rattle.wire.specs.declared.Command.{Command}
use Rattle.work.specs.declared.End.{End}
use Rattle.work.specs.declared.Setup.{Setup}
use Rattle.work.specs.declared.Progress.{Progress}
use Rattle.work.specs.declared.Todo.{Todo}
use Rattle.work.specs.Work.{Work, limit, end_of, number_at, block_length, staged, entered}
use Rattle.work.specs.declared.Stage.{Stage}
use Rattle.work.specs.declared.Error.{Error}

-- none for a target of 0 bytes, otherwise the first page and then the pages covering what is left
unfoldable pub covering : ℕ → List ℕ → List ℕ
covering n [] = []
covering zero (p ∷ ps) = []
covering (suc n) (p ∷ ps) = p ∷ covering (suc n - p) ps

-- how the progress moves: a page of p bytes passed, another stage
abbrev pub passed : Progress → ℕ → Progress
passed pr p = record { stage = Stage.Erasing; erased = pr.erased + p; page = pr.page + 1; accepted = pr.accepted }

-- while the erased position is below the target's end: no page left is 5, position plus page at 2^32 or more is 4, else erase; then set the address
unfoldable pub erase_next : List ℕ → Setup → Progress → Result Todo Error
erase_next ps su pr =
    pick (nat_lt pr.erased (end_of su))
    (pick (nat_lt pr.page (length ps))
    (pick (nat_lt (pr.erased + slice_index ps pr.page) limit)
    (Ok (Todo.Send (Command.Erase pr.erased) (passed pr (slice_index ps pr.page))))
    (Err Error.EraseLimitReached))
    (Err Error.NoSpaceLeft))
    (Ok (Todo.Send (Command.SetAddress su.address) (staged Stage.Writing pr)))

-- the next unaccepted bytes; the ledger waits for their count; with nothing left, one empty block
unfoldable pub write_next : Setup → Progress → Todo
write_next su pr =
    pick (nat_lt pr.accepted su.length)
    (Todo.Send (Command.Block (number_at su pr.accepted) pr.accepted (block_length su pr.accepted)) (staged Stage.Writing pr))
    (Todo.Send (Command.Empty (number_at su pr.accepted)) (staged Stage.Ending pr))

-- neither tolerant nor will detach: a USB reset; else the device stays
abbrev pub end_for : Setup → End
end_for su = pick su.tolerant End.Stays (pick su.detach End.Stays End.Reset)

abbrev pub next_at : Stage → List ℕ → Setup → Progress → Result Todo Error
next_at Stage.Erasing ps su pr = erase_next ps su pr
next_at Stage.Writing ps su pr = Ok (write_next su pr)
next_at Stage.Ending ps su pr = Ok (Todo.End (end_for su))

unfoldable pub next_of : List ℕ → Setup → Progress → Result Todo Error
next_of ps su pr = next_at pr.stage ps su pr

-- only a block that was taken moves anything: its bytes are entered
unfoldable pub took_of : Setup → Progress → Command → Progress
took_of su pr (Command.Erase a) = pr
took_of su pr (Command.SetAddress a) = pr
took_of su pr (Command.Block b f m) = entered su pr m
took_of su pr (Command.Empty b) = pr

abbrev pub download : List ℕ → Work
download ps = record { next = next_of ps; took = λ su pr c n. took_of su pr c }
