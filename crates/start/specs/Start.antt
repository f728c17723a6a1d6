-- How a session starts: document 01, 'One session, step by step', its paragraph on start.
use Rattle.std.specs.Prelude.{ℕ, zero, suc, Bool, true, false, [], ◌==◌, nat_lt, nat_le, Option, Some, None, unwrap_or, Result, Ok, Err}
use Rattle.ground.specs.Pick.{pick}
use Rattle.ground.specs.Said.{Said, says, said_result}
use Rattle.functional_descriptor.specs.declared.FunctionalDescriptor.{FunctionalDescriptor}
use Rattle.memory_layout.specs.Layout.{max_pages}
use Rattle.protocol.specs.declared.DfuProtocol.{DfuProtocol}
use Rattle.protocol.specs.Interface.{dfuseb}
use Rattle.work.specs.declared.Setup.{Setup}
use Rattle.work.specs.declared.Progress.{Progress}
use Rattle.work.specs.Work.{limit, end_of, block_count}
use Rattle.work.specs.declared.Stage.{Stage}
use Rattle.work.specs.declared.End.{End}
use Rattle.machine.specs.declared.Phase.{Phase}
use Rattle.session.specs.Told.{mk}
use Rattle.session.specs.declared.Session.{Session}
use Rattle.start.specs.declared.DfuSansIo.{DfuSansIo}
use Rattle.start.specs.declared.StartError.{StartError}

abbrev pub new_io : FunctionalDescriptor → DfuSansIo
new_io d = record { descriptor = d; override_address = None }

abbrev pub with_address : DfuSansIo → ℕ → DfuSansIo
with_address io a = record { descriptor = io.descriptor; override_address = Some a }

-- DfuSe's address is the override if there is one; plain DFU ignores both
abbrev pub target_of : DfuProtocol → Option ℕ → ℕ
target_of DfuProtocol.Dfu o = 0
target_of (DfuProtocol.Dfuse a) o = unwrap_or o a

abbrev pub setup_of : DfuSansIo → DfuProtocol → ℕ → ℕ → Setup
setup_of io p length pages = record {
  dfuse = dfuseb p;
  address = target_of p io.override_address;
  length = length;
  pages = pages;
  size = io.descriptor.transfer_size;
  tolerant = io.descriptor.manifestation_tolerant;
  detach = io.descriptor.will_detach;
}

-- pages are erased from the address on, and nothing is accepted yet
abbrev pub fresh : Setup → Progress
fresh su = record {
  stage = pick su.dfuse Stage.Erasing Stage.Writing;
  erased = pick su.dfuse su.address 0;
  page = 0;
  accepted = 0;
}

-- firmware empty or transfer size 0; DfuSe's address plus length at 2^32 or more; over the limit of pages, which plain DFU doesn't count
abbrev pub nothingb : Setup → Bool
nothingb su = pick (su.length == 0) true (su.size == 0)

abbrev pub beyondb : Setup → Bool
beyondb su = pick su.dfuse (nat_le limit (end_of su)) false

abbrev pub overb : Bool → ℕ → Bool
overb dfuse pages = pick dfuse (nat_lt max_pages pages) false

-- DfuSe's numbers reach so many blocks, from 2 on, and the empty one; plain DFU's begin again
abbrev pub max_blocks : ℕ
max_blocks = 65533

abbrev pub manyb : Bool → ℕ → ℕ → Bool
manyb dfuse length size = pick dfuse (nat_lt max_blocks (block_count length size)) false

-- budget 0 is refused; the first GETSTATUS spends 1
abbrev pub starting : Setup → ℕ → Result Session StartError
starting su zero = Err StartError.BudgetSpent
starting su (suc l) = Ok (mk su (fresh su) l Phase.First)

unfoldable pub begun_of : Setup → ℕ → Result Session StartError
begun_of su budget =
    pick (nothingb su) (Ok (mk su (fresh su) budget (Phase.Finished End.Stays)))
    (pick (beyondb su) (Err StartError.NoSpaceLeft)
    (pick (manyb su.dfuse su.length su.size) (Err StartError.TooManyBlocks) (starting su budget)))

-- in this order: too long, too many pages, finished at once, no space, too many blocks, budget
unfoldable pub begin_of : DfuSansIo → DfuProtocol → ℕ → ℕ → ℕ → Result Session StartError
begin_of io p length pages budget =
    pick (nat_lt 4294967295 length) (Err StartError.OutOfCapabilities)
    (pick (overb (dfuseb p) pages) (Err StartError.TooManyPages) (begun_of (setup_of io p length pages) budget))

-- document 01's number and values for each answer
abbrev pub said_start : StartError → Said
said_start StartError.OutOfCapabilities = says 1 []
said_start StartError.TooManyPages = says 22 []
said_start StartError.NoSpaceLeft = says 5 []
said_start StartError.TooManyBlocks = says 29 []
said_start StartError.BudgetSpent = says 23 []

-- a session says nothing yet
abbrev pub said_started : Result Session StartError → Said
said_started r = said_result (λ s. says 0 []) said_start r
