-- The bound is reached: a fair run with a clear and two busy replies to each wait spends exactly it, and with one less it is refused by 23. Assumes nothing.
use Rattle.std.proofs.Common.{rules, ℕ, ◌≡◌, refl, ◌∙◌, inl, inr, true, false, List, [], ◌∷◌, length}
use Rattle.ground.specs.Bytes.{little_endian_value, field}
use Rattle.papers.specs.Plan.{leading, blocks_for}
use Rattle.work.specs.Work.{block_count}
use Rattle.download.specs.Download.{covering, erase_next, write_next, next_of, took_of}
use Rattle.machine.specs.Machine.{on_first, on_second, on_poll}
use Rattle.start.specs.Start.{begun_of, begin_of}
use Rattle.plan.specs.Sent.{Begins}
use Rattle.promises.specs.Words.{DfuProtocol, End, Error, download, Phase, Session, Answer, count, reply, waited, mk, told, DfuSansIo, setup_of, fresh}
use Rattle.promises.specs.Run.{opened, after, after_by, transfers, cleared}
use Rattle.promises.specs.Samples.{device_of, shows}
use Rattle.promises.specs.Fair.{Fair, FairBy, requests_of, bound}

-- a tolerant device, one byte, two pages of one byte
abbrev counter : DfuSansIo
counter = device_of true false 8

abbrev pages : List ℕ
pages = 1 ∷ 1 ∷ []

abbrev begun_with : ℕ → Session
begun_with l = mk (setup_of counter (DfuProtocol.Dfuse 0) 1 2) (fresh (setup_of counter (DfuProtocol.Dfuse 0) 1 2)) l Phase.First

-- a request, two busy replies, the target
abbrev slow : ℕ → ℕ → ℕ → List Answer → List Answer
slow n busy target more = count n ∷ waited ∷ shows busy ∷ waited ∷ shows busy ∷ waited ∷ shows target ∷ more

-- the first reply reports a failed write, which is cleared
abbrev answers : List Answer
answers = reply (3 ∷ 0 ∷ 0 ∷ 0 ∷ 10 ∷ 0 ∷ []) ∷ count 0 ∷ shows 2 ∷ slow 5 4 5 (slow 5 4 5 (slow 1 4 5 (slow 0 7 2 [])))

pub reached_begins : Begins counter (DfuProtocol.Dfuse 0) (7 ∷ []) pages 19 (begun_with 18) × Begins counter (DfuProtocol.Dfuse 0) (7 ∷ []) pages 18 (begun_with 17)
unfolding begin_of begun_of block_count
reached_begins = (refl, refl)

pub reached_fair : Fair 2 0 (download pages) (begun_with 18) answers
unfolding FairBy told on_first on_second on_poll erase_next write_next next_of took_of field little_endian_value block_count
reached_fair = search (rules, inl, inr)

-- EXACTLY THE BOUND, with one clear
pub bound_reached : length (transfers (after (download pages) (opened (begun_with 18)) answers).past) ≡ bound 2 1 (requests_of counter (DfuProtocol.Dfuse 0) (7 ∷ []) pages)
unfolding after_by transfers told on_first on_second on_poll erase_next write_next next_of took_of field little_endian_value covering block_count leading blocks_for
bound_reached =
    let spent : length (transfers (after (download pages) (opened (begun_with 18)) answers).past) ≡ 19 = refl in
    let most : 19 ≡ bound 2 1 (requests_of counter (DfuProtocol.Dfuse 0) (7 ∷ []) pages) = refl in
    spent ∙ most

pub reached_clears : cleared (after (download pages) (opened (begun_with 18)) answers).past ≡ 1
unfolding after_by cleared told on_first on_second on_poll erase_next write_next next_of took_of field little_endian_value block_count
reached_clears = refl

pub reached_finishes : (after (download pages) (opened (begun_with 18)) answers).session.phase ≡ Phase.Finished End.Stays
unfolding after_by told on_first on_second on_poll erase_next write_next next_of took_of field little_endian_value block_count
reached_finishes = refl

-- ONE LESS is 23
pub one_less_is_spent : (after (download pages) (opened (begun_with 17)) answers).session.phase ≡ Phase.Refused Error.BudgetSpent
unfolding after_by told on_first on_second on_poll erase_next write_next next_of took_of field little_endian_value block_count
one_less_is_spent = refl
