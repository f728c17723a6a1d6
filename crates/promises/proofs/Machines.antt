-- Our machine has the promises, and each machine that is shut out lacks one. Assumes nothing.
use Rattle.std.proofs.Common.{rules, ℕ, zero, suc, ◌*◌, ◌≤◌, ◌+◌, arith, ◌≡◌, refl, ap, sym, ◌∙◌, Bool, true, false, true≢false, List, [], ◌∷◌, ◌++◌, map, eqb, length, get_or, length-append}
use lib.ListN.{length-map}
use Rattle.ground.specs.Bytes.{little_endian_value, field, bytes_low}
use Rattle.ground.specs.Said.{Said}
use Rattle.papers.specs.Plan.{Dnload, erasing, several, block_of, plan, leading, blocks_for}
use Rattle.work.specs.Work.{block_count}
use Rattle.download.specs.Download.{covering, erase_next, write_next, next_of, took_of}
use Rattle.machine.specs.Machine.{on_first, on_second, on_poll}
use Rattle.start.specs.Start.{begun_of, begin_of}
use Rattle.plan.specs.Sent.{on_wire, plan_of}
use Rattle.promises.specs.Words.{pick, DfuProtocol, Request, End, download, Phase, Session, Answer, count, waited, mk, told, DfuSansIo, setup_of, fresh}
use Rattle.promises.specs.Run.{Event, sends, hears, opened, after_by, in_time, transfers, commanded, cleared}
use Rattle.promises.specs.Whole.{opening, busy_after, target_after, looks, Round, round_of, rounds, request_of, closing, Listed}
use Rattle.promises.specs.Fair.{heeded_by, FairBy, Ready}
use Rattle.promises.specs.Samples.{device_of, shows}
use Rattle.promises.specs.Machines.{ours, SendsThePlan, LeadsThePlan, ListsAll, Starts, Finishing, Sufficing, Spends, WholeBlocks, refusing, fixed, idle, hasty, blind, credulous, inventive, numbered_from_three, one_page_more, address_twice, RequestsAll, RefusesExactly, restless, unreset}
use Rattle.promises.specs.Believed.{AllAtBy}
use Rattle.promises.proofs.Believed.{unrefused_whole, over_unrefused}
use Rattle.promises.proofs.Started.{start_adds}
use Rattle.promises.proofs.Finishes.{finished_sends_the_plan, every_run_leads_the_plan}
use Rattle.promises.proofs.Whole.{finished_lists}
use Rattle.promises.proofs.Spends.{run_adds}
use Rattle.promises.proofs.Clears.{clears_once}
use Rattle.promises.proofs.Finish.{starts, finishes}

-- OURS HAS THEM
pub ours_sends : SendsThePlan ours
ours_sends io p fw ps budget s more h k b o = finished_sends_the_plan io p fw ps budget s more h k b o

pub ours_leads : LeadsThePlan ours
ours_leads io p fw ps budget s more h k b = every_run_leads_the_plan io p fw ps budget s more h k b

pub ours_lists : ListsAll ours
ours_lists io p fw ps budget s more h k b o = finished_lists io p fw ps budget s more h k b o

pub ours_starts : Starts ours
ours_starts io p fw ps zero r h = absurd (omega arith)
ours_starts io p fw ps (suc l) r h =
    (mk (setup_of io p (length fw) (length ps)) (fresh (setup_of io p (length fw) (length ps))) l Phase.First, starts io p fw ps r l)

pub ours_finishes : Finishing ours
ours_finishes io p fw ps k budget s more r b f m = finishes io p fw ps k budget s more r b f m

pub ours_suffices : Sufficing ours
ours_suffices io p fw ps k budget s more r b f m =
    finishes io p fw ps k budget s more r b f (omega (arith, clears_once io p fw ps budget s more b, m))

pub ours_spends : Spends ours
ours_spends io p fw ps budget s more b = run_adds (download ps) (opened s) more budget (start_adds io p fw ps budget s b)

pub ours_whole : WholeBlocks ours
ours_whole io p fw ps budget s more b o = unrefused_whole (download ps) (opened s) more (over_unrefused (after_by (ours.told ps) (opened s) more).session.phase o)

pub ours_requests : RequestsAll ours
ours_requests io p fw ps budget s more b = refl

pub ours_exact : RefusesExactly ours
ours_exact io p n pages budget = refl

-- two small updates: one byte, plain, and one byte to two pages of one byte
abbrev sample : DfuSansIo
sample = device_of true false 8

ready : Ready sample DfuProtocol.Dfu (7 ∷ []) []
ready = record { some = omega arith; short = omega arith; sized = omega arith; few = λ e. absurd (true≢false (sym e)); numbered = λ e. absurd (true≢false (sym e)); covered = λ e. absurd (true≢false (sym e)); below = λ e. absurd (true≢false (sym e)) }

abbrev begun_plain : Session
begun_plain = mk (setup_of sample DfuProtocol.Dfu 1 0) (fresh (setup_of sample DfuProtocol.Dfu 1 0)) 99 Phase.First

abbrev begun_dfuse : Session
begun_dfuse = mk (setup_of sample (DfuProtocol.Dfuse 0) 1 2) (fresh (setup_of sample (DfuProtocol.Dfuse 0) 1 2)) 99 Phase.First

-- a request that is taken whole, waited for and answered
abbrev round : ℕ → ℕ → List Answer → List Answer
round n b more = count n ∷ waited ∷ shows b ∷ more

not_over : {e : End} → Phase.First ≡ Phase.Finished e → ⊥
not_over e = cc

-- ALWAYS REFUSING doesn't start
pub refusing_shut_out : Starts refusing → ⊥
refusing_shut_out f = let (s, e) = f sample DfuProtocol.Dfu (7 ∷ []) [] 100 ready (omega arith) in cc

-- nor does it refuse exactly: a good start is no refusal
pub refusing_inexact : RefusesExactly refusing → ⊥
unfolding begin_of begun_of block_count
refusing_inexact f =
    let e : ◌≡◌ {A = ℕ} 5 0 = ap (λ (x : Said). x.number) (f sample DfuProtocol.Dfu 1 0 100) in
    omega (arith, e)

-- ten replies, to which neither of these two moves
abbrev ten : List Answer
ten = shows 2 ∷ shows 2 ∷ shows 2 ∷ shows 2 ∷ shows 2 ∷ shows 2 ∷ shows 2 ∷ shows 2 ∷ shows 2 ∷ shows 2 ∷ []

-- ONE FIXED ANSWER doesn't finish
pub fixed_shut_out : Finishing fixed → ⊥
unfolding begin_of begun_of after_by heeded_by FairBy cleared block_count blocks_for
fixed_shut_out f =
    let fair : FairBy 0 0 (fixed.told []) begun_plain ten = search rules in
    not_over ((f sample DfuProtocol.Dfu (7 ∷ []) [] 0 100 begun_plain ten ready refl fair (omega arith)).done (omega arith))

-- DOING NOTHING doesn't finish either
pub idle_shut_out : Finishing idle → ⊥
unfolding begin_of begun_of after_by heeded_by FairBy cleared block_count blocks_for
idle_shut_out f =
    let fair : FairBy 0 0 (idle.told []) begun_plain ten = search rules in
    not_over ((f sample DfuProtocol.Dfu (7 ∷ []) [] 0 100 begun_plain ten ready refl fair (omega arith)).done (omega arith))

-- and by the request list: one asks where ours says 24, the other says nothing where ours asks
pub fixed_requests_shut_out : RequestsAll fixed → ⊥
unfolding begin_of begun_of after_by transfers told
fixed_requests_shut_out f =
    let n : ◌≡◌ {A = ℕ} 2 1 = ap (λ (x : List Request). length x) (f sample DfuProtocol.Dfu (7 ∷ []) [] 100 begun_plain (waited ∷ []) refl) in
    omega (arith, n)

pub idle_requests_shut_out : RequestsAll idle → ⊥
unfolding begin_of begun_of after_by transfers told on_first field little_endian_value
idle_requests_shut_out f =
    let n : ◌≡◌ {A = ℕ} 1 2 = ap (λ (x : List Request). length x) (f sample DfuProtocol.Dfu (7 ∷ []) [] 100 begun_plain (shows 2 ∷ []) refl) in
    omega (arith, n)

-- FINISHING AT THE FIRST CALL has not sent the plan
pub hasty_shut_out : SendsThePlan hasty → ⊥
unfolding begin_of begun_of after_by commanded plan leading blocks_for several block_count
hasty_shut_out f =
    let e : [] ≡ plan_of sample DfuProtocol.Dfu (7 ∷ []) [] = f sample DfuProtocol.Dfu (7 ∷ []) [] 100 begun_plain (waited ∷ []) (omega arith) (omega arith) refl tt in
    let n : ◌≡◌ {A = ℕ} 0 2 = ap (λ (x : List Dnload). length x) e in
    omega (arith, n)

-- AN INVENTED SPEND isn't the length of the list
pub inventive_shut_out : Spends inventive → ⊥
unfolding begin_of begun_of after_by transfers told
inventive_shut_out f =
    let e : ◌≡◌ {A = ℕ} 1 100 = f sample DfuProtocol.Dfu (7 ∷ []) [] 100 begun_plain (waited ∷ []) refl in
    omega (arith, e)

-- each round is four things at least, and the opening four
rounds_long : (t : Bool) (rs : List Round) → 4 * length rs ≤ length (rounds t rs)
unfolding rounds
rounds_long t [] = omega arith
rounds_long t (r ∷ rs) =
    omega (
      arith,
      rounds_long t rs,
      length-append (round_of t r) (rounds t rs),
      length-append (looks (busy_after r.command) r.busy) (sends Request.GetStatus ∷ hears (target_after t r.command) r.last ∷ []),
    )

opening_long : (st ms last : ℕ) → 4 ≤ length (opening st ms last)
opening_long st ms last = by (eqb st 10)
  where
    by : (b : Bool) → 4 ≤ length (sends Request.GetStatus ∷ hears st ms ∷ (pick b (sends Request.ClearStatus ∷ []) [] ++ (sends Request.GetStatus ∷ hears 2 last ∷ [])))
    by true = omega arith
    by false = omega arith

-- so the list of one byte's update, which is two requests, is twelve things and the reset
list_long : (io : DfuSansIo) (past : List Event) → length (plan_of io DfuProtocol.Dfu (7 ∷ []) []) ≡ 2 → Listed io DfuProtocol.Dfu (7 ∷ []) [] past
    → 12 + length (closing io.descriptor.manifestation_tolerant io.descriptor.will_detach) ≤ length (in_time past)
list_long io past two v =
    let tolerant : Bool = io.descriptor.manifestation_tolerant in
    let shut : List Event = closing tolerant io.descriptor.will_detach in
    let n : length v.all ≡ 2 =
    sym (length-map v.all request_of) ∙ sym (length-map (map request_of v.all) (on_wire (7 ∷ []))) ∙ ap (λ (x : List Dnload). length x) v.requests ∙ two in
    omega (
      arith,
      n,
      ap (λ (x : List Event). length x) v.events,
      opening_long v.shown v.first v.second,
      rounds_long tolerant v.all,
      length-append (opening v.shown v.first v.second) (rounds tolerant v.all ++ shut),
      length-append (rounds tolerant v.all) shut,
    )

-- BLOCKS WITHOUT ASKING FOR STATUS aren't the whole list: six things happen
pub blind_shut_out : ListsAll blind → ⊥
unfolding begin_of begun_of after_by told on_first on_second next_of write_next took_of field little_endian_value in_time plan leading blocks_for several block_count
blind_shut_out f =
    let v : Listed sample DfuProtocol.Dfu (7 ∷ []) [] _ =
    f sample DfuProtocol.Dfu (7 ∷ []) [] 100 begun_plain (shows 2 ∷ shows 2 ∷ count 1 ∷ count 0 ∷ []) (omega arith) (omega arith) refl tt in
    let n : 12 ≤ 6 = list_long sample _ refl v in
    omega (arith, n)

-- NEVER WAITING isn't either: ten things happen
pub restless_shut_out : ListsAll restless → ⊥
unfolding begin_of begun_of after_by told on_first on_second on_poll next_of write_next took_of field little_endian_value in_time plan leading blocks_for several block_count
restless_shut_out f =
    let v : Listed sample DfuProtocol.Dfu (7 ∷ []) [] _ =
    f sample DfuProtocol.Dfu (7 ∷ []) [] 100 begun_plain (shows 2 ∷ shows 2 ∷ count 1 ∷ shows 5 ∷ count 0 ∷ shows 2 ∷ []) (omega arith) (omega arith) refl tt in
    let n : 12 ≤ 10 = list_long sample _ refl v in
    omega (arith, n)

-- NEVER RESETTING isn't: a device that neither stays nor detaches wants the reset after the twelve
abbrev leaving : DfuSansIo
leaving = device_of false false 8

abbrev begun_leaving : Session
begun_leaving = mk (setup_of leaving DfuProtocol.Dfu 1 0) (fresh (setup_of leaving DfuProtocol.Dfu 1 0)) 99 Phase.First

pub unreset_shut_out : ListsAll unreset → ⊥
unfolding begin_of begun_of after_by told on_first on_second on_poll next_of write_next took_of field little_endian_value in_time plan leading blocks_for several block_count
unreset_shut_out f =
    let v : Listed leaving DfuProtocol.Dfu (7 ∷ []) [] _ =
    f leaving DfuProtocol.Dfu (7 ∷ []) [] 100 begun_leaving (shows 2 ∷ shows 2 ∷ round 1 5 (round 0 7 [])) (omega arith) (omega arith) refl tt in
    let n : 13 ≤ 12 = list_long leaving _ refl v in
    omega (arith, n)

-- ANY COUNT TAKEN FOR A WHOLE BLOCK: it finishes though the one block was told 0 of its 1 byte
pub credulous_shut_out : WholeBlocks credulous → ⊥
unfolding begin_of begun_of after_by AllAtBy told on_first on_second on_poll next_of write_next took_of field little_endian_value block_count
credulous_shut_out f =
    let v = f sample DfuProtocol.Dfu (7 ∷ []) [] 100 begun_plain (shows 2 ∷ shows 2 ∷ round 0 5 (round 0 2 [])) refl tt in
    let n : ◌≡◌ {A = ℕ} 0 1 = v.1.1.0 in
    omega (arith, n)

-- the answers to an erase, the address, the block and the empty one, with more of the first kind before
abbrev dfuse_answers : List Answer → List Answer
dfuse_answers more = shows 2 ∷ shows 2 ∷ round 5 5 more

abbrev last_answers : List Answer
last_answers = round 5 5 (round 1 5 (round 0 2 []))

numbers_of : List Dnload → List ℕ
numbers_of l = map (λ (x : Dnload). x.setup.w_value) l

-- THE FIRST NUMBER 3 isn't the plan's
pub numbered_from_three_shut_out : SendsThePlan numbered_from_three → ⊥
unfolding begin_of begun_of after_by commanded told on_first on_second on_poll erase_next write_next next_of took_of field little_endian_value bytes_low covering plan leading blocks_for erasing several block_of block_count numbers_of
numbered_from_three_shut_out f =
    let e =
    f sample (DfuProtocol.Dfuse 0) (7 ∷ []) (1 ∷ 1 ∷ []) 100 _ (dfuse_answers last_answers) (omega arith) (omega arith) refl tt in
    let n : ◌≡◌ {A = ℕ} 3 2 = ap (λ (x : List Dnload). get_or (numbers_of x) 2 0) e in
    omega (arith, n)

-- ONE PAGE MORE isn't the plan
pub one_page_more_shut_out : SendsThePlan one_page_more → ⊥
unfolding begin_of begun_of after_by commanded told on_first on_second on_poll erase_next write_next next_of took_of field little_endian_value bytes_low covering plan leading blocks_for erasing several block_of block_count
one_page_more_shut_out f =
    let e =
    f sample (DfuProtocol.Dfuse 0) (7 ∷ []) (1 ∷ 1 ∷ []) 100 begun_dfuse (dfuse_answers (round 5 5 last_answers)) (omega arith) (omega arith) refl tt in
    let n : ◌≡◌ {A = ℕ} 5 4 = ap (λ (x : List Dnload). length x) e in
    omega (arith, n)

-- THE ADDRESS SET TWICE isn't either
pub address_twice_shut_out : SendsThePlan address_twice → ⊥
unfolding begin_of begun_of after_by commanded told on_first on_second on_poll erase_next write_next next_of took_of field little_endian_value bytes_low covering plan leading blocks_for erasing several block_of block_count
address_twice_shut_out f =
    let e =
    f sample (DfuProtocol.Dfuse 0) (7 ∷ []) (1 ∷ 1 ∷ []) 100 begun_dfuse (dfuse_answers (round 5 5 last_answers)) (omega arith) (omega arith) refl tt in
    let n : ◌≡◌ {A = ℕ} 5 4 = ap (λ (x : List Dnload). length x) e in
    omega (arith, n)
