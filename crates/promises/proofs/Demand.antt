-- Demand 3 over the calls themselves: at each one firmware, pages and command bytes are lent, and some may be refused by 24 or 25. Assumes nothing.
use Rattle.std.proofs.Common.{ℕ, ◌+◌, ◌<◌, ◌≤◌, ◌≡◌, ap, sym, subst, ◌∙◌, List, ◌++◌, map, length}
use Rattle.papers.specs.Plan.{Dnload}
use Rattle.plan.specs.Sent.{on_wire, plan_of, Begins}
use Rattle.promises.specs.Words.{DfuProtocol, download, Session, DfuSansIo}
use Rattle.promises.specs.Run.{World, opened, after, transfers, commanded, cleared, Over}
use Rattle.promises.specs.Calls.{Call, calls, passed, AllPass}
use Rattle.promises.specs.Whole.{Listed}
use Rattle.promises.specs.Fair.{heeded, Fair, Ready, requests_of, bound}
use Rattle.promises.specs.Finish.{Finishes}
use Rattle.promises.specs.Believed.{AllSound, AllWhole}
use Rattle.promises.proofs.Started.{start_adds}
use Rattle.promises.proofs.Calls.{spend}
use Rattle.promises.proofs.Real.{passed_run}
use Rattle.promises.proofs.Finishes.{finished_sends_the_plan, every_run_leads_the_plan}
use Rattle.promises.proofs.Whole.{finished_lists}
use Rattle.promises.proofs.Finish.{finishes}
use Rattle.promises.proofs.Believed.{unrefused_sound, unrefused_whole, over_unrefused}

module _ (io : DfuSansIo) (p : DfuProtocol) (fw ps : List ℕ) (budget : ℕ) (s : Session) (more : List Call) where
  -- THE SPEND, whatever is lent and told
  pub the_spend : Begins io p fw ps budget s → (calls (opened s) more).session.left + length (transfers (calls (opened s) more).past) ≡ budget
  the_spend b = spend (opened s) more budget (start_adds io p fw ps budget s b)

  module _ (b : Begins io p fw ps budget s) (v : AllPass ps s.setup more) where
    abbrev same : calls (opened s) more ≡ after (download ps) (opened s) (passed s.setup more)
    same = passed_run ps (opened s) more v

    -- WHAT FINISHING MEANS: exactly the plan was sent
    pub finishing_means_the_plan : 0 < length fw → 0 < io.descriptor.transfer_size
        → Over (calls (opened s) more).session.phase → map (on_wire fw) (commanded (calls (opened s) more).past) ≡ plan_of io p fw ps
    finishing_means_the_plan h k o =
        ap (λ (x : World). map (on_wire fw) (commanded x.past)) same
        ∙ finished_sends_the_plan io p fw ps budget s (passed s.setup more) h k b (subst (λ (x : World). Over x.session.phase) same o)

    -- and at every time a leading part of it
    pub so_far_the_plan : 0 < length fw → 0 < io.descriptor.transfer_size
        → (rest : List Dnload) × (map (on_wire fw) (commanded (calls (opened s) more).past) ++ rest ≡ plan_of io p fw ps)
    so_far_the_plan h k =
        subst (λ (x : World). (rest : List Dnload) × (map (on_wire fw) (commanded x.past) ++ rest ≡ plan_of io p fw ps)) (sym same)
        (every_run_leads_the_plan io p fw ps budget s (passed s.setup more) h k b)

    -- THE WHOLE LIST
    pub finishing_means_the_list : 0 < length fw → 0 < io.descriptor.transfer_size
        → Over (calls (opened s) more).session.phase → Listed io p fw ps (calls (opened s) more).past
    finishing_means_the_list h k o =
        subst (λ (x : World). Listed io p fw ps x.past) (sym same)
        (finished_lists io p fw ps budget s (passed s.setup more) h k b (subst (λ (x : World). Over x.session.phase) same o))

    -- NO ERROR WAS TOLD: every reply but the first had 6 bytes or more and status 0
    pub finishing_means_no_error : Over (calls (opened s) more).session.phase → AllSound (download ps) s (passed s.setup more)
    finishing_means_no_error o =
        let x : World = after (download ps) (opened s) (passed s.setup more) in
        unrefused_sound (download ps) (opened s) (passed s.setup more)
        (over_unrefused x.session.phase (subst (λ (x : World). Over x.session.phase) same o))

    -- EVERY BLOCK WAS ACCEPTED WHOLE: each count that was told for a block is its length
    pub finishing_means_whole_blocks : Over (calls (opened s) more).session.phase → AllWhole (download ps) s (passed s.setup more)
    finishing_means_whole_blocks o =
        let x : World = after (download ps) (opened s) (passed s.setup more) in
        unrefused_whole (download ps) (opened s) (passed s.setup more)
        (over_unrefused x.session.phase (subst (λ (x : World). Over x.session.phase) same o))

    -- IT FINISHES, and where it has come to is where the calls have
    pub it_finishes : (k : ℕ) → Ready io p fw ps → Fair k 0 (download ps) s (heeded (download ps) s (passed s.setup more))
        → bound k (cleared (calls (opened s) more).past) (requests_of io p fw ps) ≤ budget
        → Finishes k io p fw ps s (passed s.setup more) × (calls (opened s) more ≡ after (download ps) (opened s) (passed s.setup more))
    it_finishes k r f m =
        (finishes io p fw ps k budget s (passed s.setup more) r b f (subst (λ (x : World). bound k (cleared x.past) (requests_of io p fw ps) ≤ budget) same m), same)
