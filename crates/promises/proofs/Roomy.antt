-- The download has room where pages cover the target and positions stay below 2^32, and with room it isn't refused. Assumes nothing.
use Rattle.std.proofs.Common.{Ok, ℕ, suc, ◌+◌, ◌-◌, ◌<◌, ◌≤◌, add-one, le_refl, arith, ◌≡◌, refl, ap, ◌∙◌, Bool, true, false, List, length, drop, get_or, drop_of_length-le, drop-cons, ltb, ltb-true, ltb-false}
use Rattle.papers.specs.Plan.{sum}
use Rattle.work.specs.Work.{limit, end_of}
use Rattle.download.specs.Download.{covering, passed, next_at, next_of, took_of}
use Rattle.protocol.specs.Interface.{dfuseb}
use Rattle.start.specs.Start.{target_of}
use Rattle.plan.proofs.Pages.{covering_more, sum_covering}
use Rattle.promises.specs.Words.{pick, DfuProtocol, Setup, Progress, Stage, Todo, download, DfuSansIo, setup_of, fresh}
use Rattle.promises.specs.Fair.{Ready}
use Rattle.promises.proofs.Wishes.{erase_picked, write_picked}
use Rattle.promises.proofs.Wanted.{left, heads}
use Rattle.promises.proofs.Lives.{Wants, Thrives}

abbrev pub EraseRoom : List ℕ → Setup → Progress → Type 0
EraseRoom ps su pr =
    (end_of su - pr.erased ≤ sum (drop pr.page ps))
    × (pr.erased + sum (covering (end_of su - pr.erased) (drop pr.page ps)) < limit)

abbrev pub room_at : Stage → List ℕ → Setup → Progress → Type 0
room_at Stage.Erasing ps su pr = EraseRoom ps su pr
room_at Stage.Writing ps su pr = Unit
room_at Stage.Ending ps su pr = Unit

abbrev pub room : List ℕ → Setup → Progress → Type 0
room ps su pr = room_at pr.stage ps su pr

page_left : (ps : List ℕ) (i : ℕ) → 0 < sum (drop i ps) → i < length ps
unfolding sum
page_left ps i h = by (ltb i (length ps)) refl
  where
    by : (b : Bool) → ltb i (length ps) ≡ b → i < length ps
    by true e = ltb-true _ _ e
    by false e = absurd (omega (arith, ap sum (drop_of_length-le ps {i = i} (ltb-false i (length ps) e))))

sum_left : (ps : List ℕ) (i : ℕ) → i < length ps → sum (drop i ps) ≡ get_or ps i 0 + sum (drop (i + 1) ps)
unfolding sum
sum_left ps i h = rw add-one (ap sum (drop-cons ps i 0 h))

cover_left : (ps : List ℕ) (i n : ℕ) → i < length ps → 0 < n
    → sum (covering n (drop i ps)) ≡ get_or ps i 0 + sum (covering (n - get_or ps i 0) (drop (i + 1) ps))
unfolding sum
cover_left ps i n h k =
    rw add-one
    (ap (λ (x : List ℕ). sum (covering n x)) (drop-cons ps i 0 h) ∙ ap sum (covering_more n (get_or ps i 0) (drop (suc i) ps) k))

wants_at : (st : Stage) (ps : List ℕ) (su : Setup) (pr : Progress) → room_at st ps su pr → Wants (download ps) (room ps su) su (next_at st ps su pr)
unfolding took_of
wants_at Stage.Erasing ps su pr v = erase_picked (Wants (download ps) (room ps su) su) ps su pr on below covered (λ e. tt)
  where
    covered : pr.erased < end_of su → length ps ≤ pr.page → ⊥
    covered e f = omega (arith, page_left ps pr.page (omega (arith, v.0)))

    below : pr.erased < end_of su → pr.page < length ps → limit ≤ pr.erased + get_or ps pr.page 0 → ⊥
    below e f g = omega (arith, v.1, cover_left ps pr.page (end_of su - pr.erased) f (omega arith))

    on : pr.erased < end_of su → pr.page < length ps → EraseRoom ps su (passed pr (get_or ps pr.page 0))
    on e f =
        let z : end_of su - pr.erased - get_or ps pr.page 0 ≡ end_of su - (pr.erased + get_or ps pr.page 0) = omega arith in (
          omega (arith, v.0, sum_left ps pr.page f),
          rw (← z) (omega (arith, v.1, cover_left ps pr.page (end_of su - pr.erased) f (omega arith))),
        )
wants_at Stage.Writing ps su pr v = write_picked (λ (t : Todo). Wants (download ps) (room ps su) su (Ok t)) su pr (λ e. tt) (λ e. tt)
wants_at Stage.Ending ps su pr v = tt

-- THE DOWNLOAD THRIVES WHERE THERE IS ROOM
pub thrives : (ps : List ℕ) (su : Setup) → 0 < su.size → Thrives (download ps) su (left ps su) (room ps su)
unfolding next_of
thrives ps su h = record { heads = λ pr. heads ps su pr h; wants = λ pr v. wants_at pr.stage ps su pr v; short = λ pr c n t. (le_refl _, λ v. v) }

-- and it has room at its start
pub fresh_room : (io : DfuSansIo) (p : DfuProtocol) (fw ps : List ℕ) → Ready io p fw ps
    → room ps (setup_of io p (length fw) (length ps)) (fresh (setup_of io p (length fw) (length ps)))
fresh_room io p fw ps r = by (dfuseb p) refl
  where
    su : Setup
    su = setup_of io p (length fw) (length ps)

    by : (b : Bool) → dfuseb p ≡ b
        → room_at (pick b Stage.Erasing Stage.Writing) ps (setup_of io p (length fw) (length ps)) (fresh (setup_of io p (length fw) (length ps)))
    by true d =
        let a : ℕ = target_of p io.override_address in
        let y : pick (dfuseb p) a 0 ≡ a = rw d in
        let z : a + length fw - a ≡ length fw = omega arith in
        rw y (
          omega (arith, r.covered d, sum_covering (length fw) ps),
          rw z (r.below d),
        )
    by false d = tt
