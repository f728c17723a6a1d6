-- Which budgets are 64-bit counts. Assumes nothing.
use Rattle.std.proofs.Common.{◌≡◌, ℕ, zero, suc, ◌+◌, ◌*◌, ◌^◌, ◌<◌, ◌≤◌, Bool, true, false, List, ltb-false, arith}
use Rattle.papers.specs.Plan.{commands}
use Rattle.memory_layout.specs.Layout.{max_pages}
use Rattle.start.specs.Start.{overb}
use Rattle.download.proofs.Covering.{bounded}
use Rattle.work.proofs.Fills.{block_count_bound}
use Rattle.plan.proofs.Agree.{pages_agree, blocks_agree}

-- there is a request always: the empty block
pub commands_pos : (d : Bool) (n size : ℕ) (ps : List ℕ) → 0 < commands d n size ps
commands_pos true n size ps = omega arith
commands_pos false n size ps = omega arith

-- what is too much for a 64-bit count, as it can be told without reaching it
pub too_busy : (r k : ℕ) → 0 < r → 2 ^ 64 ≤ k + 2 → 2 ^ 64 ≤ 3 + r * (k + 2)
too_busy zero k h l = absurd (omega arith)
too_busy (suc r) k h l = omega arith

-- DfuSe pages that are not too many are few
pub few : (d : Bool) (n : ℕ) → overb d n ≡ false → d ≡ true → n ≤ max_pages
few true n e h = ltb-false max_pages n e
few false n e h = cc

-- what the requests are counted by
pub ruleset counted = (pages_agree, blocks_agree, bounded, block_count_bound)
