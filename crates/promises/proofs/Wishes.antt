-- What a download wishes next, by the tests that decide it: what holds of each wish holds of the next one. Assumes nothing.
use Rattle.std.proofs.Common.{ℕ, ◌+◌, ◌<◌, ◌≤◌, List, length, get_or, ltb, ltb-true, ltb-false, Result, Ok, Err}
use Rattle.ground.proofs.Tests.{picked}
use Rattle.work.specs.Work.{limit, end_of, number_at, block_length, staged}
use Rattle.download.specs.Download.{passed, erase_next, write_next}
use Rattle.promises.specs.Words.{Command, Setup, Progress, Stage, Todo, Error}

-- while pages are erased: a page, one that would end too high, none that is left, the address after the last
pub erase_picked : (P : Result Todo Error → Type 0) (ps : List ℕ) (su : Setup) (pr : Progress)
    → (pr.erased < end_of su → pr.page < length ps → P (Ok (Todo.Send (Command.Erase pr.erased) (passed pr (get_or ps pr.page 0)))))
    → (pr.erased < end_of su → pr.page < length ps → limit ≤ pr.erased + get_or ps pr.page 0 → P (Err Error.EraseLimitReached))
    → (pr.erased < end_of su → length ps ≤ pr.page → P (Err Error.NoSpaceLeft))
    → (end_of su ≤ pr.erased → P (Ok (Todo.Send (Command.SetAddress su.address) (staged Stage.Writing pr))))
    → P (erase_next ps su pr)
unfolding erase_next
erase_picked P ps su pr page high none last =
    picked P (ltb pr.erased (end_of su)) _ _
    (λ e. picked P (ltb pr.page (length ps)) _ _
    (λ f. picked P (ltb (pr.erased + get_or ps pr.page 0) limit) _ _
    (λ g. page (ltb-true _ _ e) (ltb-true _ _ f))
    (λ g. high (ltb-true _ _ e) (ltb-true _ _ f) (ltb-false _ _ g)))
    (λ f. none (ltb-true _ _ e) (ltb-false _ _ f)))
    (λ e. last (ltb-false _ _ e))

-- while blocks are written: a block, and the empty one after the last
pub write_picked : (P : Todo → Type 0) (su : Setup) (pr : Progress)
    → (pr.accepted < su.length → P (Todo.Send (Command.Block (number_at su pr.accepted) pr.accepted (block_length su pr.accepted)) (staged Stage.Writing pr)))
    → (su.length ≤ pr.accepted → P (Todo.Send (Command.Empty (number_at su pr.accepted)) (staged Stage.Ending pr)))
    → P (write_next su pr)
unfolding write_next
write_picked P su pr block last = picked P (ltb pr.accepted su.length) _ _ (λ e. block (ltb-true _ _ e)) (λ e. last (ltb-false _ _ e))
