-- `piece_end` meets its contract: the library's place is the definition's.
use Rattle.std.proofs.Common.{ℕ, ◌+◌, ◌-◌, List, length, take, drop, ap, ◌∙◌, ◌≡◌}
use Rattle.ground.proofs.Lists.{onwards}
use Rattle.memory_layout.specs.Layout.{end_of, up_to}
use Rattle.memory_layout.proofs.Scan.{placed}
use Rattle.memory_layout.proofs.piece_end.Goals as goal

pub returns : goal.returns
unfolding end_of
returns c =
    let s = c.args.text.now in
    let from = c.args.from in
    let t = take (length s - from) (drop from s) in
    let e : c.unwrap_or.result ≡ length (up_to 44 t) = cc (placed 44 t) in
    ap (λ (n : ℕ). from + n) e ∙ ap (λ (l : List ℕ). from + length (up_to 44 l)) (onwards from s)
