-- What refusal 3 was for: a block must not end at or past 2^32, counted from the target's address.
use Rattle.std.specs.Prelude.{ℕ, ◌+◌, ◌<◌, List, [], ◌∷◌}
use Rattle.work.specs.Work.{limit}
use Rattle.promises.specs.Words.{Command}

abbrev pub EndsBelow : ℕ → Command → Type 0
EndsBelow address (Command.Erase a) = Unit
EndsBelow address (Command.SetAddress a) = Unit
EndsBelow address (Command.Block n f m) = address + (f + m) < limit
EndsBelow address (Command.Empty n) = Unit

unfoldable pub AllBelow : ℕ → List Command → Type 0
AllBelow address [] = Unit
AllBelow address (c ∷ cs) = EndsBelow address c × AllBelow address cs
