-- The tables: one that takes eight bits at a time, and sixteen that take as many bytes.
use Rattle.std.specs.Prelude.{ℕ, zero, suc, ◌/◌, ◌%◌, ◌<◌, ◌≡◌, List, slice_index}
use Rattle.papers.specs.Crc.{eight}

-- the table's rule: at each byte, what eight bits make of it
abbrev pub IsTable : List ℕ → Type 0
IsTable words = (x : ℕ) → x < 256 → slice_index words x ≡ eight x

-- eight bits, k times
unfoldable pub eights : ℕ → ℕ → ℕ
eights zero c = c
eights (suc k) c = eight (eights k c)

-- tables one after the other, laid out up to the place n: table k has at x what eight bits, k + 1 times, make of x
abbrev pub Laid : List ℕ → ℕ → Type 0
Laid words n = (j : ℕ) → j < n → slice_index words j ≡ eights (suc (j / 256)) (j % 256)

-- sixteen tables
abbrev pub Tables : List ℕ → Type 0
Tables words = Laid words 4096
