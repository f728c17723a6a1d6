-- `number_at` meets its contract: the places that no byte was copied to hold zeros.
use Rattle.std.proofs.Common.{◌≡◌, ℕ, List, ◌++◌, length, take, drop, ap, ◌∙◌, arith, length-append, length-take, length-drop}
use Rattle.std.specs.Prelude.{replicate}
use Rattle.ground.specs.Bytes.{little_endian_value, field}
use Rattle.ground.proofs.Numbers.{bytes_of, field_small, above_nothing, zeros, eight_worth, read_from}
use Rattle.ground.proofs.number_at.Goals as goal

-- what was copied, and what is left behind it
whole : (k : ℕ) (z held : List ℕ) → length held ≡ length (take k z) → length (held ++ drop k z) ≡ length z
whole k z held e = omega (arith, length-append held (drop k z), length-take k z, length-drop k z)

pub returns : goal.returns
returns g c =
    let a = c.args in
    let n = c.min-n.result in
    let held = c.copy_from_slice.new.self in
    let z : List ℕ = replicate {A = ℕ} 8 0 in
    let copied : List ℕ → List ℕ = λ (l : List ℕ). take n l in
    let worth : c.from_le_bytes.result ≡ field a.at g.row.N a.s.now =
    c.from_le_bytes.ensures
    ∙ eight_worth (held ++ drop n z) (whole n z held c.copy_from_slice.ensures.len)
    ∙ above_nothing held (drop n z) (zeros 8 n)
    ∙ ap little_endian_value c.copy_from_slice.ensures.after
    ∙ rw (c.min-n.ensures, c.min.ensures) (read_from a.at g.row.N a.s.now) in
    record { value = worth; small = omega (arith, worth, field_small a.at g.row.N a.s.now (bytes_of a.s.now (λ i. (c.type_inv.s i).fits))) }
