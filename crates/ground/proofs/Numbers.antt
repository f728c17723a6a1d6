-- Laws of `little_endian_value`: its bound, and what eight places hold of fewer bytes. Assumes nothing.
use Prim.Native.Nat.{ℕ, zero, suc, ◌+◌, ◌-◌, ◌*◌, ◌^◌, ◌<◌, ◌≤◌, min}
use mathlib.Core.Path.{◌≡◌, refl, ap}
use mathlib.Core.List.{List, [], ◌∷◌, ◌++◌}
use native.Mathlib.Omega.{arith}
use lib.ListN.{length, take, drop, replicate, get_or, length-take}
use Rattle.std.specs.List.{slice_index}
use Rattle.ground.specs.Bytes.{little_endian_value, field, Bytes}
use Rattle.ground.proofs.Lists.{onwards, take_min, drop_min}

-- a list whose elements are known to be bytes, and its parts
pub bytes_of : (l : List ℕ) → ((i : ℕ) → get_or l i 0 < 256) → Bytes l
bytes_of [] h = tt
bytes_of (b ∷ bs) h = (h 0, bytes_of bs (λ i. h (suc i)))

pub bytes_take : (n : ℕ) (l : List ℕ) → Bytes l → Bytes (take n l)
bytes_take zero l h = tt
bytes_take (suc n) [] h = tt
bytes_take (suc n) (b ∷ bs) h = (h.0, bytes_take n bs h.1)

pub bytes_drop : (n : ℕ) (l : List ℕ) → Bytes l → Bytes (drop n l)
bytes_drop zero l h = h
bytes_drop (suc n) [] h = tt
bytes_drop (suc n) (b ∷ bs) h = bytes_drop n bs h.1

-- k bytes at most make a number below 256 ^ k
pub small : (k : ℕ) (l : List ℕ) → Bytes l → length l ≤ k → little_endian_value l < 256 ^ k
unfolding little_endian_value
small zero [] h e = omega arith
small zero (b ∷ bs) h e = absurd (omega arith)
small (suc k) [] h e = omega (arith, small k [] tt (omega arith))
small (suc k) (b ∷ bs) h e = omega (arith, small k bs h.1 (omega arith), h.0)

pub field_small : (at n : ℕ) (l : List ℕ) → Bytes l → field at n l < 256 ^ n
unfolding field
field_small at n l h = small n (take n (drop at l)) (bytes_take n (drop at l) (bytes_drop at l h)) (omega (arith, length-take n (drop at l)))

-- zeros above the last byte add nothing
pub above_nothing : (l z : List ℕ) → little_endian_value z ≡ 0 → little_endian_value (l ++ z) ≡ little_endian_value l
unfolding little_endian_value
above_nothing [] z e = e
above_nothing (b ∷ bs) z e = ap (λ (v : ℕ). v * 256 + b) (above_nothing bs z e)

pub zeros : (m k : ℕ) → little_endian_value (drop k (replicate m 0)) ≡ 0
unfolding little_endian_value
zeros zero zero = refl
zeros zero (suc k) = refl
zeros (suc m) zero = ap (λ (v : ℕ). v * 256 + 0) (zeros m zero)
zeros (suc m) (suc k) = zeros m k

-- eight bytes, each by its worth
pub eight_worth : (l : List ℕ) → length l ≡ 8
    → slice_index l 0 + slice_index l 1 * 256 + slice_index l 2 * 65536 + slice_index l 3 * 16777216 + slice_index l 4 * 4294967296
    + slice_index l 5 * 1099511627776 + slice_index l 6 * 281474976710656 + slice_index l 7 * 72057594037927936 ≡ little_endian_value l
unfolding little_endian_value
eight_worth (a ∷ b ∷ c ∷ d ∷ e ∷ f ∷ g ∷ h ∷ []) p = omega arith
eight_worth _ p = absurd (omega arith)

-- the bytes that are read: so many from a place on, as far as there are some
pub read_from : (at n : ℕ) (l : List ℕ)
    → little_endian_value (take (min n (length (take (length l - min at (length l)) (drop (min at (length l)) l)))) (take (length l - min at (length l)) (drop (min at (length l)) l))) ≡ field at n l
unfolding field
read_from at n l = rw (onwards (min at (length l)) l, take_min n, drop_min at l)
