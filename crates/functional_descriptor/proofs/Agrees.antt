-- What DFU 1.1's table lays out is what the reader finds, whatever follows it. Assumes nothing.
use Prim.Native.Nat.{ℕ, ◌+◌, ◌*◌, ◌/◌, ◌%◌, ◌<◌}
use mathlib.Core.Path.{◌≡◌}
use mathlib.Core.List.{List, ◌++◌}
use mathlib.Core.Bool.{Bool, true, false}
use native.Mathlib.Omega.{arith}
use lib.ListN.{length}
use lib.Dec.{eqb}
use borrow.Author.Tests.{le-ltb, eq-eqb}
use Rattle.ground.specs.Bytes.{little_endian_value, field}
use Rattle.papers.specs.Descriptor.{Functional, weigh, bytes_of}
use Rattle.functional_descriptor.specs.declared.FunctionalDescriptor.{FunctionalDescriptor}
use Rattle.functional_descriptor.specs.Descriptor.{flag, descriptor_of}
use Rattle.std.specs.Prelude.{Some, Ok}

-- the table's fields under the Rust's names
abbrev pub named : Functional → FunctionalDescriptor
named d = record {
  can_download = d.bit_can_dnload;
  can_upload = d.bit_can_upload;
  manifestation_tolerant = d.bit_manifestation_tolerant;
  will_detach = d.bit_will_detach;
  detach_timeout = d.w_detach_time_out;
  transfer_size = d.w_transfer_size;
  dfu_version = record { 0 = d.major; 1 = d.minor };
}

-- a bit is 0 or 1, its weight times over
bit : Bool → ℕ
bit b = weigh b 1

scale : (b : Bool) (w : ℕ) → weigh b w ≡ bit b * w
unfolding bit
scale true w = omega arith
scale false w = omega arith

small : (b : Bool) → bit b < 2
unfolding bit
small true = omega arith
small false = omega arith

back : (b : Bool) (n : ℕ) → n ≡ bit b → eqb n 1 ≡ b
unfolding bit
back true n e = eq-eqb n 1 e
back false n e = rw e

module _ (a b c d : Bool) (r : ℕ) where
  sum : ℕ
  sum = weigh a 1 + weigh b 2 + weigh c 4 + weigh d 8 + r * 16

  flags : (flag 1 sum ≡ a) × (flag 2 sum ≡ b) × (flag 4 sum ≡ c) × (flag 8 sum ≡ d)
  unfolding sum
  flags =
      let s : sum ≡ bit a + bit b * 2 + bit c * 4 + bit d * 8 + r * 16 = omega (arith, scale a 1, scale b 2, scale c 4, scale d 8) in (
        back a (sum / 1 % 2) (omega (arith, small a, small b, small c, small d)),
        back b (sum / 2 % 2) (omega (arith, small a, small b, small c, small d)),
        back c (sum / 4 % 2) (omega (arith, small a, small b, small c, small d)),
        back d (sum / 8 % 2) (omega (arith, small a, small b, small c, small d)),
      )

pair : (n : ℕ) → (0 * 256 + n / 256) * 256 + n % 256 ≡ n
pair n = omega arith

pub reads_the_table : (d : Functional) (more : List ℕ) → descriptor_of (bytes_of d ++ more) ≡ Some (Ok (named d))
unfolding field little_endian_value sum
reads_the_table d more =
    let f = flags d.bit_can_dnload d.bit_can_upload d.bit_manifestation_tolerant d.bit_will_detach d.reserved in
    simp (
      le-ltb (length (bytes_of d ++ more)) 2 (omega arith),
      le-ltb (length (bytes_of d ++ more)) 9 (omega arith),
      f.0,
      f.1,
      f.2,
      f.3,
      pair d.w_detach_time_out,
      pair d.w_transfer_size,
    )
