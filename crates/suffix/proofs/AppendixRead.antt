-- The reader against DFU 1.1's appendix B: what the appendix lays out is read. Assumes nothing.
use Rattle.std.proofs.Common.{◌≡◌, ℕ, ◌+◌, ◌-◌, ◌*◌, ◌/◌, ◌%◌, List, ◌++◌, Bool, length, take, drop, Ok, Err, refl, sym, ap, ap₂, ◌∙◌, arith, length-append}
use Rattle.std.proofs.Math.Seq.{take-append-add, drop-append_seam, take-append_seam}
use borrow.Author.Tests.{le-ltb, eq-eqb}
use Rattle.ground.specs.Pick.{pick}
use Rattle.ground.specs.Bytes.{little_endian_value, field, prefix}
use Rattle.papers.specs.Crc.{crc_of}
use Rattle.papers.specs.Suffix.{Ids, four, opening, dw_crc, file_of}
use Rattle.suffix.specs.declared.Error.{Error}
use Rattle.suffix.specs.Suffix.{last_of, last_read, suffix_of, firmware_of}
use Rattle.suffix.proofs.Tested.{part_is}
use Rattle.suffix.proofs.Appendix.{named}

pair : (n : ℕ) → (0 * 256 + n / 256) * 256 + n % 256 ≡ n
pair n = omega arith

quad : (n : ℕ) → (((0 * 256 + n / 16777216) * 256 + n / 65536 % 256) * 256 + n / 256 % 256) * 256 + n % 256 ≡ n
quad n = omega arith

-- the last 16 bytes that the appendix lays out
last_read_lem : (i : Ids) (c : ℕ) (before : List ℕ) → crc_of before ≡ c → last_read (opening i ++ four c) before ≡ Ok (record { identities = named i; crc = c })
unfolding prefix field little_endian_value
last_read_lem i c before e =
    simp (pair i.bcd_device, pair i.id_product, pair i.id_vendor, pair i.bcd_dfu, quad c, eq-eqb c (crc_of before) (sym e))

module _ (fw : List ℕ) (i : Ids) where
  long : length (file_of fw i) ≡ length fw + 16
  long = length-append fw (opening i ++ four (dw_crc fw i))

  last : last_of (file_of fw i) ≡ opening i ++ four (dw_crc fw i)
  last =
      let e : length (file_of fw i) - 16 ≡ length fw = omega (arith, long) in
      ap (λ (n : ℕ). drop n (file_of fw i)) e ∙ drop-append_seam fw (opening i ++ four (dw_crc fw i))

  before : take (length (file_of fw i) - 4) (file_of fw i) ≡ fw ++ opening i
  before =
      let e : length (file_of fw i) - 4 ≡ length fw + 12 = omega (arith, long) in
      ap (λ (n : ℕ). take n (file_of fw i)) e ∙ take-append-add fw (opening i ++ four (dw_crc fw i)) 12

  -- WHAT THE APPENDIX LAYS OUT IS READ, with its identities and its CRC ..
  pub reads_the_appendix : suffix_of (file_of fw i) ≡ Ok (record { identities = named i; crc = dw_crc fw i })
  unfolding suffix_of
  reads_the_appendix =
      ap (λ (t : Bool). pick t (Err Error.FileTooShort) (last_read (last_of (file_of fw i)) (take (length (file_of fw i) - 4) (file_of fw i))))
      (le-ltb (length (file_of fw i)) 16 (omega (arith, long)))
      ∙ ap₂ last_read last before
      ∙ last_read_lem i (dw_crc fw i) (fw ++ opening i) refl

  -- .. and its firmware
  pub hands_the_firmware : firmware_of (file_of fw i) ≡ fw
  hands_the_firmware =
      let e : length (file_of fw i) - 16 ≡ length fw = omega (arith, long) in
      sym (part_is (file_of fw i) reads_the_appendix)
      ∙ ap (λ (n : ℕ). take n (file_of fw i)) e
      ∙ take-append_seam fw (opening i ++ four (dw_crc fw i))
