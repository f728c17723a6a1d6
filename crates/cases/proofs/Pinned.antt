-- Each public call is pinned down: two outcomes that its contract allows, at the same arguments, are equal; of a call that writes, two that are both good. Assumes nothing.
use Prim.Native.Nat.{ℕ}
use mathlib.Core.Path.{◌≡◌, sym, ap₂, ◌∙◌}
use contract.Lifetimes.{Lfts}
use borrow.Fn.World.{ResD}
use denote.Triple.Clauses.{AtExit}
use borrow.Fn.Kinds.{ParamKind, ResultKind, Dens, ended_of}
use denote.RattleType.{RattleType}
use denote.Param.Laws.{Laws}
use mir.Syntax.{Dict}
use mathlib.Core.List.{List}
use Rattle.std.proofs.Common.{Ok}
use Rattle.std.specs.declared.result.Result.{Result}
use Rattle.std.specs.declared.io.Error.{Error}
use Rattle.std.specs.declared.io.traits.Write.{Ghosts}
use Rattle.ground.specs.Pins.{Pins, Post}
use Rattle.cases.specs.declared.lines.Place.{Place}
use Rattle.cases.specs.declared.words.Amount.{Amount}
use Rattle.cases.specs.declared.words.Bytes.{Bytes}
use Rattle.std.specs.Prelude.{Option}
use Rattle.cases.specs.Words.{taken, stored}
use Rattle.cases.specs.Output.{Filled, filled}
use Rattle.cases.proofs.words.digits.Kinds as digits_kinds
use Rattle.cases.proofs.words.digits.Reads as digits_reads
use Rattle.cases.proofs.words.number.Kinds as number_kinds
use Rattle.cases.proofs.words.number.Reads as number_reads
use Rattle.cases.proofs.words.hex.Kinds as hex_word_kinds
use Rattle.cases.proofs.words.hex.Reads as hex_word_reads
use Rattle.cases.proofs.words.last_hex.Kinds as last_hex_kinds
use Rattle.cases.proofs.words.last_hex.Reads as last_hex_reads
use Rattle.cases.proofs.words.past.Kinds as past_kinds
use Rattle.cases.proofs.words.past.Reads as past_reads
use Rattle.cases.proofs.words.numbers.Kinds as numbers_kinds
use Rattle.cases.proofs.words.numbers.Reads as numbers_reads
use Rattle.cases.specs.contracts.words.first as first_signature
use Rattle.cases.proofs.words.first.Kinds as first_kinds
use Rattle.cases.proofs.words.first.Reads as first_reads
use Rattle.cases.proofs.output.Transcript.byte.Kinds as byte_kinds
use Rattle.cases.proofs.output.Transcript.byte.Reads as byte_reads
use Rattle.cases.proofs.output.Transcript.text.Kinds as text_kinds
use Rattle.cases.proofs.output.Transcript.text.Reads as text_reads
use Rattle.cases.proofs.output.Transcript.value.Kinds as value_kinds
use Rattle.cases.proofs.output.Transcript.value.Reads as value_reads
use Rattle.cases.proofs.output.Transcript.values.Kinds as values_kinds
use Rattle.cases.proofs.output.Transcript.values.Reads as values_reads
use Rattle.cases.proofs.output.Transcript.pages.Kinds as pages_kinds
use Rattle.cases.proofs.output.Transcript.pages.Reads as pages_reads
use Rattle.cases.proofs.output.Transcript.refused.Kinds as refused_kinds
use Rattle.cases.proofs.output.Transcript.refused.Reads as refused_reads
use Rattle.cases.proofs.output.Transcript.said.Kinds as said_kinds
use Rattle.cases.proofs.output.Transcript.said.Reads as said_reads
use Rattle.cases.proofs.output.Transcript.hex.Kinds as hex_written_kinds
use Rattle.cases.proofs.output.Transcript.hex.Reads as hex_written_reads
use Rattle.cases.proofs.output.Transcript.line_end.Kinds as line_end_kinds
use Rattle.cases.proofs.output.Transcript.line_end.Reads as line_end_reads
use Rattle.cases.proofs.output.Transcript.bad_line.Kinds as bad_line_kinds
use Rattle.cases.proofs.output.Transcript.bad_line.Reads as bad_line_reads
use Rattle.cases.proofs.lines.start.Kinds as start_kinds
use Rattle.cases.proofs.lines.start.Reads as start_reads

pub pinned_start : Pins start_kinds.ps start_kinds.r {R = Place} start_reads.Post (λ κs r s. r)
pinned_start κs a x y s t p q = p ∙ sym q

pub pinned_digits : Pins digits_kinds.ps digits_kinds.r {R = Option Amount} digits_reads.Post (λ κs r s. r)
pinned_digits κs a x y s t p q = p ∙ sym q

pub pinned_number : Pins number_kinds.ps number_kinds.r {R = Option Amount} number_reads.Post (λ κs r s. r)
pinned_number κs a x y s t p q = p ∙ sym q

pub pinned_hex_word : Pins hex_word_kinds.ps hex_word_kinds.r {R = Option Bytes} hex_word_reads.Post (λ κs r s. taken r s.1.1.0.now)
pinned_hex_word κs a x y s t p q = p ∙ sym q

pub pinned_last_hex : Pins last_hex_kinds.ps last_hex_kinds.r {R = Option Bytes} last_hex_reads.Post (λ κs r s. taken r s.1.1.0.now)
pinned_last_hex κs a x y s t p q = p ∙ sym q

pub pinned_past : Pins past_kinds.ps past_kinds.r {R = Option ℕ} past_reads.Post (λ κs r s. r)
pinned_past κs a x y s t p q = p ∙ sym q

pub pinned_numbers : Pins numbers_kinds.ps numbers_kinds.r {R = Option ℕ} numbers_reads.Post (λ κs r s. stored r s.1.1.1.0.now)
pinned_numbers κs a x y s t p q = p ∙ sym q

-- the first bytes: those of the part that is handed back
pub pinned_first : (T : RattleType) (L : Laws T) (κs : Lfts 2) (a : Dens {n = 2} κs (first_kinds.ps T L)) (x y : ResD (first_signature.signature T) κs)
    (s t : AtExit (ended_of 2 (first_kinds.ps T L) (first_kinds.r T L)) κs) → first_reads.Post T L κs a x s → first_reads.Post T L κs a y t → x.now ≡ y.now
pinned_first T L κs a x y s t p q = p ∙ sym q

-- of a call that writes: two outcomes that are both good
abbrev pub PinsOk : {n : ℕ} (ps : List (ParamKind n)) (r : ResultKind n) {V O E : Type 0} → Post ps r (Result V E) → ((κs : Lfts n) → V → AtExit (ended_of n ps r) κs → O) → Type 0
PinsOk {n} ps r {V} {O} {E} post out =
    (κs : Lfts n) (a : Dens {n = n} κs ps) (x y : V) (s t : AtExit (ended_of n ps r) κs) → post κs a (Ok x) s → post κs a (Ok y) t → out κs x s ≡ out κs y t

-- what a call that writes leaves: what is held, and by its name the buffer that holds it
pub record Left : Type 0 where
  pub holds : Filled
  pub buffer : ℕ

abbrev pub leaves : Filled → ℕ → Left
leaves f name = record { holds = f; buffer = name }

module _ (T : RattleType) (L : Laws T) (W : Ghosts T.Denot) (D : Dict) where
  pub pinned_byte : PinsOk (byte_kinds.ps T L) (byte_kinds.r T L) {V = Unit {0}} {E = Error} (byte_reads.Post T L W D) (λ κs r s. leaves (filled s.0.now.bytes.now s.0.now.held) s.0.now.bytes.ghost_name)
  pinned_byte κs a x y s t p q =
      let m = byte_reads.post-apart T L W D κs a (Ok x) s p in
      let n = byte_reads.post-apart T L W D κs a (Ok y) t q in
      ap₂ leaves (m.told.held ∙ sym n.told.held) (m.lent ∙ sym n.lent)

  pub pinned_text : PinsOk (text_kinds.ps T L) (text_kinds.r T L) {V = Unit {0}} {E = Error} (text_reads.Post T L W D) (λ κs r s. leaves (filled s.0.now.bytes.now s.0.now.held) s.0.now.bytes.ghost_name)
  pinned_text κs a x y s t p q =
      let m = text_reads.post-apart T L W D κs a (Ok x) s p in
      let n = text_reads.post-apart T L W D κs a (Ok y) t q in
      ap₂ leaves (m.told.held ∙ sym n.told.held) (m.lent ∙ sym n.lent)

  pub pinned_value : PinsOk (value_kinds.ps T L) (value_kinds.r T L) {V = Unit {0}} {E = Error} (value_reads.Post T L W D) (λ κs r s. leaves (filled s.0.now.bytes.now s.0.now.held) s.0.now.bytes.ghost_name)
  pinned_value κs a x y s t p q =
      let m = value_reads.post-apart T L W D κs a (Ok x) s p in
      let n = value_reads.post-apart T L W D κs a (Ok y) t q in
      ap₂ leaves (m.told.held ∙ sym n.told.held) (m.lent ∙ sym n.lent)

  pub pinned_values : PinsOk (values_kinds.ps T L) (values_kinds.r T L) {V = Unit {0}} {E = Error} (values_reads.Post T L W D) (λ κs r s. leaves (filled s.0.now.bytes.now s.0.now.held) s.0.now.bytes.ghost_name)
  pinned_values κs a x y s t p q =
      let m = values_reads.post-apart T L W D κs a (Ok x) s p in
      let n = values_reads.post-apart T L W D κs a (Ok y) t q in
      ap₂ leaves (m.told.held ∙ sym n.told.held) (m.lent ∙ sym n.lent)

  pub pinned_pages : PinsOk (pages_kinds.ps T L) (pages_kinds.r T L) {V = Unit {0}} {E = Error} (pages_reads.Post T L W D) (λ κs r s. leaves (filled s.0.now.bytes.now s.0.now.held) s.0.now.bytes.ghost_name)
  pinned_pages κs a x y s t p q =
      let m = pages_reads.post-apart T L W D κs a (Ok x) s p in
      let n = pages_reads.post-apart T L W D κs a (Ok y) t q in
      ap₂ leaves (m.told.held ∙ sym n.told.held) (m.lent ∙ sym n.lent)

  pub pinned_refused : PinsOk (refused_kinds.ps T L) (refused_kinds.r T L) {V = Unit {0}} {E = Error} (refused_reads.Post T L W D) (λ κs r s. leaves (filled s.0.now.bytes.now s.0.now.held) s.0.now.bytes.ghost_name)
  pinned_refused κs a x y s t p q =
      let m = refused_reads.post-apart T L W D κs a (Ok x) s p in
      let n = refused_reads.post-apart T L W D κs a (Ok y) t q in
      ap₂ leaves (m.told.held ∙ sym n.told.held) (m.lent ∙ sym n.lent)

  pub pinned_said : PinsOk (said_kinds.ps T L) (said_kinds.r T L) {V = Unit {0}} {E = Error} (said_reads.Post T L W D) (λ κs r s. leaves (filled s.0.now.bytes.now s.0.now.held) s.0.now.bytes.ghost_name)
  pinned_said κs a x y s t p q =
      let m = said_reads.post-apart T L W D κs a (Ok x) s p in
      let n = said_reads.post-apart T L W D κs a (Ok y) t q in
      ap₂ leaves (m.told.held ∙ sym n.told.held) (m.lent ∙ sym n.lent)

  pub pinned_hex_written : PinsOk (hex_written_kinds.ps T L) (hex_written_kinds.r T L) {V = Unit {0}} {E = Error} (hex_written_reads.Post T L W D) (λ κs r s. leaves (filled s.0.now.bytes.now s.0.now.held) s.0.now.bytes.ghost_name)
  pinned_hex_written κs a x y s t p q =
      let m = hex_written_reads.post-apart T L W D κs a (Ok x) s p in
      let n = hex_written_reads.post-apart T L W D κs a (Ok y) t q in
      ap₂ leaves (m.told.held ∙ sym n.told.held) (m.lent ∙ sym n.lent)

  pub pinned_line_end : PinsOk (line_end_kinds.ps T L) (line_end_kinds.r T L) {V = Unit {0}} {E = Error} (line_end_reads.Post T L W D) (λ κs r s. leaves (filled s.0.now.bytes.now s.0.now.held) s.0.now.bytes.ghost_name)
  pinned_line_end κs a x y s t p q =
      let m = line_end_reads.post-apart T L W D κs a (Ok x) s p in
      let n = line_end_reads.post-apart T L W D κs a (Ok y) t q in
      ap₂ leaves (m.told.held ∙ sym n.told.held) (m.lent ∙ sym n.lent)

  pub pinned_bad_line : PinsOk (bad_line_kinds.ps T L) (bad_line_kinds.r T L) {V = Unit {0}} {E = Error} (bad_line_reads.Post T L W D) (λ κs r s. leaves (filled s.0.now.bytes.now s.0.now.held) s.0.now.bytes.ghost_name)
  pinned_bad_line κs a x y s t p q =
      let m = bad_line_reads.post-apart T L W D κs a (Ok x) s p in
      let n = bad_line_reads.post-apart T L W D κs a (Ok y) t q in
      ap₂ leaves (m.told.held ∙ sym n.told.held) (m.lent ∙ sym n.lent)
