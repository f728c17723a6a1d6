-- Each public call is pinned down: two outcomes that its contract allows, at the same arguments, are equal. Assumes nothing.
use Prim.Native.Nat.{ℕ}
use mathlib.Core.Path.{sym, ◌∙◌}
use mathlib.Core.Bool.{Bool}
use mir.Syntax.{w64, Dict}
use mir.Val.{Fits}
use denote.RattleType.{RattleType}
use denote.Param.Laws.{Laws}
use Rattle.ground.proofs.ResultAnswer.said.Kinds as result_kinds
use Rattle.ground.proofs.ResultAnswer.said.Reads as result_reads
use Rattle.ground.proofs.OptionAnswer.said.Kinds as option_kinds
use Rattle.ground.proofs.OptionAnswer.said.Reads as option_reads
use Rattle.ground.specs.declared.Answer.{Ghosts}
use Rattle.ground.specs.Pins.{Pins}
use Rattle.ground.proofs.starts_with.Kinds as starts_with_kinds
use Rattle.ground.proofs.starts_with.Reads as starts_with_reads
use Rattle.ground.proofs.pair_at.Kinds as pair_at_kinds
use Rattle.ground.proofs.pair_at.Reads as pair_at_reads
use Rattle.ground.proofs.triple_at.Kinds as triple_at_kinds
use Rattle.ground.proofs.triple_at.Reads as triple_at_reads
use Rattle.ground.proofs.word_at.Kinds as word_at_kinds
use Rattle.ground.proofs.word_at.Reads as word_at_reads
use Rattle.ground.specs.declared.Report.{Report}
use Rattle.ground.proofs.Report.of.Kinds as report_of_kinds
use Rattle.ground.proofs.Report.of.Reads as report_of_reads

pub pinned_starts_with : Pins starts_with_kinds.ps starts_with_kinds.r {R = Bool} starts_with_reads.Post (λ κs r s. r)
pinned_starts_with κs a x y s t p q = p ∙ sym q

pub pinned_pair_at : Pins pair_at_kinds.ps pair_at_kinds.r {R = ℕ} pair_at_reads.Post (λ κs r s. r)
pinned_pair_at κs a x y s t p q = p ∙ sym q

pub pinned_triple_at : Pins triple_at_kinds.ps triple_at_kinds.r {R = ℕ} triple_at_reads.Post (λ κs r s. r)
pinned_triple_at κs a x y s t p q = p ∙ sym q

pub pinned_word_at : Pins word_at_kinds.ps word_at_kinds.r {R = ℕ} word_at_reads.Post (λ κs r s. r)
pinned_word_at κs a x y s t p q = p ∙ sym q

pub pinned_report_of : (N : ℕ) (f : Fits w64 N) → Pins (report_of_kinds.ps N f) (report_of_kinds.r N f) {R = Report} (report_of_reads.Post N f) (λ κs r s. r)
pinned_report_of N f κs a x y s t p q = p ∙ sym q

-- of an answer or a refusal, and of an answer that may be missing, whatever their types say
module _ (T E : RattleType) (t : Laws T) (e : Laws E) (g : Ghosts T.Denot) (d : Dict) (h : Ghosts E.Denot) (f : Dict) where
  pub pinned_result_said : Pins (result_kinds.ps T E t e) (result_kinds.r T E t e) {R = Report} (result_reads.Post T E t e g d h f) (λ κs r s. r)
  pinned_result_said κs a x y s u p q = p ∙ sym q

module _ (T : RattleType) (t : Laws T) (g : Ghosts T.Denot) (d : Dict) where
  pub pinned_option_said : Pins (option_kinds.ps T t) (option_kinds.r T t) {R = Report} (option_reads.Post T t g d) (λ κs r s. r)
  pinned_option_said κs a x y s u p q = p ∙ sym q
