-- What an answer says, in document 01's terms: the refusal's number, 0 where it is none, and the values that it carries.
use Rattle.std.specs.Prelude.{ℕ, ◌-◌, List, [], ◌++◌, length, replicate, Option, Some, None, Result, Ok, Err}
use Rattle.ground.specs.declared.Report.{Report}

pub record Said : Type 0 where
  pub number : ℕ
  pub values : List ℕ

abbrev pub says : ℕ → List ℕ → Said
says n vs = record { number = n; values = vs }

-- the same as code has it: how many values there are, and eight places, of which the rest are 0
abbrev pub report_of : Said → Report
report_of s = record { number = s.number; count = length s.values; values = s.values ++ replicate (8 - length s.values) 0 }

-- of an answer or a refusal what each says; of an answer that may be missing the number 0 alone where it is
abbrev pub said_result : {T E : Type 0} → (T → Said) → (E → Said) → Result T E → Said
said_result f g (Ok x) = f x
said_result f g (Err e) = g e

abbrev pub said_option : {T : Type 0} → (T → Said) → Option T → Said
said_option f (Some x) = f x
said_option f None = says 0 []
