-- A run over the calls themselves: at each one firmware, pages and command bytes are lent anew, and an answer is told.
use Rattle.std.specs.Prelude.{ℕ, ◌≤◌, ◌≡◌, Bool, true, List, [], ◌∷◌, ◌++◌, length, Result, Ok, Err}
use Rattle.machine.specs.Machine.{asks_at}
use Rattle.session.specs.Calls.{as_at_start, guard_of, Outcome, out, call_of}
use Rattle.promises.specs.Words.{pick, Setup, Phase, Ask, Session, Answer}
use Rattle.promises.specs.Run.{Event, sent_by, heard_at, World}

pub record Call : Type 0 where
  pub firmware : List ℕ
  pub pages : List ℕ
  pub command : List ℕ
  pub answer : Answer

-- what the called function hands back, by its contract
abbrev pub outcome : Session → Call → Outcome
outcome s c = call_of c.firmware c.pages c.command s c.answer

-- a call that is refused for what it lends hears nothing
abbrev pub heard_through : Result Unit Ask → Phase → Answer → List Event
heard_through (Ok opened) p a = heard_at p a
heard_through (Err ask) p a = []

abbrev pub call : World → Call → World
call x c = record {
  session = (outcome x.session c).step.next;
  past = sent_by (outcome x.session c).step.says
      ++ (heard_through (guard_of x.session (length c.firmware) (length c.pages) (length c.command)) x.session.phase c.answer ++ x.past);
}

unfoldable pub calls : World → List Call → World
calls x [] = x
calls x (c ∷ more) = calls (call x c) more

-- the same firmware and pages, contents too, and at least 5 command bytes at each call
abbrev pub Lends : List ℕ → List ℕ → Call → Type 0
Lends fw ps c = (c.firmware ≡ fw) × (c.pages ≡ ps) × (5 ≤ length c.command)

unfoldable pub AllLend : List ℕ → List ℕ → List Call → Type 0
AllLend fw ps [] = Unit
AllLend fw ps (c ∷ more) = Lends fw ps c × AllLend fw ps more

-- the calls that lend as at start are told; the others are refused by 25
abbrev pub rightly : Setup → Call → Bool
rightly su c = as_at_start su (length c.firmware) (length c.pages) (length c.command)

unfoldable pub passed : Setup → List Call → List Answer
passed su [] = []
passed su (c ∷ more) = pick (rightly su c) (c.answer ∷ passed su more) (passed su more)

-- whatever the others lend, these lend the same pages
unfoldable pub AllPass : List ℕ → Setup → List Call → Type 0
AllPass ps su [] = Unit
AllPass ps su (c ∷ more) = (rightly su c ≡ true → c.pages ≡ ps) × AllPass ps su more

unfoldable pub answers : List Call → List Answer
answers [] = []
answers (c ∷ more) = c.answer ∷ answers more

-- what a run of calls may hand back, call by call, by the contracts alone
unfoldable pub Allowed : Session → List Call → List Outcome → Type 0
Allowed s [] [] = Unit
Allowed s [] (o ∷ os) = ⊥
Allowed s (c ∷ more) [] = ⊥
Allowed s (c ∷ more) (o ∷ os) = (o ≡ outcome s c) × Allowed o.step.next more os

-- a run of which each call hands back the same answer and the same session, and the command bytes as they were lent
unfoldable pub Repeats : Session → List Call → List Outcome → Type 0
Repeats s [] [] = Unit
Repeats s [] (o ∷ os) = ⊥
Repeats s (c ∷ more) [] = ⊥
Repeats s (c ∷ more) (o ∷ os) = (o ≡ out (record { next = s; says = asks_at s.phase }) c.command) × Repeats s more os
