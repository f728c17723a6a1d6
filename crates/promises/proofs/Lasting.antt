-- Claims that no event changes: of the states of a wait, of a reset that is awaited, of an end, of a refusal. Assumes nothing.
use Rattle.std.proofs.Common.{ℕ, List, ◌++◌, eqb, Result, Ok, Err}
use Rattle.ground.proofs.Tests.{picked}
use Rattle.get_status.specs.declared.State.{State}
use Rattle.work.specs.Work.{wait_after}
use Rattle.promises.specs.Words.{Command, Setup, Progress, Todo, Wait, End, Error, Work, Phase}
use Rattle.promises.specs.Run.{Event, sent_by}
use Rattle.promises.proofs.Walk.{Claims, Ending, Holds, Wished, WaitingAt}
use Rattle.machine.specs.Machine.{asks_at}

module _ (W : State → State → Type 0) (R : Type 0) (F : End → Type 0) (D : Error → Type 0) where
  abbrev pub lasting : Claims
  lasting = record {
    at_first_lem = λ pr l h. Unit;
    at_clear = λ pr l h. Unit;
    at_second = λ pr l h. Unit;
    at_wish = λ pr l h. Unit;
    pausing = λ b t pr l h. W b t;
    looking = λ b t pr l h. W b t;
    resetting = λ pr l h. R;
    finished = λ e pr l h. F e;
    refused = λ e l h. D e;
    always = λ l h. Unit;
  }

  abbrev pub OfWait : Wait → Type 0
  OfWait (Wait.Pause b t ms) = W b t
  OfWait (Wait.Poll b t) = W b t

  abbrev pub OfEnd : End → Type 0
  OfEnd End.Stays = F End.Stays
  OfEnd End.Reset = R

  abbrev pub OfWish : Result Todo Error → Type 0
  OfWish (Ok (Todo.Send c then)) = Unit
  OfWish (Ok (Todo.End e)) = OfEnd e
  OfWish (Err e) = D e

  -- what is asked of them: each wait begins with its claim, the end has its own, and so has every refusal
  pub record Lasts (w : Work) (su : Setup) : Type 0 where
    pub waits : (c : Command) (n : ℕ) → OfWait (wait_after su c n)
    pub reset : R → F End.Reset
    pub wishes : (pr : Progress) → OfWish (w.next su pr)
    pub denies : (e : Error) → Ending e → D e

  module _ (w : Work) (su : Setup) (g : Lasts w su) where
    waiting : (c : Command) (n : ℕ) (pr : Progress) (l : ℕ) (h : List Event) → OfWait (wait_after su c n) → WaitingAt w su lasting (wait_after su c n) pr l (sent_by (asks_at (Phase.Waiting (wait_after su c n))) ++ h)
    waiting (Command.Erase a) k pr l h v = v
    waiting c k pr l h v = v

    wished : (pr : Progress) (l : ℕ) (h : List Event) (t : Result Todo Error) → OfWish t → Wished w su lasting pr l h t
    wished pr l h (Ok (Todo.Send c then)) v = λ m e. (tt, λ n f. waiting c n (w.took su then c n) m _ (g.waits c n))
    wished pr l h (Ok (Todo.End End.Stays)) v = v
    wished pr l h (Ok (Todo.End End.Reset)) v = v
    wished pr l h (Err e) v = v

    pub lasting_holds : Holds w su lasting
    lasting_holds = record {
      first = λ pr l h st ms v. picked (λ (X : Type 0). X) (eqb st 10) _ _ (λ e. tt) (λ e. tt);
      clear = λ pr l h v. tt;
      second = λ pr l h ms v. tt;
      wish = λ pr l h v. wished pr l h (w.next su pr) (g.wishes pr);
      look = λ b t pr l h v. v;
      busy = λ b t pr l h ms v. v;
      settle = λ b t pr l h ms v. tt;
      reset = λ pr l h v. g.reset v;
      cut_first = λ pr l h v. tt;
      cut_clear = λ pr l h v. tt;
      cut_second = λ pr l h v. tt;
      cut_wish = λ pr l h v. tt;
      cut_pausing = λ b t pr l h v. tt;
      cut_looking = λ b t pr l h v. tt;
      cut_resetting = λ pr l h v. tt;
      cut_finished = λ e pr l h v. tt;
      cut_refused = λ e l h v. tt;
      deny = λ e l h d v. g.denies e d;
      hear = λ l h st ms v. tt;
    }

-- wishes of whose refusals nothing is claimed
pub unit_wish : (P : State → State → Type 0) (t : Result Todo Error) → OfWish P Unit (λ e. Unit) (λ e. Unit) t
unit_wish P (Ok (Todo.End End.Stays)) = tt
unit_wish P t = tt

-- waits of which nothing is claimed
pub unit_waits : (su : Setup) (c : Command) (n : ℕ) → OfWait (λ b t. Unit) Unit (λ e. Unit) (λ e. Unit) (wait_after su c n)
unit_waits su (Command.Erase a) k = tt
unit_waits su c k = tt
