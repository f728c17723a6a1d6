-- DFU 1.1: a host waits bw_poll_timeout before its next DFU_GETSTATUS. Ours does after every reply that says busy. Assumes nothing.
use Rattle.std.proofs.Common.{ℕ, ◌≡◌, refl, ap, sym, ◌∙◌, true, false, List, ◌++◌, eqb, eq-eqb, ne_eqb, Result}
use Rattle.papers.specs.Status.{StatusReply, bytes_of}
use Rattle.get_status.specs.Names.{state_of, state_byte, status_of, status_byte, settled}
use Rattle.get_status.specs.Reply.{strict}
use Rattle.get_status.specs.declared.State.{State}
use Rattle.get_status.specs.declared.Error.{Error as ReplyError}
use Rattle.get_status.proofs.Agrees.{reads_the_reply}
use Rattle.machine.specs.Machine.{reading, on_poll, asks_at}
use Rattle.get_status.specs.declared.GetStatusMessage.{GetStatusMessage}
use Rattle.promises.specs.Words.{Request, Setup, Progress, Wait, Work, Phase, Ask, Answer, reply, waited, mk, told}

module _ (w : Work) (su : Setup) (pr : Progress) (l : ℕ) (b t : State) where
  -- A REPLY THAT SAYS BUSY HAS ITS bw_poll_timeout WAITED: that is what the host is asked for
  pub busy_is_waited : (r : StatusReply) (more : List ℕ) → r.b_status ≡ 0 → state_byte (settled (state_of r.b_state)) ≡ state_byte b → (state_byte b ≡ state_byte t → ⊥)
      → (told w (mk su pr l (Phase.Waiting (Wait.Poll b t))) (reply (bytes_of r ++ more))).says ≡ Ask.Wait r.bw_poll_timeout
  unfolding told on_poll
  busy_is_waited r more h e d = ap says (reads_the_reply r more) ∙ rw (sound, other, busy)
    where
      says : Result GetStatusMessage ReplyError → Ask
      says x = asks_at (reading pr l (strict x) (on_poll pr l b t (w.next su pr))).phase

      sound : eqb (status_byte (status_of r.b_status)) 0 ≡ true
      sound = ap (λ (x : ℕ). eqb (status_byte (status_of x)) 0) h

      other : eqb (state_byte (settled (state_of r.b_state))) (state_byte t) ≡ false
      other = ne_eqb (state_byte (settled (state_of r.b_state))) (state_byte t) (λ x. d (sym e ∙ x))

      busy : eqb (state_byte (settled (state_of r.b_state))) (state_byte b) ≡ true
      busy = eq-eqb (state_byte (settled (state_of r.b_state))) (state_byte b) e

  -- AND ONLY THAT IT IS OVER LEADS ON to the next DFU_GETSTATUS
  pub only_when_over : (ms : ℕ) (a : Answer) (q : Request) → (told w (mk su pr l (Phase.Waiting (Wait.Pause b t ms))) a).says ≡ Ask.Transfer q → a ≡ waited
  unfolding told
  only_when_over ms waited q e = refl
  only_when_over ms a q e = cc
