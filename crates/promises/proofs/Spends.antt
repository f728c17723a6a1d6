-- What is left of the budget and what was sent make up the budget, whatever the work. Assumes nothing.
use Rattle.std.proofs.Common.{ℕ, suc, ◌+◌, arith, ◌≡◌, List, [], ◌∷◌, length, length-append, Result, Ok, Err}
use Rattle.promises.specs.Words.{Request, Setup, Todo, Work, Answer, Error}
use Rattle.promises.specs.Run.{Event, sends, World, tell, after, after_by, transfers}
use Rattle.promises.proofs.Steady.{KeptBy, Steady, tell_steady}

-- what is left and what was sent make up the budget
abbrev Adds : ℕ → ℕ → List Event → Type 0
Adds budget l h = l + length (transfers h) ≡ budget

one_more : (n l : ℕ) (h : List Event) (q : Request) → Adds n (suc l) h → Adds n l (sends q ∷ h)
unfolding transfers
one_more n l h q v = omega (arith, v, length-append (transfers h) (q ∷ []))

any_wish : (n : ℕ) (t : Result Todo Error) → KeptBy (Adds n) t
any_wish n (Ok (Todo.Send c then)) = λ l h v. one_more n l h _ v
any_wish n (Ok (Todo.End e)) = tt
any_wish n (Err e) = tt

adds : (n : ℕ) (w : Work) (su : Setup) → Steady (Adds n) w su
unfolding transfers
adds n w su = record {
  status = λ l h v. one_more n l h _ v;
  clear = λ l h v. one_more n l h _ v;
  wish = λ pr. any_wish n (w.next su pr);
  hear = λ l h st ms v. v;
  pause = λ l h ms v. v;
  resetting = λ l h v. v;
}

-- one told answer, in any world
pub tell_adds : (w : Work) (x : World) (a : Answer) (n : ℕ) → x.session.left + length (transfers x.past) ≡ n
    → (tell w x a).session.left + length (transfers (tell w x a).past) ≡ n
tell_adds w x a n v = tell_steady (Adds n) w x a (adds n w x.session.setup) v

pub run_adds : (w : Work) (x : World) (more : List Answer) (n : ℕ) → x.session.left + length (transfers x.past) ≡ n
    → (after w x more).session.left + length (transfers (after w x more).past) ≡ n
unfolding after_by
run_adds w x [] n v = v
run_adds w x (a ∷ more) n v = run_adds w (tell w x a) more n (tell_adds w x a n v)
