-- Laws of `Tells`: no text, one text behind another, a text for each number. Assumes nothing.
use Rattle.std.proofs.Common.{◌≡◌, ℕ, ◌+◌, ◌<◌, ◌≤◌, List, [], ◌∷◌, ◌++◌, length, take, get_or, Option, set, Result, Ok, Err, IsErr, sym, refl, ap, ◌∙◌, arith}
use Rattle.std.specs.Io.KnownBytes.{Appends}
use Rattle.cases.specs.Output.{Filled, filled, puts, Tells, joined}
use Rattle.std.proofs.Math.Seq.{take_all}
use Rattle.cases.proofs.Puts as puts_law
use Rattle.cases.proofs.Begins as begins
use Rattle.cases.proofs.Rooms as rooms
use Rattle.cases.proofs.Tells as tells

-- a text is a text for each of its bytes
pub each : (s : List ℕ) → joined (λ b. b ∷ []) s ≡ s
unfolding joined
each [] = refl
each (b ∷ s) = ap (λ (t : List ℕ). b ∷ t) (each s)

module _ {E : Type 0} where
  pub silent : (a : Option (List ℕ)) (f : Filled) → Tells {E = E} a f a f [] (Ok tt)
  unfolding puts
  silent a f = record { held = refl; room = λ _. refl; whole = tells.silent a f; begun = tt }

  -- one text behind another
  pub then : (a b c : Option (List ℕ)) (f g h : Filled) (s t : List ℕ) (r : Result (Unit {0}) E)
      → Tells {E = E} a f b g s (Ok tt) → Tells b g c h t r → Tells a f c h (s ++ t) r
  then a b c f g h s t (Ok u) p q = record {
    held = q.held ∙ ap (λ (x : Filled). puts x t) p.held ∙ sym (puts_law.both f s t);
    room = λ _. refl;
    whole = tells.both a b c f g h s t p.whole q.whole;
    begun = tt;
  }
  then a b c f g h s t (Err e) p q = record {
    held = tt;
    room = λ n. q.room (rooms.behind f g s t p.held n);
    whole = tt;
    begun = begins.behind f g h s t p.held q.begun;
  }

  -- an error: it is another's, of a text that was cut off, the front of a longer one
  pub failed : (a b : Option (List ℕ)) (f g : Filled) (s : List ℕ) (e : E) (r : Result (Unit {0}) E) → IsErr r → Tells a f b g s (Err e) → Tells a f b g s r
  failed a b f g s e (Ok u) i p = absurd (let z = i in cc)
  failed a b f g s e (Err d) i p = record { held = tt; room = λ n. absurd (let z = p.room n in cc); whole = tt; begun = p.begun }

  pub cut : (a b : Option (List ℕ)) (f g : Filled) (s t : List ℕ) (e : E) → Tells a f b g s (Err e) → Tells {E = E} a f b g (s ++ t) (Err e)
  cut a b f g s t e p = record {
    held = tt;
    room = λ n. absurd (let z = p.room (rooms.front f s t n) in cc);
    whole = tt;
    begun = begins.in_front f g s t p.begun;
  }

  pub same : (a b : Option (List ℕ)) (f g : Filled) (s t : List ℕ) (r : Result (Unit {0}) E) → s ≡ t → Tells a f b g s r → Tells a f b g t r
  same a b f g s t r e p = rw (← e) p

  -- a text for each of several: of one more, cut off in one, and of all
  module _ (text : ℕ → List ℕ) (a b c : Option (List ℕ)) (f g h : Filled) (xs : List ℕ) (i : ℕ) where
    pub more : i < length xs → Tells {E = E} a f b g (joined text (take i xs)) (Ok tt) → Tells {E = E} b g c h (text (get_or xs i 0)) (Ok tt)
        → Tells {E = E} a f c h (joined text (take (i + 1) xs)) (Ok tt)
    more k p q = same a c f h _ _ (Ok tt) (sym (begins.up_to text xs i k)) (then a b c f g h (joined text (take i xs)) (text (get_or xs i 0)) (Ok tt) p q)

    pub broken : (e : E) → i < length xs → Tells {E = E} a f b g (joined text (take i xs)) (Ok tt) → Tells b g c h (text (get_or xs i 0)) (Err e)
        → Tells {E = E} a f c h (joined text xs) (Err e)
    broken e k p q =
        same a c f h _ _ (Err e) (begins.from text xs i k)
        (then a b c f g h (joined text (take i xs)) _ (Err e) p (cut b c g h (text (get_or xs i 0)) _ e q))

  pub all : (text : ℕ → List ℕ) (a b : Option (List ℕ)) (f g : Filled) (xs : List ℕ) (i : ℕ) → length xs ≤ i
      → Tells {E = E} a f b g (joined text (take i xs)) (Ok tt) → Tells {E = E} a f b g (joined text xs) (Ok tt)
  all text a b f g xs i k p = same a b f g _ _ (Ok tt) (ap (joined text) (take_all i xs k)) p

  -- one byte: into a buffer with room, into one that was written out, and into one of no bytes; and one that wasn't taken
  pub fits : (a : Option (List ℕ)) (out : List ℕ) (at b : ℕ) → at < length out → Tells {E = E} a (filled out at) a (filled (set out at b) (at + 1)) (b ∷ []) (Ok tt)
  fits a out at b h = record { held = puts_law.fits out at b h ∙ puts_law.one (filled out at) b; room = λ _. refl; whole = tells.fits a out at b h; begun = tt }

  module _ (a c : Option (List ℕ)) (out : List ℕ) (at b : ℕ) where
    pub anew : length out ≤ at → 0 < length out → (at ≤ length out → Appends a c (take at out)) → Tells {E = E} a (filled out at) c (filled (set out 0 b) 1) (b ∷ []) (Ok tt)
    anew h k w = record {
      held = puts_law.full out at b h k ∙ puts_law.one (filled out at) b;
      room = λ _. refl;
      whole = tells.written a c out at b k w;
      begun = tt;
    }

    pub without : length out ≤ at → length out ≤ 0 → Tells {E = E} a (filled out at) c (filled out 0) (b ∷ []) (Ok tt)
    without h k = record {
      held = puts_law.without out at b h k ∙ puts_law.one (filled out at) b;
      room = λ _. refl;
      whole = tells.roomless a c (filled out at) (filled out 0) (b ∷ []) k;
      begun = tt;
    }

    pub untaken : (r : Result (Unit {0}) E) → IsErr r → length out ≤ at → (length out < at → ⊥) → Tells {E = E} a (filled out at) c (filled out at) (b ∷ []) r
    untaken (Ok u) i h k = absurd (let z = i in cc)
    untaken (Err d) i h k = record { held = tt; room = λ n. absurd (n.0 (omega arith)); whole = tt; begun = begins.not_yet (filled out at) (filled out at) (b ∷ []) refl }
