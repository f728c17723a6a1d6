-- Laws of `numbers_at`: how the reader of numbers in a row goes. Assumes nothing.
use Prim.Native.Nat.{ℕ, ◌+◌, ◌<◌, ◌≤◌}
use mathlib.Core.Path.{◌≡◌, sym, ap, ◌∙◌}
use mathlib.Core.List.{List, [], ◌∷◌, ◌++◌}
use native.Mathlib.Numerals.{add-one}
use lib.ListN.{length, take, drop, get_or, set, length-set, drop_of_length-le, take-append-drop}
use lib.Seq.{drop-cons}
use Rattle.cases.specs.Words.{amount, number_at, Stored, stored, numbers_at}
use Rattle.std.specs.Prelude.{Some, None}
use Rattle.std.proofs.Common.{⊎_elim}
use Rattle.ground.proofs.Tests.{lt_or_ge}
use Rattle.cases.proofs.Rows.{more, later, whole}

-- values in front of what the rest gives
abbrev pub front : List ℕ → Stored → Stored
front vs s = stored s.answer (vs ++ s.values)

-- i numbers were read and stand in front: the rest is read as the whole is
abbrev pub So : List ℕ → ℕ → List ℕ → List ℕ → List ℕ → ℕ → ℕ → Type 0
So line at ms vs₀ vs from i =
    (length vs ≡ length vs₀) × (front (take i vs) (numbers_at line from (drop i ms) (drop i vs)) ≡ numbers_at line at ms vs₀)

module _ (line : List ℕ) (at : ℕ) (ms vs₀ vs : List ℕ) (from i : ℕ) (s : So line at ms vs₀ vs from i) where
  pub done : length ms ≤ i → stored (Some from) vs ≡ numbers_at line at ms vs₀
  unfolding numbers_at
  done h =
      ap (stored (Some from)) (sym (take-append-drop i vs))
      ∙ ap (λ (t : List ℕ). front (take i vs) (numbers_at line from t (drop i vs))) (sym (drop_of_length-le ms h))
      ∙ s.1

  module _ (h : i < length ms) where
    pub full : length vs ≤ i → stored None vs ≡ numbers_at line at ms vs₀
    unfolding numbers_at
    full f =
        ap (stored None) (sym (whole vs i f))
        ∙ ap (λ (t : List ℕ). front (take i vs) (numbers_at line from t [])) (sym (drop-cons ms i 0 h))
        ∙ ap (λ (t : List ℕ). front (take i vs) (numbers_at line from (drop i ms) t)) (sym (drop_of_length-le vs f))
        ∙ s.1

    module _ (k : i < length vs) where
      failed : number_at line from (get_or ms i 0) ≡ None → numbers_at line from (drop i ms) (drop i vs) ≡ stored None (drop i vs)
      unfolding numbers_at
      failed e = rw (drop-cons ms i 0 h, drop-cons vs i 0 k, e)

      pub bad : number_at line from (get_or ms i 0) ≡ None → stored None vs ≡ numbers_at line at ms vs₀
      bad e = ap (stored None) (sym (take-append-drop i vs)) ∙ ap (front (take i vs)) (sym (failed e)) ∙ s.1

      module _ (x end : ℕ) (e : number_at line from (get_or ms i 0) ≡ Some (amount x end)) where
        abbrev rest : Stored
        rest = numbers_at line end (drop (i + 1) ms) (drop (i + 1) vs)

        step : numbers_at line from (drop i ms) (drop i vs) ≡ stored rest.answer (x ∷ rest.values)
        unfolding numbers_at
        step = rw (add-one, drop-cons ms i 0 h, drop-cons vs i 0 k, e)

        pub onward : So line at ms vs₀ (set vs i x) end (i + 1)
        onward = (
          length-set vs i x ∙ s.0,
          ap (λ (t : List ℕ). front (take (i + 1) (set vs i x)) (numbers_at line end (drop (i + 1) ms) t)) (later vs i x)
              ∙ ap (stored rest.answer) (more vs i x rest.values k)
              ∙ ap (front (take i vs)) (sym step)
              ∙ s.1,
        )

-- a number that is bad, whether or not there is room for it
pub refused : (line : List ℕ) (at : ℕ) (ms vs₀ vs : List ℕ) (from i : ℕ) (s : So line at ms vs₀ vs from i) → i < length ms → number_at line from (get_or ms i 0) ≡ None
    → stored None vs ≡ numbers_at line at ms vs₀
refused line at ms vs₀ vs from i s h e =
    ⊎_elim (λ k. bad line at ms vs₀ vs from i s h k e) (λ f. full line at ms vs₀ vs from i s h f) (lt_or_ge i (length vs))
