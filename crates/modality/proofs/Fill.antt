-- Loops that list the elements of a list which pass a test.
use Prim.Native.Nat.{ℕ, ◌+◌, ◌<◌, ◌≤◌}
use mathlib.Core.Path.{◌≡◌, sym, ap, ◌∙◌}
use mathlib.Core.Bool.{Bool, true, false}
use mathlib.Core.List.{List, [], ◌∷◌, ◌++◌, append_assoc, append-nil}
use lib.ListN.{length, get_or, take}
use Rattle.arrays.specs.Listed.{Listed}
use Rattle.definition.specs.Lists.{filter}
use Rattle.tree.proofs.Paths.{listed_as}
use Rattle.modality.proofs.Lists.{kept_next, kept_all}

module _ (p : ℕ → Bool) (xs l : List ℕ) where
  module _ (j x : ℕ) (h : j < length xs) (e : x ≡ get_or xs j 0) {n : ℕ} {a : List ℕ} (inv : Listed (l ++ filter p (take j xs)) n a) where
    pub fill_kept : {m : ℕ} {c : List ℕ} → p x ≡ true → ((k : List ℕ) → Listed k n a → Listed (k ++ (x ∷ [])) m c) → Listed (l ++ filter p (take (j + 1) xs)) m c
    fill_kept q f =
        listed_as (l ++ filter p (take (j + 1) xs))
        (append_assoc l (filter p (take j xs)) (x ∷ []) ∙ ap (λ (v : List ℕ). l ++ v) (sym (kept_next p xs j x h e (sym q))))
        (f (l ++ filter p (take j xs)) inv)

    pub fill_left : p x ≡ false → Listed (l ++ filter p (take (j + 1) xs)) n a
    fill_left q =
        listed_as (l ++ filter p (take (j + 1) xs)) (ap (λ (v : List ℕ). l ++ v) (sym (kept_next p xs j x h e (sym q) ∙ append-nil (filter p (take j xs))))) inv

  pub fill_end : {n : ℕ} {a : List ℕ} (j : ℕ) → length xs ≤ j → Listed (l ++ filter p (take j xs)) n a → Listed (l ++ filter p xs) n a
  fill_end j h q = listed_as (l ++ filter p xs) (ap (λ (v : List ℕ). l ++ v) (kept_all p xs j h)) q
