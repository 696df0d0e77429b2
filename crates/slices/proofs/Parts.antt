-- A loop that writes a list's elements, f's numbers for each.
use Prim.Native.Nat.{ℕ, ◌+◌, ◌*◌, ◌≤◌, ◌<◌}
use mathlib.Core.Path.{◌≡◌, refl}
use mathlib.Core.List.{List, ◌++◌}
use native.Mathlib.Omega.{arith}
use native.Mathlib.Numerals.{add-one}
use lib.ListN.{length, get_or, drop, drop_of_length-le}
use lib.Seq.{drop-cons}
use Rattle.definition.specs.Lists.{concat_map}
use Rattle.definition.proofs.Call.Trays.{length_parts}
use Rattle.slices.specs.Written.{Written, Puts}
use Rattle.slices.proofs.Writing.{Writing, written_none, writing_start, writing_next, writing_end}

-- the first i elements are written
abbrev pub Parts : {A : Type 0} → (A → List ℕ) → List A → List ℕ → ℕ → ℕ → List ℕ → Type 0
Parts f xs lent i at slice = Writing (concat_map f xs) (concat_map f (drop i xs)) lent at slice

module _ {A : Type 0} (f : A → List ℕ) (k : ℕ) (size : (x : A) → length (f x) ≡ k) where
  module _ (xs : List A) (lent : List ℕ) where
    pub parts_start : Parts f xs lent 0 0 lent
    parts_start = writing_start (concat_map f xs) (written_none lent) refl

    module _ (i : ℕ) {at : ℕ} {t : List ℕ} (p : Parts f xs lent i at t) where
      pub parts_next : {next : ℕ} {u : List ℕ} (d : A) → k * length xs ≤ length lent → i < length xs → Puts (f (get_or xs i d)) at t next u → Parts f xs lent (i + 1) next u
      parts_next d room h q =
          let e : concat_map f (drop i xs) ≡ f (get_or xs i d) ++ concat_map f (drop (i + 1) xs) = rw (add-one, drop-cons xs i d h) in
          writing_next p q e (omega (arith, length_parts k f size xs))

      pub parts_end : length xs ≤ i → Written lent (concat_map f xs) at t
      parts_end h = writing_end p (rw (drop_of_length-le xs {i = i} h))
