-- Laws of `filled` and `without`; rows one after the other.
use Prim.Native.Nat.{ℕ, zero, suc, ◌+◌, ◌-◌, ◌<◌}
use mathlib.Core.Path.{◌≡◌, refl, sym, ap, ◌∙◌}
use mathlib.Core.List.{List, [], ◌∷◌, ◌++◌, append_assoc, append-nil}
use native.Mathlib.Omega.{arith}
use lib.ListN.{length, get_or, set, replicate, length-append, length-take, length-drop}
use lib.Seq.{set_at, append_snoc}
use Rattle.definition.specs.Lists.{concat_map}
use Rattle.arrays.specs.Data.{without}
use Rattle.arrays.specs.Table.{filled}

module _ {A : Type 0} (none : A) where
  get_or_blanks : (k i : ℕ) → get_or (replicate k none) i none ≡ none
  get_or_blanks zero i = refl
  get_or_blanks (suc k) zero = refl
  get_or_blanks (suc k) (suc i) = get_or_blanks k i

  get_or_then_blanks : (l : List A) (k i : ℕ) → get_or (l ++ replicate k none) i none ≡ get_or l i none
  get_or_then_blanks [] k i = get_or_blanks k i
  get_or_then_blanks (x ∷ l) k zero = refl
  get_or_then_blanks (x ∷ l) k (suc i) = get_or_then_blanks l k i

  -- ---- filled
  pub get_or_filled : (n : ℕ) (l : List A) (i : ℕ) → get_or (filled n none l) i none ≡ get_or l i none
  unfolding filled
  get_or_filled n l i = get_or_then_blanks l (n - length l) i

  pub snoc_filled : (n : ℕ) (l : List A) (v : A) → length l < n → set (filled n none l) (length l) v ≡ filled n none (l ++ (v ∷ []))
  unfolding filled
  snoc_filled n l v h =
      let z : n - length l ≡ suc (n - (length l + 1)) = omega arith in
      let e : length (l ++ (v ∷ [])) ≡ length l + 1 = length-append l (v ∷ []) in
      ap (λ (k : ℕ). set (l ++ replicate k none) (length l) v) z
      ∙ set_at l none (replicate (n - (length l + 1)) none) v (length l) refl
      ∙ rw e (sym (append_snoc l v (replicate (n - (length l + 1)) none)))

-- ---- without
pub length_without : {A : Type 0} (l : List A) (i : ℕ) → i < length l → length (without l i) + 1 ≡ length l
unfolding without
length_without l i h = simp (length-append, length-take, length-drop) (omega arith)

-- ---- rows one after the other
module _ {A : Type 0} (row : A → List ℕ) where
  pub rows_snoc : (xs : List A) (x : A) → concat_map row (xs ++ (x ∷ [])) ≡ concat_map row xs ++ row x
  rows_snoc [] x = append-nil (row x)
  rows_snoc (y ∷ xs) x = ap (λ (l : List ℕ). row y ++ l) (rows_snoc xs x) ∙ sym (append_assoc (row y) (concat_map row xs) (row x))
