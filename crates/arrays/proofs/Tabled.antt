-- Laws of a list in a table.
use Prim.Native.Nat.{ℕ, ◌+◌, ◌-◌, ◌^◌, ◌≤◌, ◌<◌}
use mathlib.Core.Path.{◌≡◌, refl, ap, ◌∙◌}
use mathlib.Core.List.{List, [], ◌∷◌, ◌++◌}
use native.Mathlib.Numerals.{unary_clauses}
use native.Mathlib.Omega.{arith}
use lib.ListN.{length, get_or, set, replicate, length-append, get_or-append}
use Rattle.arrays.specs.Table.{filled, Tabled, tabled, too_many}
use Rattle.arrays.proofs.Filled.{get_or_filled, snoc_filled}

module _ {A : Type 0} {room : ℕ} {none : A} where
  pub tabled_none : room + 1 < 2 ^ 64 → Tabled room none [] 0 (replicate room none)
  unfolding filled
  tabled_none s = tabled s (omega arith) refl (simp unary_clauses refl)

  module _ {l : List A} {n : ℕ} {a : List A} where
    pub tabled_get : Tabled room none l n a → n ≤ room → (k : ℕ) → get_or a k none ≡ get_or l k none
    tabled_get (tabled s b e q) h k = ap (λ (b : List A). get_or b k none) q ∙ get_or_filled none room l k
    tabled_get (too_many s b e) h k = absurd (omega arith)

    -- an entry that is there, read with any default
    pub tabled_at : Tabled room none l n a → n ≤ room → (k : ℕ) (d : A) → k < n → get_or a k d ≡ get_or l k d
    unfolding filled
    tabled_at (tabled s b e q) h k d g = rw q (get_or-append l (replicate (room - length l) none) d k (omega arith))
    tabled_at (too_many s b e) h k d g = absurd (omega arith)

    pub tabled_push : (v : A) → Tabled room none l n a → n < room → Tabled room none (l ++ (v ∷ [])) (n + 1) (set a n v)
    tabled_push v (tabled s b e q) h =
        tabled s (omega arith) (omega (arith, length-append l (v ∷ []))) (rw (q, ← e) (snoc_filled none room l v (omega arith)))
    tabled_push v (too_many s b e) h = absurd (omega arith)

    pub tabled_counts : Tabled room none l n a → room + 1 < 2 ^ 64
    tabled_counts (tabled s b e q) = s
    tabled_counts (too_many s b e) = s

    -- the count is within the table if and only if the list is
    pub tabled_fits : Tabled room none l n a → length l ≤ room → n ≤ room
    tabled_fits (tabled s b e q) h = b
    tabled_fits (too_many s b e) h = absurd (omega arith)

    pub tabled_many : Tabled room none l n a → room < n → room < length l
    tabled_many (tabled s b e q) h = absurd (omega arith)
    tabled_many (too_many s b e) h = e

    pub tabled_exceeds : Tabled room none l n a → room < length l → room < n
    tabled_exceeds (tabled s b e q) h = absurd (omega arith)
    tabled_exceeds (too_many s b e) h = b

    pub tabled_count : Tabled room none l n a → n ≤ room → length l ≡ n
    tabled_count (tabled s b e q) h = e
    tabled_count (too_many s b e) h = absurd (omega arith)

    pub tabled_array : Tabled room none l n a → n ≤ room → a ≡ filled room none l
    tabled_array (tabled s b e q) h = q
    tabled_array (too_many s b e) h = absurd (omega arith)
