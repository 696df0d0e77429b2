-- What `remove` leaves: the entries after the gap moved up, and a blank where the last one stood.
use Prim.Native.Nat.{ℕ, suc, ◌+◌, ◌-◌, ◌≤◌, ◌<◌}
use mathlib.Core.Path.{◌≡◌, ap, ◌∙◌}
use mathlib.Core.List.{List, ◌∷◌, ◌++◌}
use native.Mathlib.Numerals.{add-one}
use native.Mathlib.Omega.{arith}
use lib.ListN.{length, get_or, set, take, drop, replicate, length-drop, drop_of_length-le}
use lib.Seq.{take_at, set_at, take-append-le, drop-append-le, drop-cons}
use Rattle.std.specs.List.{copy_within}
use Rattle.arrays.specs.Data.{without}
use Rattle.arrays.specs.Table.{filled, Tabled, tabled}
use Rattle.arrays.proofs.Filled.{length_without}
use Rattle.arrays.proofs.Tabled.{tabled_counts, tabled_count, tabled_array}

module _ {A : Type 0} (room : ℕ) (none : A) (l : List A) (i : ℕ) (h : i < length l) (b : length l ≤ room) where
  -- what follows the list, the place that falls free with it
  cut : (m : ℕ) → suc m ≡ length l → (r : List A) → drop m (l ++ r) ≡ get_or l m none ∷ r
  cut m e r =
      drop-append-le m l r (omega arith) ∙ ap (λ (d : List A). d ++ r) (drop-cons l m none (omega arith) ∙ ap (λ (d : List A). get_or l m none ∷ d) (drop_of_length-le l {i = suc m} (omega arith)))

  -- the entries moved up, where r follows the list
  moved : (r : List A) → copy_within (l ++ r) (suc i) (length l) i ≡ without l i ++ (get_or l (length l - 1) none ∷ r)
  unfolding without
  moved r =
      let m : i + (length l - suc i) ≡ length l - 1 = omega arith in
      let e : length (drop (suc i) l) ≡ length l - suc i = length-drop (suc i) l in
      rw (m, take-append-le i l r (omega arith), drop-append-le (suc i) l r (omega arith), take_at (drop (suc i) l) r (length l - suc i) e)
      (ap (λ (d : List A). take i l ++ drop (suc i) l ++ d) (cut (length l - 1) (omega arith) r))

  pub closed : set (copy_within (filled room none l) (suc i) (length l) i) (length l - 1) none ≡ filled room none (without l i)
  unfolding filled
  closed =
      let s : length (without l i) + 1 ≡ length l = length_without l i h in
      let z : room - length (without l i) ≡ suc (room - length l) = omega arith in
      rw (moved (replicate (room - length l) none), z) (set_at (without l i) _ (replicate (room - length l) none) none (length l - 1) (omega arith))

pub gap_closed : {A : Type 0} {room : ℕ} {none : A} {l : List A} {n : ℕ} {a : List A} → Tabled room none l n a → n ≤ room → (i : ℕ) → i < n → (w : List A)
    → w ≡ copy_within a (i + 1) n i → Tabled room none (without l i) (n - 1) (set w (n - 1) none)
gap_closed {room = room} {none = none} {l = l} {n = n} p g i h w q =
    let e : length l ≡ n = tabled_count p g in
    let s : length (without l i) + 1 ≡ length l = length_without l i (omega arith) in
    tabled (tabled_counts p) (omega arith) (omega arith)
    (rw (q, tabled_array p g, add-one, ← e) (closed room none l i (omega arith) (omega arith)))
