-- Laws of a set of worlds in a word.
use Prim.Native.Nat.{ℕ, zero, suc, ◌+◌, ◌-◌, ◌*◌, ◌/◌, ◌%◌, ◌^◌, ◌≤◌, ◌<◌, min}
use mathlib.Core.Path.{◌≡◌, refl, sym, ap, ap₂, ◌∙◌}
use mathlib.Core.Bool.{Bool, true, false, cond, ◌&&◌, and-false}
use mathlib.Core.List.{List, [], ◌∷◌, map}
use native.Mathlib.Numerals.{add-one}
use native.Mathlib.Omega.{arith}
use lib.Bits.{bit_and, and_step, and_self}
use lib.Count.{count_trailing_zeros, under}
use lib.Dec.{eqb, ltb}
use lib.ListN.{length}
use lib.Pow.{shr_lt}
use borrow.Author.Tests.{lt-ltb, le-ltb, ltb-true, eqb-true}
use Rattle.definition.specs.Lists.{filter, below, up_from, elem}
use Rattle.definition.proofs.Basics.Lists.{and_left, and_right, and_both, same_both, elem_each, each_filter, below_each, among_elem, among_filter, among_from}
use Rattle.bits.specs.Bits.{bit_of}
use Rattle.bits.specs.Worlds.{set_below, worlds_in}
use Rattle.bits.proofs.Words.{no_bit, bit_zero, bit_suc}

-- ---- the worlds by a test of each number
filter_as : (p q : ℕ → Bool) (m j : ℕ) → ((k : ℕ) → j ≤ k → k < j + m → p k ≡ q k) → filter p (up_from m j) ≡ filter q (up_from m j)
filter_as p q zero j h = refl
filter_as p q (suc m) j h = rw (h j (omega arith) (omega arith)) (ap (λ (l : List ℕ). cond (q j) (j ∷ l) l) (filter_as p q m (suc j) (λ k l u. h k (omega (arith, l)) (omega (arith, u)))))

filter_none : (m j : ℕ) → filter (λ _. false) (up_from m j) ≡ []
filter_none zero j = refl
filter_none (suc m) j = filter_none m (suc j)

-- of those below n, with more numbers at the end that do not pass
filter_part : (p q : ℕ → Bool) (n m d j : ℕ) → n ≡ j + d → d ≤ m → ((k : ℕ) → k < j + m → p k ≡ (ltb k n && q k)) → filter p (up_from m j) ≡ filter q (up_from d j)
filter_part p q n m zero j e f h = filter_as p (λ _. false) m j (λ k l u. h k u ∙ rw (le-ltb k n (omega (arith, e, l))) refl) ∙ filter_none m j
filter_part p q n zero (suc d) j e f h = absurd (omega (arith, f))
filter_part p q n (suc m) (suc d) j e f h =
    rw (h j (omega arith), lt-ltb j n (omega (arith, e)))
    (ap (λ (l : List ℕ). cond (q j) (j ∷ l) l) (filter_part p q n m d (suc j) (omega (arith, e)) (omega (arith, f)) (λ k u. h k (omega (arith, u)))))

pub worlds_as : (q : ℕ → Bool) (word n : ℕ) → n ≤ 32 → ((k : ℕ) → k < 32 → bit_of word k ≡ (ltb k n && q k)) → worlds_in word ≡ filter q (below n)
unfolding worlds_in set_below
worlds_as q word n few h = filter_part (bit_of word) q n 32 n 0 (omega arith) few h

-- a number is one of the worlds where its bit is set
set_elem : (word y n : ℕ) → (ltb y n && bit_of word y) ≡ elem y (set_below n word)
unfolding set_below
set_elem word y n = same_both (ltb y n && bit_of word y) (elem y (filter (bit_of word) (below n))) there back
  where
    there : (ltb y n && bit_of word y) ≡ true → elem y (filter (bit_of word) (below n)) ≡ true
    there h =
        let low : y < n = ltb-true y n (and_left (ltb y n) (bit_of word y) h) in
        among_elem y (filter (bit_of word) (below n)) (among_filter (bit_of word) y (below n) (and_right (ltb y n) (bit_of word y) h) (among_from n 0 y (omega arith) (omega (arith, low))))

    back : elem y (filter (bit_of word) (below n)) ≡ true → (ltb y n && bit_of word y) ≡ true
    back h =
        let k = elem_each (λ x. (x < n) × (bit_of word x ≡ true)) y (filter (bit_of word) (below n)) h (each_filter (λ x. x < n) (bit_of word) (below n) (below_each n)) in
        and_both (ltb y n) (bit_of word y) (lt-ltb y n k.0) k.1

pub worlds_elem : (word y : ℕ) → (ltb y 32 && bit_of word y) ≡ elem y (worlds_in word)
unfolding worlds_in
worlds_elem word y = set_elem word y 32

-- a word without a bit
pub worlds_none : worlds_in 0 ≡ []
worlds_none = worlds_as (λ _. false) 0 0 (omega arith) (λ k h. no_bit k ∙ sym (and-false (ltb k 0)))

pub no_worlds : (word : ℕ) → eqb word 0 ≡ true → worlds_in word ≡ []
no_worlds word e = rw (eqb-true word 0 e) worlds_none

-- ---- the first world, digit by digit
filter_suc : (p : ℕ → Bool) (m j : ℕ) → filter p (up_from m (suc j)) ≡ map suc (filter (λ i. p (suc i)) (up_from m j))
filter_suc p zero j = refl
filter_suc p (suc m) j = go (p (suc j)) (filter_suc p m (suc j))
  where
    go : (b : Bool) → filter p (up_from m (suc (suc j))) ≡ map suc (filter (λ i. p (suc i)) (up_from m (suc j)))
        → cond b (suc j ∷ filter p (up_from m (suc (suc j)))) (filter p (up_from m (suc (suc j)))) ≡ map suc (cond b (j ∷ filter (λ i. p (suc i)) (up_from m (suc j))) (filter (λ i. p (suc i)) (up_from m (suc j))))
    go true e = ap (λ (l : List ℕ). suc j ∷ l) e
    go false e = e

-- the worlds of all but the lowest digit, and that digit
later : (m n : ℕ) → filter (bit_of n) (up_from m 1) ≡ map suc (set_below m (n / 2))
unfolding set_below
later m n = filter_suc (bit_of n) m 0 ∙ ap (map suc) (filter_as (λ i. bit_of n (suc i)) (bit_of (n / 2)) m 0 (λ k l u. bit_suc n k))

set_odd : (m n : ℕ) → n % 2 ≡ 1 → set_below (suc m) n ≡ 0 ∷ map suc (set_below m (n / 2))
unfolding set_below
set_odd m n e = rw (bit_zero n, e) (ap (λ (l : List ℕ). 0 ∷ l) (later m n))

set_even : (m n : ℕ) → n % 2 ≡ 0 → set_below (suc m) n ≡ map suc (set_below m (n / 2))
unfolding set_below
set_even m n e = rw (bit_zero n, e) (later m n)

-- a number without its lowest set digit, by its own lowest digit
module _ (m n : ℕ) (some : 0 < n) where
  abbrev half : ℕ
  half = n / 2

  abbrev rest : ℕ
  rest = bit_and n (n - 1)

  first_odd : n % 2 ≡ 1 → set_below (suc m) n ≡ count_trailing_zeros (suc m) n ∷ set_below (suc m) rest
  unfolding count_trailing_zeros
  first_odd e =
      let d : (n - 1) / 2 ≡ half = omega (arith, e, some) in
      let s : rest ≡ half * 2 + min (n % 2) ((n - 1) % 2) = and_step n (n - 1) ∙ ap (λ (z : ℕ). z * 2 + min (n % 2) ((n - 1) % 2)) (ap (bit_and half) d ∙ and_self half) in
      let z : rest % 2 ≡ 0 = omega (arith, s, e, some) in
      let q : rest / 2 ≡ half = omega (arith, s, e, some) in
      set_odd m n e ∙ ap₂ (λ (v : ℕ) (l : List ℕ). v ∷ l) (sym (ap (λ (d : ℕ). under d (count_trailing_zeros m half)) e)) (sym (set_even m rest z ∙ ap (λ (v : ℕ). map suc (set_below m v)) q))

  first_even : n % 2 ≡ 0 → (0 < half → set_below m half ≡ count_trailing_zeros m half ∷ set_below m (bit_and half (half - 1))) → set_below (suc m) n ≡ count_trailing_zeros (suc m) n ∷ set_below (suc m) rest
  unfolding count_trailing_zeros
  first_even e first =
      let d : (n - 1) / 2 ≡ half - 1 = omega (arith, e, some) in
      let s : rest ≡ bit_and half (half - 1) * 2 + min (n % 2) ((n - 1) % 2) = and_step n (n - 1) ∙ ap (λ (z : ℕ). bit_and half z * 2 + min (n % 2) ((n - 1) % 2)) d in
      let z : rest % 2 ≡ 0 = omega (arith, s, e, some) in
      let q : rest / 2 ≡ bit_and half (half - 1) = omega (arith, s, e, some) in
      set_even m n e ∙ ap (map suc) (first (omega (arith, e, some)))
      ∙ ap₂ (λ (v : ℕ) (l : List ℕ). v ∷ l) (sym (ap (λ (d : ℕ). under d (count_trailing_zeros m half)) e)) (sym (set_even m rest z ∙ ap (λ (v : ℕ). map suc (set_below m v)) q))

set_first : (m n : ℕ) → 0 < n → n < 2 ^ m → set_below m n ≡ count_trailing_zeros m n ∷ set_below m (bit_and n (n - 1))
set_first zero n some low = absurd (omega (arith, some, low))
set_first (suc m) n some low = go (n % 2) refl (λ pos. set_first m (n / 2) pos (shr_lt m 1 (rw add-one low)))
  where
    go : (d : ℕ) → n % 2 ≡ d → (0 < n / 2 → set_below m (n / 2) ≡ count_trailing_zeros m (n / 2) ∷ set_below m (bit_and (n / 2) (n / 2 - 1)))
        → set_below (suc m) n ≡ count_trailing_zeros (suc m) n ∷ set_below (suc m) (bit_and n (n - 1))
    go zero e first = first_even m n some e first
    go (suc zero) e first = first_odd m n some e
    go (suc (suc d)) e first = absurd (omega (arith, e))

pub worlds_first : (word : ℕ) → 0 < word → word < 2 ^ 32 → worlds_in word ≡ count_trailing_zeros 32 word ∷ worlds_in (bit_and word (word - 1))
unfolding worlds_in
worlds_first word some low = set_first 32 word some low

pub worlds_fewer : (word : ℕ) → 0 < word → word < 2 ^ 32 → length (worlds_in (bit_and word (word - 1))) < length (worlds_in word)
worlds_fewer word some low = omega (arith, ap length (worlds_first word some low))
