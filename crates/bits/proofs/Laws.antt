-- Laws of a set of numbers in an array of words.
use Prim.Native.Nat.{ℕ, ◌+◌, ◌-◌, ◌*◌, ◌/◌, ◌%◌, ◌≤◌, ◌<◌}
use mathlib.Core.Path.{◌≡◌, refl, ap, ◌∙◌}
use mathlib.Core.Bool.{Bool, true, false, not, ◌&&◌, ◌||◌}
use mathlib.Core.List.{List, ◌++◌}
use native.Mathlib.Omega.{arith}
use lib.ListN.{length, get_or, set, take, drop, replicate, length-set, length-append, length-replicate, get_or-append}
use Rattle.std.proofs.lemmas.List.{get_or-replicate, get_or-take, get_or-drop, get_or-append_right, length-take-le, length-drop}
use lib.Seq.{get_or-set_same, get_or-set_other}
use lib.Dec.{eqb, ltb}
use borrow.Author.Tests.{eqb-true, eqb-false, eq-eqb, ne_eqb, lt-ltb, ltb-true, ltb-false}
use Rattle.definition.specs.Limits.{most_identifiers}
use Rattle.limits.specs.Arrays.{row_words, leaf_count, leaf_words}
use Rattle.bits.specs.Bits.{bit_of, bit_at, Bits}
use Rattle.bits.proofs.Words.{no_bit}

pub bits_has : (p : ℕ → Bool) (a : List ℕ) (i : ℕ) → Bits p a → i < leaf_count → bit_of (get_or a (i / 32) 0) (i % 32) ≡ (ltb i leaf_count && p i)
unfolding bit_at
bits_has p a i b h = rw (lt-ltb i leaf_count h) (b.same i h)

-- no bit of the blank table is set
unset : (i n : ℕ) → i / 32 < n → bit_at (replicate n 0) i ≡ false
unfolding bit_at
unset i n h = rw (get_or-replicate {A = ℕ} n (i / 32) 0 0 h) (no_bit (i % 32))

pub bits_none : Bits (λ _. false) (replicate leaf_words 0)
bits_none = record { long = length-replicate {A = ℕ} leaf_words 0; same = λ i h. unset i leaf_words (omega arith) }

-- a word is stored
module _ (p q : ℕ → Bool) (a : List ℕ) (m v : ℕ) (b : Bits p a) (inside : m < leaf_words)
    (here : (j : ℕ) → j < leaf_count → j / 32 ≡ m → bit_of v (j % 32) ≡ q j)
    (elsewhere : (j : ℕ) → j < leaf_count → (j / 32 ≡ m → ⊥) → p j ≡ q j) where
  put_at : (j : ℕ) → j < leaf_count → (t : Bool) → eqb (j / 32) m ≡ t → bit_at (set a m v) j ≡ q j
  unfolding bit_at
  put_at j h true e =
      let s : j / 32 ≡ m = eqb-true (j / 32) m e in
      let l : m < length a = omega (arith, b.long) in
      ap (λ (x : ℕ). bit_of (get_or (set a m v) x 0) (j % 32)) s ∙ ap (λ (x : ℕ). bit_of x (j % 32)) (get_or-set_same a m v 0 l) ∙ here j h s
  put_at j h false e =
      let s : j / 32 ≡ m → ⊥ = eqb-false (j / 32) m e in
      ap (λ (x : ℕ). bit_of x (j % 32)) (get_or-set_other a m (j / 32) v 0 s) ∙ b.same j h ∙ elsewhere j h s

  bits_put : Bits q (set a m v)
  bits_put = record { long = length-set a m v ∙ b.long; same = λ j h. put_at j h (eqb (j / 32) m) refl }

-- ---- one number more
pub insert_in : (p : ℕ → Bool) (a : List ℕ) (i v : ℕ) → i < leaf_count
    → ((k : ℕ) → k < 32 → bit_of v k ≡ (eqb k (i % 32) || bit_of (get_or a (i / 32) 0) k))
    → Bits p a → Bits (λ j. eqb j i || p j) (set a (i / 32) v)
unfolding bit_at
insert_in p a i v r f b = bits_put p (λ j. eqb j i || p j) a (i / 32) v b (omega arith) here (λ j h e. rw (ne_eqb j i (λ s. e (ap (λ (x : ℕ). x / 32) s)))) where
  rests : (j : ℕ) → j / 32 ≡ i / 32 → (t : Bool) → eqb j i ≡ t → eqb (j % 32) (i % 32) ≡ eqb j i
  rests j e true s = rw s (eq-eqb (j % 32) (i % 32) (ap (λ (x : ℕ). x % 32) (eqb-true j i s)))
  rests j e false s = rw s (ne_eqb (j % 32) (i % 32) (λ m. eqb-false j i s (omega arith)))

  here : (j : ℕ) → j < leaf_count → j / 32 ≡ i / 32 → bit_of v (j % 32) ≡ (eqb j i || p j)
  here j h e =
      let w : bit_of (get_or a (i / 32) 0) (j % 32) ≡ p j = rw (← e) (b.same j h) in
      f (j % 32) (omega arith) ∙ rw (rests j e (eqb j i) refl, w)

-- ---- a row less: its words are zeros
module _ {p : ℕ → Bool} {a : List ℕ} (row : ℕ) (low : row < most_identifiers) (b : Bits p a) where
  abbrev start : ℕ
  start = row * row_words

  abbrev blank : List ℕ
  blank = replicate row_words 0

  abbrev emptied : List ℕ
  emptied = take start a ++ (blank ++ drop row_words (drop start a))

  before : length (take start a) ≡ start
  before = length-take-le start a (omega (arith, b.long))

  zeros : length blank ≡ row_words
  zeros = length-replicate {A = ℕ} row_words 0

  part : length (take row_words (drop start a)) ≡ row_words
  part = length-take-le row_words (drop start a) (omega (arith, length-drop start a, b.long))

  below : (i : ℕ) → i < start → get_or emptied i 0 ≡ get_or a i 0
  below i h = get_or-append (take start a) (blank ++ drop row_words (drop start a)) 0 i (omega (arith, before)) ∙ get_or-take start a i 0 h

  within : (i : ℕ) → start ≤ i → i < start + row_words → get_or emptied i 0 ≡ 0
  within i h k =
      get_or-append_right (take start a) (blank ++ drop row_words (drop start a)) start i 0 before h
      ∙ get_or-append blank (drop row_words (drop start a)) 0 (i - start) (omega (arith, zeros))
      ∙ get_or-replicate {A = ℕ} row_words (i - start) 0 0 (omega arith)

  beyond : (i : ℕ) → start + row_words ≤ i → get_or emptied i 0 ≡ get_or a i 0
  beyond i h =
      let e : start + (row_words + (i - start - row_words)) ≡ i = omega arith in
      get_or-append_right (take start a) (blank ++ drop row_words (drop start a)) start i 0 before (omega arith)
      ∙ get_or-append_right blank (drop row_words (drop start a)) row_words (i - start) 0 zeros (omega arith)
      ∙ get_or-drop row_words (drop start a) (i - start - row_words) 0
      ∙ get_or-drop start a (row_words + (i - start - row_words)) 0
      ∙ ap (λ (k : ℕ). get_or a k 0) e

  pub row_cleared : {words : List ℕ} {k : ℕ} → k ≡ row_words → words ≡ replicate (length (take k (drop start a))) 0 → Bits (λ j. not (eqb (j / most_identifiers) row) && p j) (take start a ++ (words ++ drop k (drop start a)))
  unfolding bit_at
  row_cleared q e = rw (e, q, part) (record { long = long; same = λ j h. same j h (eqb (j / most_identifiers) row) refl })
    where
      long : length emptied ≡ leaf_words
      long = omega (arith, length-append (take start a) (blank ++ drop row_words (drop start a)), length-append blank (drop row_words (drop start a)), before, zeros, length-drop row_words (drop start a), length-drop start a, b.long)

      same : (j : ℕ) → j < leaf_count → (t : Bool) → eqb (j / most_identifiers) row ≡ t → bit_at emptied j ≡ (not (eqb (j / most_identifiers) row) && p j)
      same j h true e =
          let r : j / most_identifiers ≡ row = eqb-true (j / most_identifiers) row e in
          rw (e, within (j / 32) (omega arith) (omega arith)) (no_bit (j % 32))
      same j h false e = rw e (out (ltb (j / 32) start) refl) where
        out : (u : Bool) → ltb (j / 32) start ≡ u → bit_of (get_or emptied (j / 32) 0) (j % 32) ≡ p j
        out true u = rw (below (j / 32) (ltb-true (j / 32) start u)) (b.same j h)
        out false u =
            let apart : j / most_identifiers ≡ row → ⊥ = eqb-false (j / most_identifiers) row e in
            let past : start ≤ j / 32 = ltb-false (j / 32) start u in
            rw (beyond (j / 32) (omega arith)) (b.same j h)
