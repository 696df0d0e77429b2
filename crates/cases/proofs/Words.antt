-- Loops over the bytes of a line and of a word.
use mathlib.Core.Path.{◌≡◌, refl, sym, ap, ◌∙◌}
use mathlib.Core.Bool.{Bool, true, false, cond, not, ◌||◌}
use mathlib.Core.List.{List, [], ◌∷◌}
use mathlib.Core.Logic.{◌⊎◌, inl, inr}
use Prim.Native.Nat.{ℕ, suc, ◌+◌, ◌-◌, ◌*◌, ◌≤◌, ◌<◌, min}
use native.Mathlib.Numerals.{add-one}
use native.Mathlib.Omega.{arith}
use lib.Dec.{eqb, ltb}
use lib.ListN.{length, get_or, drop, take, drop_of_length-le, length-drop}
use lib.Seq.{drop-cons, take_all}
use borrow.Author.Tests.{eq-eqb, ne_eqb, lt-ltb, le-ltb, ltb-true, ltb-false}
use Rattle.std.specs.Prelude.{Option, Some, None, option_and_then, unwrap_or}
use Rattle.std.specs.List.{position, position_or_len}
use Rattle.definition.specs.Lists.{empty}
use Rattle.cases.specs.Bytes.{word, end_of, start_of, word_at, hex_digit, decimal_next, decimal_after, number_of}

-- ---- where a word ends
word_length : (xs : List ℕ) → length (word xs) ≤ length xs
unfolding word
word_length [] = omega arith
word_length (x ∷ xs) = go (eqb x 32) (word_length xs) where
  go : (b : Bool) → length (word xs) ≤ length xs → length (cond b [] (x ∷ word xs)) ≤ suc (length xs)
  go true h = omega arith
  go false h = omega arith

prefix_word : (xs : List ℕ) → position_or_len (λ b. eqb b 32) xs ≡ length (word xs)
unfolding word
prefix_word [] = refl
prefix_word (x ∷ xs) = go (eqb x 32) (prefix_word xs) where
  go : (b : Bool) → position_or_len (λ y. eqb y 32) xs ≡ length (word xs) → cond (not b) (1 + position_or_len (λ y. eqb y 32) xs) 0 ≡ length (cond b [] (x ∷ word xs))
  go true h = refl
  go false h = omega (arith, h)

-- the first space, or the end
word_end : (xs : List ℕ) → unwrap_or (position (λ b. eqb b 32) xs) (length xs) ≡ length (word xs)
word_end xs = go (ltb (position_or_len (λ b. eqb b 32) xs) (length xs)) refl where
  go :
      (t : Bool) →
      ltb (position_or_len (λ b. eqb b 32) xs) (length xs) ≡ t →
      unwrap_or (cond t (Some (position_or_len (λ b. eqb b 32) xs)) None) (length xs) ≡ length (word xs)
  go true e = prefix_word xs
  go false e = omega (arith, prefix_word xs, word_length xs, ltb-false _ _ e)

pub rest_of : (line : List ℕ) (at : ℕ) → take (length line - at) (drop at line) ≡ drop at line
rest_of line at = take_all (length line - at) (drop at line) (omega (arith, length-drop at line))

pub drop_min : (line : List ℕ) (from : ℕ) {n : ℕ} → n ≡ min from (length line) → take (length line - n) (drop n line) ≡ drop from line
drop_min line from {n} e = rest_of line n ∙ go (ltb from (length line)) refl where
  go : (t : Bool) → ltb from (length line) ≡ t → drop n line ≡ drop from line
  go true q = let z : n ≡ from = omega (arith, ltb-true from (length line) q) in ap (λ (k : ℕ). drop k line) z
  go false q =
      let f : length line ≤ from = ltb-false from (length line) q in
      let g : length line ≤ n = omega arith in
      drop_of_length-le line {i = n} g ∙ sym (drop_of_length-le line {i = from} f)

pub ends_word : (line rest : List ℕ) (from : ℕ) {p : Option ℕ} {r : ℕ} → rest ≡ drop from line → p ≡ position (λ b. eqb b 32) rest → r ≡ unwrap_or p (length rest) → from + r ≡ end_of line from
unfolding end_of
ends_word line rest from e h k = ap (λ (n : ℕ). from + n) (k ∙ rw (h, e) (word_end (drop from line)))

take_word : (xs : List ℕ) → take (length (word xs)) xs ≡ word xs
unfolding word
take_word [] = refl
take_word (x ∷ xs) = go (eqb x 32) (take_word xs) where
  go : (b : Bool) → take (length (word xs)) xs ≡ word xs → take (length (cond b [] (x ∷ word xs))) (x ∷ xs) ≡ cond b [] (x ∷ word xs)
  go true h = refl
  go false h = ap (λ (ys : List ℕ). x ∷ ys) h

start_within : (line : List ℕ) (k : ℕ) → start_of line k ≤ length line
unfolding start_of
start_within [] k = omega arith
start_within (b ∷ bs) k = go (eqb k 0) (start_within bs (k - cond (eqb b 32) 1 0)) where
  go : (t : Bool) → start_of bs (k - cond (eqb b 32) 1 0) ≤ length bs → cond t 0 (suc (start_of bs (k - cond (eqb b 32) 1 0))) ≤ suc (length bs)
  go true h = omega arith
  go false h = omega (arith, h)

-- word k, by its two ends
module _ (line : List ℕ) (k : ℕ) {from to : ℕ} (s : from ≡ start_of line k) (e : to ≡ end_of line from) where
  pub word_start : from ≤ length line
  word_start = omega (arith, start_within line k)

  pub word_from_to : (from ≤ to) × (to ≤ length line)
  unfolding end_of
  word_from_to = (omega arith, omega (arith, word_start, word_length (drop from line), length-drop from line))

  pub word_is : take (to - from) (drop from line) ≡ word_at line k
  unfolding word_at end_of
  word_is = let z : to - from ≡ length (word (drop from line)) = omega arith in rw (z, ← s) (take_word (drop from line))

-- ---- the bytes before i have so many spaces, and at most k
pub record Starting (line : List ℕ) (k spaces i : ℕ) : Type 0 where
  pub few : spaces ≤ k
  pub left : i + start_of (drop i line) (k - spaces) ≡ start_of line k

module _ {line : List ℕ} {k spaces i : ℕ} (p : Starting line k spaces i) where
  pub starting_end : length line ≤ i → i ≡ start_of line k
  unfolding start_of
  starting_end h = let z : start_of (drop i line) (k - spaces) ≡ 0 = rw (drop_of_length-le line {i = i} h) in omega (arith, p.left)

  module _ (h : i < length line) where
    pub starting_found : spaces ≡ k → i ≡ start_of line k
    unfolding start_of
    starting_found e =
        let d : k - spaces ≡ 0 = omega arith in
        let z : start_of (drop i line) (k - spaces) ≡ 0 = rw (drop-cons line i 0 h, d) in
        omega (arith, p.left)

    starting_byte : (spaces ≡ k → ⊥) → start_of (drop i line) (k - spaces) ≡ suc (start_of (drop (suc i) line) (k - spaces - cond (eqb (get_or line i 0) 32) 1 0))
    unfolding start_of
    starting_byte e = rw (drop-cons line i 0 h, ne_eqb (k - spaces) 0 (λ z. e (omega (arith, p.few))))

    pub starting_next : (spaces ≡ k → ⊥) → (now : ℕ) → ((get_or line i 0 ≡ 32) × (now ≡ spaces + 1)) ⊎ ((get_or line i 0 ≡ 32 → ⊥) × (now ≡ spaces)) → Starting line k now (i + 1)
    starting_next e now (inl q) =
        let d : k - spaces - 1 ≡ k - now = omega arith in
        let z : start_of (drop i line) (k - spaces) ≡ suc (start_of (drop (suc i) line) (k - now))
        = starting_byte e ∙ rw (eq-eqb (get_or line i 0) 32 q.0, d) in
        record { few = omega (arith, p.few); left = rw add-one (omega (arith, p.left)) }
    starting_next e now (inr q) =
        let d : k - spaces - 0 ≡ k - now = omega arith in
        let z : start_of (drop i line) (k - spaces) ≡ suc (start_of (drop (suc i) line) (k - now))
        = starting_byte e ∙ rw (ne_eqb (get_or line i 0) 32 q.0, d) in
        record { few = omega (arith, p.few); left = rw add-one (omega (arith, p.left)) }

pub ruleset starting = (starting_end, starting_found, starting_next)

-- ---- decimal digits: n is read from those before i
pub record Summing (digits : List ℕ) (n i : ℕ) : Type 0 where
  pub left : decimal_after n (drop i digits) ≡ decimal_after 0 digits

module _ {digits : List ℕ} {n i : ℕ} (p : Summing digits n i) where
  pub summing_end : length digits ≤ i → Some n ≡ decimal_after 0 digits
  unfolding decimal_after
  summing_end h = sym (rw (drop_of_length-le digits {i = i} h)) ∙ p.left

  module _ (h : i < length digits) {d : Option ℕ} (e : d ≡ hex_digit (get_or digits i 0)) where
    step : option_and_then (λ m. decimal_after m (drop (suc i) digits)) (decimal_next n d) ≡ decimal_after 0 digits
    unfolding decimal_after
    step = rw e (sym (rw (drop-cons digits i 0 h)) ∙ p.left)

    pub summing_none : d ≡ None → None ≡ decimal_after 0 digits
    unfolding decimal_next
    summing_none q = sym (rw q) ∙ step

    module _ {k : ℕ} (q : d ≡ Some k) where
      summed : option_and_then (λ m. decimal_after m (drop (suc i) digits)) (cond (ltb 9 k || ltb 99999 n) None (Some (10 * n + k))) ≡ decimal_after 0 digits
      unfolding decimal_next
      summed = sym (rw q) ∙ step

      pub summing_letter : 9 < k → None ≡ decimal_after 0 digits
      summing_letter g = sym (rw (lt-ltb 9 k g)) ∙ summed

      pub summing_large : k ≤ 9 → 99999 < n → None ≡ decimal_after 0 digits
      summing_large g l = sym (rw (le-ltb 9 k g, lt-ltb 99999 n l)) ∙ summed

      pub summing_next : k ≤ 9 → n ≤ 99999 → Summing digits (10 * n + k) (i + 1)
      summing_next g l = record { left = rw add-one (sym (rw (le-ltb 9 k g, le-ltb 99999 n l)) ∙ summed) }

pub ruleset summing = (summing_end, summing_none, summing_letter, summing_large, summing_next)

-- ---- word k as a number
module _ (line : List ℕ) (k : ℕ) {w : List ℕ} (e : w ≡ word_at line k) where
  pub number_none : length w ≡ 0 → None ≡ number_of line k
  unfolding number_of
  number_none h = rw (← e) (go w h) where
    go : (v : List ℕ) → length v ≡ 0 → None ≡ cond (empty v) None (decimal_after 0 v)
    go [] h = refl
    go (b ∷ v) h = absurd (omega arith)

  pub number_some : (length w ≡ 0 → ⊥) → decimal_after 0 w ≡ number_of line k
  unfolding number_of
  number_some h = rw (← e) (go w h) where
    go : (v : List ℕ) → (length v ≡ 0 → ⊥) → decimal_after 0 v ≡ cond (empty v) None (decimal_after 0 v)
    go [] h = absurd (h refl)
    go (b ∷ v) h = refl
