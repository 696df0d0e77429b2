-- Loops over hexadecimal digits.
use mathlib.Core.Path.{◌≡◌, refl, sym, ap, ◌∙◌}
use mathlib.Core.List.{List, [], ◌∷◌, ◌++◌, map}
use Prim.Native.Nat.{ℕ, zero, suc, ◌+◌, ◌-◌, ◌*◌, ◌/◌, ◌%◌, ◌^◌, ◌≤◌, ◌<◌, min}
use native.Mathlib.Numerals.{add-one}
use native.Mathlib.Omega.{arith}
use lib.Dec.{leb}
use lib.ListN.{length, get_or, drop, length-map}
use lib.Pow.{pow-add}
use lib.Seq.{drop-cons, get_or-take, length-take-le}
use borrow.Author.Tests.{leb-true}
use Rattle.std.specs.Prelude.{Option, Some, None, option_and_then}
use Rattle.std.specs.Int.{div_ceil}
use Rattle.std.specs.List.{slice_range}
use Rattle.definition.specs.Lists.{below, up_from}
use Rattle.definition.proofs.Basics.Lists.{all_below}
use Rattle.definition.proofs.Basics.Identifiers.{length_from}
use Rattle.cases.specs.Bytes.{hex_digit, hex_after, hex_byte, written, decoded}

-- ---- eight digits
-- fewer are no number
short : (k n : ℕ) (xs : List ℕ) → length xs < k → None ≡ hex_after k n xs
unfolding hex_after
short zero n xs h = absurd (omega arith)
short (suc k) n [] h = refl
short (suc k) n (x ∷ xs) h = go (hex_digit x) (λ m. short k (16 * n + m) xs (omega arith)) where
  go : (d : Option ℕ) → ((m : ℕ) → None ≡ hex_after k (16 * n + m) xs) → None ≡ option_and_then (λ m. hex_after k (16 * n + m) xs) d
  go None f = refl
  go (Some m) f = f m

pub too_short : (digits : List ℕ) → length digits < 8 → None ≡ hex_after 8 0 digits
too_short digits h = short 8 0 digits h

pub not_short : (digits : List ℕ) {d : Option ℕ} {n : ℕ} → d ≡ hex_after 8 0 digits → d ≡ Some n → length digits < 8 → ⊥
not_short digits {d} {n} e h l = let z : None ≡ Some n = too_short digits l ∙ sym e ∙ h in cc

pub first_eight : (digits items : List ℕ) → items ≡ slice_range digits 0 8 → 8 ≤ length digits → (length items ≡ 8) × ((i : ℕ) → i < 8 → get_or items i 0 ≡ get_or digits i 0)
first_eight digits items e h = (ap length e ∙ length-take-le 8 digits h, λ i l. ap (λ (xs : List ℕ). get_or xs i 0) e ∙ get_or-take 8 digits i 0 l)

-- n is read from the digits before i
pub record Hexing (digits : List ℕ) (n i : ℕ) : Type 0 where
  pub low : n < 16 ^ i
  pub left : hex_after (8 - i) n (drop i digits) ≡ hex_after 8 0 digits

module _ {digits : List ℕ} {n i : ℕ} (p : Hexing digits n i) where
  pub hexing_end : 8 ≤ i → Some n ≡ hex_after 8 0 digits
  unfolding hex_after
  hexing_end h = let z : 8 - i ≡ 0 = omega arith in sym (ap (λ (m : ℕ). hex_after m n (drop i digits)) z) ∙ p.left

  module _ (h : i < 8) where
    pub hexing_low : n < 268435456
    hexing_low = omega (arith, p.low, leb-true (16 ^ i) 268435456 (all_below (λ j. leb (16 ^ j) 268435456) 8 refl i h))

    module _ (g : i < length digits) {d : Option ℕ} (e : d ≡ hex_digit (get_or digits i 0)) where
      step : option_and_then (λ m. hex_after (8 - (i + 1)) (16 * n + m) (drop (suc i) digits)) d ≡ hex_after 8 0 digits
      unfolding hex_after
      step =
          let z : 8 - i ≡ suc (8 - (i + 1)) = omega arith in
          rw e (sym (ap (λ (m : ℕ). hex_after m n (drop i digits)) z ∙ rw (drop-cons digits i 0 g)) ∙ p.left)

      pub hexing_none : d ≡ None → None ≡ hex_after 8 0 digits
      hexing_none q = sym (rw q) ∙ step

      pub hexing_next : {k : ℕ} → d ≡ Some k → k < 16 → Hexing digits (16 * n + k) (i + 1)
      hexing_next {k} q l =
          record {
            low = omega (arith, p.low, pow-add 16 i 1);
            left =
                let z : i + 1 ≡ suc i = omega arith in
                ap (λ (j : ℕ). hex_after (8 - (i + 1)) (16 * n + k) (drop j digits)) z
                ∙ sym (ap (λ (d : Option ℕ). option_and_then (λ m. hex_after (8 - (i + 1)) (16 * n + m) (drop (suc i) digits)) d) q)
                ∙ step;
          }

pub ruleset hexing = (too_short, first_eight, hexing_end, hexing_low, hexing_none, hexing_next)

-- ---- n bytes are written
map_snoc : (f : ℕ → ℕ) (n s : ℕ) → map f (up_from (suc n) s) ≡ map f (up_from n s) ++ (f (s + n) ∷ [])
map_snoc f zero s = let z : s ≡ s + 0 = omega arith in ap (λ (j : ℕ). f j ∷ []) z
map_snoc f (suc n) s = let z : suc s + n ≡ s + suc n = omega arith in ap (λ (l : List ℕ). f s ∷ l) (map_snoc f n (suc s) ∙ ap (λ (j : ℕ). map f (up_from n (suc s)) ++ (f j ∷ [])) z)

module _ (line : List ℕ) (from : ℕ) where
  pub length_decoded : (n : ℕ) → length (decoded line from n) ≡ n
  unfolding decoded
  length_decoded n = length-map (below n) (λ k. hex_byte line (from + 2 * k)) ∙ length_from n 0

  decoded_more : (n : ℕ) → decoded line from (suc n) ≡ decoded line from n ++ (hex_byte line (from + 2 * n) ∷ [])
  unfolding decoded
  decoded_more n = let z : 0 + n ≡ n = omega arith in map_snoc (λ k. hex_byte line (from + 2 * k)) n 0 ∙ ap (λ (j : ℕ). map (λ k. hex_byte line (from + 2 * k)) (below n) ++ (hex_byte line (from + 2 * j) ∷ [])) z

pub decoded_none : (line : List ℕ) (from : ℕ) → decoded line from 0 ≡ []
unfolding decoded
decoded_none line from = refl

pub decoded_next : (line : List ℕ) (from n : ℕ) {b : ℕ} {out : List ℕ} → out ≡ decoded line from n → b ≡ hex_byte line (from + 2 * n) → out ++ (b ∷ []) ≡ decoded line from (n + 1)
decoded_next line from n e h = rw (e, h, add-one) (sym (decoded_more line from n))

pub ruleset decoding = (length_decoded, decoded_none, decoded_next)

pub decoded_all :
    (line : List ℕ) (from to : ℕ) {end digits half count n : ℕ} {out : List ℕ} →
    out ≡ decoded line from n →
    end ≡ min to (length line) →
    digits ≡ end - from →
    half ≡ div_ceil digits 2 →
    count ≡ min half 2048 →
    n ≡ count →
    out ≡ decoded line from (min 2048 (written line from to))
unfolding written
decoded_all line from to {end} {digits} {half} {count} {n} o e d h k q =
    let f : half ≡ digits / 2 + min 1 (digits % 2) = h in
    let z : n ≡ min 2048 ((min to (length line) - from + 1) / 2) = omega arith in
    o ∙ ap (decoded line from) z
