-- Text appended piece by piece.
use Rattle.std.proofs.Common.{◌≡◌, ◌∙◌, ap, List, [], ◌∷◌, ◌++◌, ℕ, zero, suc, ◌+◌, ◌/◌, ◌%◌, ◌^◌, ◌≤◌, ◌<◌, append_assoc, arith, length, length-append}
use native.Mathlib.Nat.{pow-suc}
use borrow.Author.Tests.{lt-ltb, le-ltb}
use Rattle.std.specs.Fmt.{decimal}
use Rattle.std.proofs.lemmas.Fmt.{decimal_by_steps}
use Rattle.slices.specs.Text.{decimal_within, decimal_of}

-- one piece behind the other
pub both : (text mid now s t : List ℕ) → mid ≡ text ++ s → now ≡ mid ++ t → now ≡ text ++ (s ++ t)
both text mid now s t p q = q ∙ ap (λ (l : List ℕ). l ++ t) p ∙ append_assoc text s t

-- a number is below that power of ten
pub power_above : (k : ℕ) → k < 10 ^ k
power_above zero = omega arith
power_above (suc k) = omega (arith, pow-suc 10 k, power_above k)

-- the digits that the library writes are the decimal digits
Written : ℕ → List ℕ → Type 0
Written n digits = (f : ℕ) → n ≤ f → digits ≡ decimal_within f n

written_one : (n : ℕ) → n < 10 → Written n ((48 + n) ∷ [])
unfolding decimal_within Written
written_one n h zero k = ap (λ (m : ℕ). m ∷ []) (omega arith)
written_one n h (suc f) k = rw (lt-ltb n 10 h) (ap (λ (m : ℕ). m ∷ []) (omega arith))

written_more : (n : ℕ) (digits : List ℕ) → 10 ≤ n → Written (n / 10) digits → Written n (digits ++ ((48 + n % 10) ∷ []))
unfolding decimal_within Written
written_more n digits h p zero k = absurd (omega arith)
written_more n digits h p (suc f) k =
    rw (le-ltb n 10 h) (ap (λ (l : List ℕ). l ++ ((48 + n % 10) ∷ [])) (p f (omega arith)))

pub decimal_is : (n : ℕ) → n < 2 ^ 64 → decimal n ≡ decimal_of n
unfolding decimal_of Written
decimal_is n h = decimal_by_steps Written written_one written_more n h n (omega arith)

-- the first piece
pub from_none : (text now s : List ℕ) → text ≡ [] → now ≡ text ++ s → now ≡ [] ++ s
from_none text now s e p = p ∙ ap (λ (l : List ℕ). l ++ s) e

pub appended : (text now s : List ℕ) → now ≡ text ++ s → length now ≡ length text + length s
appended text now s p = ap length p ∙ length-append text s
