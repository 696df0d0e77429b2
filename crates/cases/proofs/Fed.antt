-- Bytes one after the other, and numbers in decimal.
use Prim.Native.Nat.{ℕ, zero, suc, ◌+◌, ◌*◌, ◌/◌, ◌%◌, ◌≤◌, ◌<◌}
use mathlib.Core.Path.{◌≡◌, refl, sym, ap, ◌∙◌}
use mathlib.Core.Bool.{Bool, true, false, cond}
use mathlib.Core.List.{List, [], ◌∷◌, ◌++◌}
use native.Mathlib.Omega.{arith}
use native.Mathlib.Nat.{mul-add-mod_self_left}
use lib.Dec.{ltb}
use borrow.Author.Tests.{lt-ltb, le-ltb, ltb-false}
use Rattle.slices.specs.Text.{decimal_within, decimal_of}
use Rattle.cases.specs.declared.digest.Digest.{Digest}
use Rattle.cases.specs.Text.{fed}

pub fed_append : (d : Digest) (xs ys : List ℕ) → fed d (xs ++ ys) ≡ fed (fed d xs) ys
unfolding fed
fed_append d [] ys = refl
fed_append d (x ∷ xs) ys = fed_append (record { first = (d.first * 257 + x) % 2147483647; second = (d.second * 257 + x) % 2147483629 }) xs ys

pub fed_cons : (d : Digest) (x : ℕ) (xs : List ℕ) → fed d (x ∷ xs) ≡ fed (fed d (x ∷ [])) xs
fed_cons d x xs = fed_append d (x ∷ []) xs

pub fed_none : (d : Digest) → fed d [] ≡ d
unfolding fed
fed_none d = refl

pub ruleset feeding = (fed_append, fed_cons, fed_none)

-- a remainder taken earlier
wrapped : (m x b : ℕ) → m * (x / m * 257) + (x % m * 257 + b) ≡ x * 257 + b → (x % m * 257 + b) % m ≡ (x * 257 + b) % m
wrapped m x b e = sym (mul-add-mod_self_left m (x / m * 257) (x % m * 257 + b)) ∙ ap (λ (y : ℕ). y % m) e

abbrev pair : ℕ → ℕ → Digest
pair x y = record { first = x; second = y }

pub fed_one : (d : Digest) (b : ℕ)
    → fed d (b ∷ []) ≡ pair ((d.first % 2147483647 * 257 + b) % 2147483647) ((d.second % 2147483629 * 257 + b) % 2147483629)
unfolding fed
fed_one d b =
    sym (ap (λ (x : ℕ). pair x ((d.second % 2147483629 * 257 + b) % 2147483629)) (wrapped 2147483647 d.first b (omega arith))
    ∙ ap (pair ((d.first * 257 + b) % 2147483647)) (wrapped 2147483629 d.second b (omega arith)))

-- ---- numbers
cond_else : {A : Type 0} (b : Bool) (x y z : A) → (b ≡ false → y ≡ z) → cond b x y ≡ cond b x z
cond_else true x y z f = refl
cond_else false x y z f = f refl

within_more : (k j n : ℕ) → n ≤ k → n ≤ j → decimal_within k n ≡ decimal_within j n
unfolding decimal_within
within_more zero zero n h g = refl
within_more zero (suc j) n h g = rw (lt-ltb n 10 (omega arith))
within_more (suc k) zero n h g = rw (lt-ltb n 10 (omega arith))
within_more (suc k) (suc j) n h g =
    ap (λ (s : List ℕ). s ++ ((48 + n % 10) ∷ []))
    (cond_else (ltb n 10) [] (decimal_within k (n / 10)) (decimal_within j (n / 10))
    (λ q. within_more k j (n / 10) (omega (arith, ltb-false n 10 q)) (omega (arith, ltb-false n 10 q))))

pub decimal_one : (n : ℕ) → n < 10 → decimal_of n ≡ (48 + n % 10) ∷ []
unfolding decimal_of decimal_within
decimal_one zero h = refl
decimal_one (suc n) h = rw (lt-ltb (suc n) 10 h)

pub decimal_more : (n : ℕ) → 10 ≤ n → decimal_of n ≡ decimal_of (n / 10) ++ ((48 + n % 10) ∷ [])
unfolding decimal_of decimal_within
decimal_more zero h = absurd (omega arith)
decimal_more (suc n) h =
    rw (le-ltb (suc n) 10 h)
    (ap (λ (s : List ℕ). s ++ ((48 + suc n % 10) ∷ [])) (within_more n (suc n / 10) (suc n / 10) (omega arith) (omega arith)))
