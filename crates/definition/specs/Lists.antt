-- Lists and tests that the other definitions use. A `let` waits until it is read, so that a recursion stops as soon as a test says so.
use Rattle.std.specs.Prelude.{Bool, true, false, cond, ◌&&◌, ◌||◌, List, [], ◌∷◌, ◌++◌, ◌≢◌, ℕ, zero, suc, ◌+◌, ◌-◌, eqb, length, replicate}
use Rattle.std.proofs.Math.Option.{Option, none, some}

-- n numbers upward from i
abbrev pub up_from : ℕ → ℕ → List ℕ
up_from zero i = []
up_from (suc n) i = i ∷ up_from n (suc i)

-- the numbers below n, rising
abbrev pub below : ℕ → List ℕ
below n = up_from n 0

module _ {A : Type 0} where
  abbrev pub any : (A → Bool) → List A → Bool
  any p [] = false
  any p (x ∷ xs) =
      let rest = any p xs in
      p x || rest

  abbrev pub all : (A → Bool) → List A → Bool
  all p [] = true
  all p (x ∷ xs) =
      let rest = all p xs in
      p x && rest

  -- the elements that pass, in order
  abbrev pub filter : (A → Bool) → List A → List A
  filter p [] = []
  filter p (x ∷ xs) =
      let rest = filter p xs in
      cond (p x) (x ∷ rest) rest

  -- the first element that passes
  abbrev pub find : (A → Bool) → List A → Option A
  find p [] = none
  find p (x ∷ xs) =
      let rest = find p xs in
      cond (p x) (some x) rest

  -- the first value, or the second where there is none
  abbrev pub or_else : Option A → Option A → Option A
  or_else none rest = rest
  or_else (some x) rest = some x

  abbrev pub empty : List A → Bool
  empty [] = true
  empty (x ∷ xs) = false

  -- P of each element
  abbrev pub Each : (A → Type 0) → List A → Type 0
  Each P [] = Unit {0}
  Each P (x ∷ xs) = P x × Each P xs

-- no number is listed twice
abbrev pub Distinct : List ℕ → Type 0
Distinct [] = Unit {0}
Distinct (x ∷ xs) = Each (λ y. y ≢ x) xs × Distinct xs

-- the lists of f, one after the other
abbrev pub concat_map : {A B : Type 0} → (A → List B) → List A → List B
concat_map f [] = []
concat_map f (x ∷ xs) = f x ++ concat_map f xs

-- the list, and zeros up to n numbers
unfoldable pub padded : ℕ → List ℕ → List ℕ
padded n s = s ++ replicate (n - length s) 0

abbrev pub sum : List ℕ → ℕ
sum [] = 0
sum (x ∷ xs) = x + sum xs

-- x is one of the numbers
abbrev pub elem : ℕ → List ℕ → Bool
elem x = any (eqb x)

-- the two lists are equal
abbrev pub same : List ℕ → List ℕ → Bool
same [] [] = true
same [] (y ∷ ys) = false
same (x ∷ xs) [] = false
same (x ∷ xs) (y ∷ ys) =
    let rest = same xs ys in
    eqb x y && rest
