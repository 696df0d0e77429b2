-- Each and some of a list's elements, and what the tests of specs/Lists tell.
use mathlib.Core.Path.{◌≡◌, refl, sym, ap, ◌∙◌, subst}
use mathlib.Core.Bool.{Bool, true, false, not, ◌&&◌, ◌||◌, cond}
use mathlib.Core.List.{List, [], ◌∷◌, ◌++◌, map, reverse, reverse_aux}
use mathlib.Core.Option.{none, some}
use mathlib.Core.Logic.{◌⊎◌, inl, inr, ⊎_elim, ⊎_map, ◌≢◌}
use Prim.Native.Nat.{ℕ, zero, suc, ◌<◌, ◌≤◌, ◌+◌, ◌-◌}
use native.Mathlib.Omega.{arith}
use lib.Dec.{eqb}
use borrow.Author.Tests.{eqb-true, eqb-false, eq-eqb, ne_eqb}
use lib.ListN.{length, get_or, replicate, length-append, length-replicate}
use Rattle.definition.specs.Lists.{any, all, find, filter, or_else, Each, up_from, below, elem, padded}

pub true_false : {A : Type 0} → true ≡ false → A
true_false {A} e = let z : ◌≡◌ {A = ℕ} 0 1 = cc (e) in absurd (omega arith)

pub and_left : (a b : Bool) → (a && b) ≡ true → a ≡ true
and_left true b e = refl
and_left false b e = e

pub and_right : (a b : Bool) → (a && b) ≡ true → b ≡ true
and_right true b e = e
and_right false b e = true_false (sym e)

pub and_both : (a b : Bool) → a ≡ true → b ≡ true → (a && b) ≡ true
and_both true b p q = q
and_both false b p q = p

pub or_cases : (a b : Bool) → (a || b) ≡ true → (a ≡ true) ⊎ (b ≡ true)
or_cases true b e = inl refl
or_cases false b e = inr e

pub or_left : (a b : Bool) → (a || b) ≡ false → a ≡ false
or_left true b e = e
or_left false b e = refl

pub or_right : (a b : Bool) → (a || b) ≡ false → b ≡ false
or_right true b e = true_false e
or_right false b e = e

pub or_true : (a : Bool) {b : Bool} → b ≡ true → (a || b) ≡ true
or_true true e = refl
or_true false e = e

pub not_true : (a : Bool) → not a ≡ true → a ≡ false
not_true true e = sym e
not_true false e = refl

-- a test either holds or not
pub either : (b : Bool) → (b ≡ true) ⊎ (b ≡ false)
either true = inl refl
either false = inr refl

-- what holds of both branches holds of the one taken
pub cond_both : {A : Type 0} (P : A → Type 0) (b : Bool) (x y : A) → P x → P y → P (cond b x y)
cond_both P true x y p q = p
cond_both P false x y p q = q

module _ {A : Type 0} where
  abbrev pub Some : (A → Type 0) → List A → Type 0
  Some P [] = ⊥
  Some P (x ∷ xs) = P x ⊎ Some P xs

  pub each_map : {P Q : A → Type 0} → ((x : A) → P x → Q x) → (xs : List A) → Each P xs → Each Q xs
  each_map f [] h = tt
  each_map f (x ∷ xs) h = (f x h.0, each_map f xs h.1)

  -- what holds of each element, and of d if there are no more than i, holds of the one at i
  pub each_get : (P : A → Type 0) (xs : List A) (d : A) → Each P xs → (i : ℕ) → (length xs ≤ i → P d) → P (get_or xs i d)
  each_get P [] d h i k = k (omega arith)
  each_get P (x ∷ xs) d h zero k = h.0
  each_get P (x ∷ xs) d h (suc i) k = each_get P xs d h.1 i (λ l. k (omega arith))

  pub each_of : (P : A → Type 0) (d : A) (xs : List A) → ((i : ℕ) → i < length xs → P (get_or xs i d)) → Each P xs
  each_of P d [] h = tt
  each_of P d (x ∷ xs) h = (h 0 (omega arith), each_of P d xs (λ i l. h (suc i) (omega arith)))

  pub each_both : {P Q R : A → Type 0} → ((x : A) → P x → Q x → R x) → (xs : List A) → Each P xs → Each Q xs → Each R xs
  each_both f [] h k = tt
  each_both f (x ∷ xs) h k = (f x h.0 k.0, each_both f xs h.1 k.1)

  pub each_any : (P : A → Type 0) → ((x : A) → P x) → (xs : List A) → Each P xs
  each_any P f [] = tt
  each_any P f (x ∷ xs) = (f x, each_any P f xs)

  pub each_append : (P : A → Type 0) (xs ys : List A) → Each P xs → Each P ys → Each P (xs ++ ys)
  each_append P [] ys h k = k
  each_append P (x ∷ xs) ys h k = (h.0, each_append P xs ys h.1 k)

  pub each_left : (P : A → Type 0) (xs ys : List A) → Each P (xs ++ ys) → Each P xs
  each_left P [] ys h = tt
  each_left P (x ∷ xs) ys h = (h.0, each_left P xs ys h.1)

  pub each_right : (P : A → Type 0) (xs ys : List A) → Each P (xs ++ ys) → Each P ys
  each_right P [] ys h = h
  each_right P (x ∷ xs) ys h = each_right P xs ys h.1

  each_reverse_aux : (P : A → Type 0) (xs ys : List A) → Each P xs → Each P ys → Each P (reverse_aux xs ys)
  each_reverse_aux P [] ys h k = k
  each_reverse_aux P (x ∷ xs) ys h k = each_reverse_aux P xs (x ∷ ys) h.1 (h.0, k)

  pub each_reverse : (P : A → Type 0) (xs : List A) → Each P xs → Each P (reverse xs)
  each_reverse P xs h = each_reverse_aux P xs [] h tt

  pub some_append_left : (P : A → Type 0) (xs ys : List A) → Some P xs → Some P (xs ++ ys)
  some_append_left P [] ys h = absurd h
  some_append_left P (x ∷ xs) ys (inl p) = inl p
  some_append_left P (x ∷ xs) ys (inr h) = inr (some_append_left P xs ys h)

  pub some_append_right : (P : A → Type 0) (xs ys : List A) → Some P ys → Some P (xs ++ ys)
  some_append_right P [] ys h = h
  some_append_right P (x ∷ xs) ys h = inr (some_append_right P xs ys h)

  -- what holds of each holds of some that has more
  pub some_each : {P Q R : A → Type 0} → ((x : A) → P x → Q x → R x) → (xs : List A) → Some P xs → Each Q xs → Some R xs
  some_each f [] h k = absurd h
  some_each f (x ∷ xs) (inl p) k = inl (f x p k.0)
  some_each f (x ∷ xs) (inr h) k = inr (some_each f xs h k.1)

  pub some_pick : {P : A → Type 0} (xs : List A) → Some P xs → (x : A) × P x
  some_pick [] h = absurd h
  some_pick (x ∷ xs) (inl p) = (x, p)
  some_pick (x ∷ xs) (inr h) = some_pick xs h

  -- what follows from P of each element follows from P of some
  pub each_some : (P : A → Type 0) {R : Type 0} (xs : List A) → Each (λ x. P x → R) xs → Some P xs → R
  each_some P [] f h = absurd h
  each_some P (x ∷ xs) f (inl p) = f.0 p
  each_some P (x ∷ xs) f (inr h) = each_some P xs f.1 h

  pub any_some : (p : A → Bool) (xs : List A) → any p xs ≡ true → Some (λ x. p x ≡ true) xs
  any_some p [] e = true_false (sym e)
  any_some p (x ∷ xs) e = go (or_cases (p x) (any p xs) e) (any_some p xs)
    where
      go : (p x ≡ true) ⊎ (any p xs ≡ true) → (any p xs ≡ true → Some (λ y. p y ≡ true) xs) → Some (λ y. p y ≡ true) (x ∷ xs)
      go (inl h) k = inl h
      go (inr h) k = inr (k h)

  pub all_each : (p : A → Bool) (xs : List A) → all p xs ≡ true → Each (λ x. p x ≡ true) xs
  all_each p [] e = tt
  all_each p (x ∷ xs) e = (and_left (p x) (all p xs) e, all_each p xs (and_right (p x) (all p xs) e))

  pub each_all : (p : A → Bool) (xs : List A) → Each (λ x. p x ≡ true) xs → all p xs ≡ true
  each_all p [] h = refl
  each_all p (x ∷ xs) h = and_both (p x) (all p xs) h.0 (each_all p xs h.1)

  -- what is found keeps what held of each
  pub find_each : (P : A → Type 0) (p : A → Bool) (xs : List A) → Each P xs → (y : A) → find p xs ≡ some y → P y
  find_each P p [] h y e = let z : ◌≡◌ {A = ℕ} 0 1 = cc in absurd (omega arith)
  find_each P p (x ∷ xs) h y e = go (p x) e (find_each P p xs h.1 y)
    where
      go : (b : Bool) → cond b (some x) (find p xs) ≡ some y → (find p xs ≡ some y → P y) → P y
      go true d k = let q : x ≡ y = cc in subst P q h.0
      go false d k = k d

  -- nothing is found where nothing passes
  pub none_found : (p : A → Bool) (xs : List A) → Each (λ x. p x ≡ false) xs → find p xs ≡ none
  none_found p [] h = refl
  none_found p (x ∷ xs) h = rw h.0 (none_found p xs h.1)

  -- nothing passes where nothing is found
  pub find_none : (p : A → Bool) (xs : List A) → find p xs ≡ none → Each (λ x. p x ≡ false) xs
  find_none p [] e = tt
  find_none p (x ∷ xs) e = go (p x) refl e (find_none p xs)
    where
      go : (b : Bool) → p x ≡ b → cond b (some x) (find p xs) ≡ none → (find p xs ≡ none → Each (λ y. p y ≡ false) xs) → (p x ≡ false) × Each (λ y. p y ≡ false) xs
      go true q d f = let z : ◌≡◌ {A = ℕ} 0 1 = cc in absurd (omega arith)
      go false q d f = (q, f d)

  -- the first of two lists joined: of the one, or else of the other
  pub find_append : (p : A → Bool) (xs ys : List A) → find p (xs ++ ys) ≡ or_else (find p xs) (find p ys)
  find_append p [] ys = refl
  find_append p (x ∷ xs) ys = go (p x) (find_append p xs ys)
    where
      go : (b : Bool) → find p (xs ++ ys) ≡ or_else (find p xs) (find p ys) → cond b (some x) (find p (xs ++ ys)) ≡ or_else (cond b (some x) (find p xs)) (find p ys)
      go true e = refl
      go false e = e

  -- what is sifted passes, and keeps what held of each
  pub each_filter : (P : A → Type 0) (p : A → Bool) (xs : List A) → Each P xs → Each (λ x. P x × (p x ≡ true)) (filter p xs)
  each_filter P p [] h = tt
  each_filter P p (x ∷ xs) h = go (p x) refl (each_filter P p xs h.1)
    where
      go : (b : Bool) → p x ≡ b → Each (λ y. P y × (p y ≡ true)) (filter p xs) → Each (λ y. P y × (p y ≡ true)) (cond b (x ∷ filter p xs) (filter p xs))
      go true e r = ((h.0, e), r)
      go false e r = r

  pub some_map : {P Q : A → Type 0} → ((x : A) → P x → Q x) → (xs : List A) → Some P xs → Some Q xs
  some_map f [] h = absurd h
  some_map f (x ∷ xs) (inl p) = inl (f x p)
  some_map f (x ∷ xs) (inr h) = inr (some_map f xs h)

  pub some_cases : (P : A → Type 0) (xs ys : List A) → Some P (xs ++ ys) → Some P xs ⊎ Some P ys
  some_cases P [] ys h = inr h
  some_cases P (x ∷ xs) ys (inl h) = inl (inl h)
  some_cases P (x ∷ xs) ys (inr h) = ⊎_map inr (λ k. k) (some_cases P xs ys h)

  pub some_reverse_aux : (P : A → Type 0) (xs ys : List A) → Some P xs ⊎ Some P ys → Some P (reverse_aux xs ys)
  some_reverse_aux P [] ys (inl h) = absurd h
  some_reverse_aux P [] ys (inr h) = h
  some_reverse_aux P (x ∷ xs) ys (inl (inl h)) = some_reverse_aux P xs (x ∷ ys) (inr (inl h))
  some_reverse_aux P (x ∷ xs) ys (inl (inr h)) = some_reverse_aux P xs (x ∷ ys) (inl h)
  some_reverse_aux P (x ∷ xs) ys (inr h) = some_reverse_aux P xs (x ∷ ys) (inr (inr h))

  pub some_reverse : (P : A → Type 0) (xs : List A) → Some P xs → Some P (reverse xs)
  some_reverse P xs h = some_reverse_aux P xs [] (inl h)

  -- x is one of xs
  abbrev pub Among : A → List A → Type 0
  Among x xs = Some (λ z. z ≡ x) xs

  pub each_among : (P : A → Type 0) (x : A) (xs : List A) → Each P xs → Among x xs → P x
  each_among P x [] h k = absurd k
  each_among P x (y ∷ xs) h (inl e) = subst P e h.0
  each_among P x (y ∷ xs) h (inr k) = each_among P x xs h.1 k

  pub each_by : (P : A → Type 0) (xs : List A) → ((x : A) → Among x xs → P x) → Each P xs
  each_by P [] f = tt
  each_by P (x ∷ xs) f = (f x (inl refl), each_by P xs (λ y k. f y (inr k)))

  pub some_among : {P : A → Type 0} (xs : List A) → Some P xs → (x : A) × Among x xs × P x
  some_among [] h = absurd h
  some_among (x ∷ xs) (inl p) = (x, inl refl, p)
  some_among (x ∷ xs) (inr h) = let k = some_among xs h in (k.0, inr k.1, k.2)

  pub among_some : (P : A → Type 0) (x : A) (xs : List A) → Among x xs → P x → Some P xs
  among_some P x xs k p = some_map (λ z e. subst P (sym e) p) xs k

  pub some_any : (p : A → Bool) (xs : List A) → Some (λ x. p x ≡ true) xs → any p xs ≡ true
  some_any p [] h = absurd h
  some_any p (x ∷ xs) (inl h) = rw h
  some_any p (x ∷ xs) (inr h) = or_true (p x) (some_any p xs h)

  pub any_none : (p : A → Bool) (xs : List A) → Each (λ x. p x ≡ false) xs → any p xs ≡ false
  any_none p [] h = refl
  any_none p (x ∷ xs) h = rw h.0 (any_none p xs h.1)

  pub some_or : (P : A → Type 0) → ((x : A) → P x ⊎ (P x → ⊥)) → (xs : List A) → Some P xs ⊎ Each (λ x. P x → ⊥) xs
  some_or P d [] = inr tt
  some_or P d (x ∷ xs) = ⊎_elim (λ p. inl (inl p)) (λ n. ⊎_elim (λ s. inl (inr s)) (λ e. inr (n, e)) (some_or P d xs)) (d x)

  -- one that passes is sifted
  pub among_filter : (p : A → Bool) (z : A) (xs : List A) → p z ≡ true → Among z xs → Among z (filter p xs)
  among_filter p z [] e h = absurd h
  among_filter p z (x ∷ xs) e (inl q) = rw (q, e) (inl refl)
  among_filter p z (x ∷ xs) e (inr h) = go (p x) (among_filter p z xs e h)
    where
      go : (b : Bool) → Among z (filter p xs) → Among z (cond b (x ∷ filter p xs) (filter p xs))
      go true k = inr k
      go false k = k

module _ {A B : Type 0} where
  pub each_of_map : (P : B → Type 0) (f : A → B) (xs : List A) → Each (λ x. P (f x)) xs → Each P (map f xs)
  each_of_map P f [] h = tt
  each_of_map P f (x ∷ xs) h = (h.0, each_of_map P f xs h.1)

  pub some_of_map : (P : B → Type 0) (f : A → B) (xs : List A) → Some (λ x. P (f x)) xs → Some P (map f xs)
  some_of_map P f [] h = absurd h
  some_of_map P f (x ∷ xs) (inl p) = inl p
  some_of_map P f (x ∷ xs) (inr h) = inr (some_of_map P f xs h)

  pub each_from_map : (P : B → Type 0) (f : A → B) (xs : List A) → Each P (map f xs) → Each (λ x. P (f x)) xs
  each_from_map P f [] h = tt
  each_from_map P f (x ∷ xs) h = (h.0, each_from_map P f xs h.1)

  pub some_from_map : (P : B → Type 0) (f : A → B) (xs : List A) → Some P (map f xs) → Some (λ x. P (f x)) xs
  some_from_map P f [] h = absurd h
  some_from_map P f (x ∷ xs) (inl p) = inl p
  some_from_map P f (x ∷ xs) (inr h) = inr (some_from_map P f xs h)

-- two lists of one length, related element by element
pub data Zip {A B : Type 0} (R : A → B → Type 0) : List A → List B → Type 0 where
  zip_nil : Zip R [] []
  zip_cons : {x : A} {y : B} {xs : List A} {ys : List B} → R x y → Zip R xs ys → Zip R (x ∷ xs) (y ∷ ys)

module _ {A B : Type 0} (R : A → B → Type 0) where
  pub zip_right : (xs : List A) (ys : List B) → Zip R xs ys → (y : B) → Among y ys → Some (λ x. R x y) xs
  zip_right [] [] zip_nil y i = absurd i
  zip_right [] (z ∷ ys) h y i = elim h [ ]
  zip_right (x ∷ xs) [] h y i = elim h [ ]
  zip_right (x ∷ xs) (z ∷ ys) (zip_cons h k) y (inl e) = inl (subst (R x) e h)
  zip_right (x ∷ xs) (z ∷ ys) (zip_cons h k) y (inr i) = inr (zip_right xs ys k y i)

  pub zip_left : (xs : List A) (ys : List B) → Zip R xs ys → (x : A) → Among x xs → Some (R x) ys
  zip_left [] [] zip_nil x i = absurd i
  zip_left [] (y ∷ ys) h x i = elim h [ ]
  zip_left (z ∷ xs) [] h x i = elim h [ ]
  zip_left (z ∷ xs) (y ∷ ys) (zip_cons h k) x (inl e) = inl (subst (λ w. R w y) e h)
  zip_left (z ∷ xs) (y ∷ ys) (zip_cons h k) x (inr i) = inr (zip_left xs ys k x i)

-- what holds of each holds of one that is elem them
pub elem_each : (P : ℕ → Type 0) (x : ℕ) (xs : List ℕ) → elem x xs ≡ true → Each P xs → P x
elem_each P x [] e h = true_false (sym e)
elem_each P x (y ∷ ys) e h = go (or_cases (eqb x y) (elem x ys) e) (λ k. elem_each P x ys k h.1)
  where
    go : (eqb x y ≡ true) ⊎ (elem x ys ≡ true) → (elem x ys ≡ true → P x) → P x
    go (inl q) k = subst P (sym (eqb-true x y q)) h.0
    go (inr q) k = k q

pub up_from_each : (n i : ℕ) → Each (λ x. (i ≤ x) × (x < i + n)) (up_from n i)
up_from_each zero i = tt
up_from_each (suc n) i =
    ((omega arith, omega arith), each_map (λ x (h : (suc i ≤ x) × (x < suc i + n)). (omega arith, omega arith)) (up_from n (suc i)) (up_from_each n (suc i)))

pub below_each : (n : ℕ) → Each (λ x. x < n) (below n)
below_each n = each_map (λ x (h : (0 ≤ x) × (x < 0 + n)). omega arith) (below n) (up_from_each n 0)

-- a test that some number below n passes
pub any_below : (p : ℕ → Bool) (n : ℕ) → any p (below n) ≡ true → (v : ℕ) × (v < n) × (p v ≡ true)
any_below p n e =
    let s = some_pick (below n) (some_each {R = λ v. (v < n) × (p v ≡ true)} (λ v a b. (b, a)) (below n) (any_some p (below n) e) (below_each n)) in
    (s.0, s.1.0, s.1.1)

all_from : (p : ℕ → Bool) (n i : ℕ) → all p (up_from n i) ≡ true → (v : ℕ) → i ≤ v → v < i + n → p v ≡ true
all_from p zero i e v h k = absurd (omega arith)
all_from p (suc n) i e v h k = go (either (eqb i v)) (all_from p n (suc i) (and_right (p i) (all p (up_from n (suc i))) e) v)
  where
    go : (eqb i v ≡ true) ⊎ (eqb i v ≡ false) → (suc i ≤ v → v < suc i + n → p v ≡ true) → p v ≡ true
    go (inl q) f = subst (λ (x : ℕ). p x ≡ true) (eqb-true i v q) (and_left (p i) (all p (up_from n (suc i))) e)
    go (inr q) f =
        let ne : i ≢ v = eqb-false i v q in
        f (omega arith) (omega arith)

pub all_below : (p : ℕ → Bool) (n : ℕ) → all p (below n) ≡ true → (v : ℕ) → v < n → p v ≡ true
all_below p n e v h = all_from p n 0 e v (omega arith) (omega arith)

module _ {A : Type 0} (p q : A → Bool) (flip : (x : A) → q x ≡ not (p x)) where
  pub any_false_all : (xs : List A) → any p xs ≡ false → all q xs ≡ true
  any_false_all [] e = refl
  any_false_all (x ∷ xs) e = go (p x) refl e (any_false_all xs)
    where
      go : (b : Bool) → p x ≡ b → (b || any p xs) ≡ false → (any p xs ≡ false → all q xs ≡ true) → (q x && all q xs) ≡ true
      go true h d k = true_false d
      go false h d k = and_both (q x) (all q xs) (flip x ∙ ap not h) (k d)

  pub all_false_any : (xs : List A) → all p xs ≡ false → any q xs ≡ true
  all_false_any [] e = true_false e
  all_false_any (x ∷ xs) e = go (p x) refl e (all_false_any xs)
    where
      go : (b : Bool) → p x ≡ b → (b && all p xs) ≡ false → (all p xs ≡ false → any q xs ≡ true) → (q x || any q xs) ≡ true
      go true h d k = rw (flip x, h) (k d)
      go false h d k = rw (flip x, h)

pub not_true_false : (b : Bool) → (b ≡ true → ⊥) → b ≡ false
not_true_false true h = absurd (h refl)
not_true_false false h = refl

pub filter_each : {A : Type 0} (p : A → Bool) (xs : List A) → Each (λ x. p x ≡ true) (filter p xs)
filter_each {A} p xs = each_map (λ x (h : Unit {0} × (p x ≡ true)). h.1) (filter p xs) (each_filter (λ x. Unit {0}) p xs (each_any (λ x. Unit {0}) (λ x. tt) xs))

-- what holds of one number, and of every other one, holds of all
pub one_or_other : (P : ℕ → Type 0) (y : ℕ) → P y → ((z : ℕ) → z ≢ y → P z) → (z : ℕ) → P z
one_or_other P y f g z = ⊎_elim (λ q. subst P (sym (eqb-true z y q)) f) (λ q. g z (eqb-false z y q)) (either (eqb z y))

-- a list that has an element
abbrev pub Full : {A : Type 0} → List A → Type 0
Full [] = ⊥
Full (x ∷ xs) = Unit {0}

full_onto : {A : Type 0} (xs ys : List A) → Full ys → Full (reverse_aux xs ys)
full_onto [] ys h = h
full_onto (x ∷ xs) ys h = full_onto xs (x ∷ ys) tt

pub full_reverse : {A : Type 0} (xs : List A) → Full xs → Full (reverse xs)
full_reverse [] h = h
full_reverse (x ∷ xs) h = full_onto xs (x ∷ []) tt

-- what held of each element holds of those that pass
pub filter_keeps : {A : Type 0} (P : A → Type 0) (p : A → Bool) (xs : List A) → Each P xs → Each P (filter p xs)
filter_keeps P p xs h = each_map (λ x (k : P x × (p x ≡ true)). k.0) (filter p xs) (each_filter P p xs h)

pub filter_append : {A : Type 0} (p : A → Bool) (xs ys : List A) → filter p (xs ++ ys) ≡ filter p xs ++ filter p ys
filter_append p [] ys = refl
filter_append {A} p (x ∷ xs) ys = go (p x) (filter_append p xs ys)
  where
    go : (b : Bool) → filter p (xs ++ ys) ≡ filter p xs ++ filter p ys →
        cond b (x ∷ filter p (xs ++ ys)) (filter p (xs ++ ys)) ≡ cond b (x ∷ filter p xs) (filter p xs) ++ filter p ys
    go true e = ap (λ (l : List A). x ∷ l) e
    go false e = e

-- two numbers are equal or not
pub alike : (x y : ℕ) → (x ≡ y) ⊎ (x ≢ y)
alike x y = ⊎_elim (λ q. inl (eqb-true x y q)) (λ q. inr (eqb-false x y q)) (either (eqb x y))

-- number k of those upward from s
pub from_get : (n s k : ℕ) → k < n → get_or (up_from n s) k 0 ≡ s + k
from_get zero s k h = absurd (omega arith)
from_get (suc n) s zero h = omega arith
from_get (suc n) s (suc k) h = from_get n (suc s) k (omega arith) ∙ omega arith

-- a number that is found among others, and the other way round
pub elem_among : (x : ℕ) (xs : List ℕ) → elem x xs ≡ true → Among x xs
elem_among x xs e = some_map (λ z (h : eqb x z ≡ true). sym (eqb-true x z h)) xs (any_some (eqb x) xs e)

pub among_elem : (x : ℕ) (xs : List ℕ) → Among x xs → elem x xs ≡ true
among_elem x xs h = some_any (eqb x) xs (some_map (λ z (e : z ≡ x). eq-eqb x z (sym e)) xs h)

pub among_from : (n i z : ℕ) → i ≤ z → z < i + n → Among z (up_from n i)
among_from zero i z h k = absurd (omega arith)
among_from (suc n) i z h k = ⊎_elim inl (λ (ne : i ≢ z). inr (among_from n (suc i) z (omega arith) (omega arith))) (alike i z)

-- the converses of any_below and all-below
pub any_below_of : (p : ℕ → Bool) (n v : ℕ) → v < n → p v ≡ true → any p (below n) ≡ true
any_below_of p n v l h = some_any p (below n) (among_some (λ z. p z ≡ true) v (below n) (among_from n 0 v (omega arith) (omega arith)) h)

pub all_below_of : (p : ℕ → Bool) (n : ℕ) → ((v : ℕ) → v < n → p v ≡ true) → all p (below n) ≡ true
all_below_of p n h = each_all p (below n) (each_map h (below n) (below_each n))

pub elem_high : (x : ℕ) (xs ys : List ℕ) → Each (λ z. z ≢ x) xs → elem x (xs ++ ys) ≡ elem x ys
elem_high x [] ys h = refl
elem_high x (z ∷ xs) ys h = rw (ne_eqb x z (λ e. h.0 (sym e)), elem_high x xs ys h.1)

-- two tests that tell the same
pub same_both : (a b : Bool) → (a ≡ true → b ≡ true) → (b ≡ true → a ≡ true) → a ≡ b
same_both true b f g = sym (f refl)
same_both false true f g = g refl
same_both false false f g = refl

-- a truth as a number
pub bit_low : (b : Bool) → cond b 1 0 ≤ 1
bit_low true = omega arith
bit_low false = omega arith

pub length_padded : (n : ℕ) (s : List ℕ) → length s ≤ n → length (padded n s) ≡ n
unfolding padded
length_padded n s h = omega (arith, h, length-append s (replicate (n - length s) 0), length-replicate {A = ℕ} (n - length s) 0)
