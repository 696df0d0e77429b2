-- Lists: tests of two lists against each other, and parts of a list that pass a test.
use Prim.Native.Nat.{ℕ, ◌+◌, ◌<◌, ◌≤◌}
use mathlib.Core.Path.{◌≡◌, refl, sym, ap, ◌∙◌}
use mathlib.Core.Bool.{Bool, true, false, cond, ◌&&◌, ◌||◌}
use mathlib.Core.Logic.{⊎_elim}
use mathlib.Core.List.{List, [], ◌∷◌, ◌++◌}
use native.Mathlib.Numerals.{add-one}
use lib.Dec.{eqb}
use lib.ListN.{length, get_or, take}
use lib.Seq.{take-suc, take_all}
use borrow.Author.Tests.{eqb-true, eqb-false, eq-eqb, ne_eqb}
use Rattle.definition.specs.Lists.{any, elem, filter}
use Rattle.definition.specs.Modality.{Necessity, runs_through}
use Rattle.definition.proofs.Basics.Lists.{either, filter_append}

pub eqb_sym : (x y : ℕ) → eqb x y ≡ eqb y x
eqb_sym x y = ⊎_elim (λ t. t ∙ sym (eq-eqb y x (sym (eqb-true x y t)))) (λ t. t ∙ sym (ne_eqb y x (λ e. eqb-false x y t (sym e)))) (either (eqb x y))

-- ---- any
any_ext : (p q : ℕ → Bool) → ((x : ℕ) → p x ≡ q x) → (xs : List ℕ) → any p xs ≡ any q xs
any_ext p q e [] = refl
any_ext p q e (x ∷ xs) = ap (λ (b : Bool). b || any p xs) (e x) ∙ ap (λ (b : Bool). q x || b) (any_ext p q e xs)

pub any_none : (ys : List ℕ) → any (λ y. false) ys ≡ false
any_none [] = refl
any_none (y ∷ ys) = any_none ys

or_swap : (a b c d : Bool) → ((a || b) || (c || d)) ≡ ((a || c) || (b || d))
or_swap true b c d = refl
or_swap false true true d = refl
or_swap false true false d = refl
or_swap false false c d = refl

pub any_or : (p q : ℕ → Bool) (ys : List ℕ) → any (λ y. p y || q y) ys ≡ (any p ys || any q ys)
any_or p q [] = refl
any_or p q (y ∷ ys) = ap (λ (b : Bool). (p y || q y) || b) (any_or p q ys) ∙ or_swap (p y) (q y) (any p ys) (any q ys)

any_swap : (r : ℕ → ℕ → Bool) (xs ys : List ℕ) → any (λ x. any (r x) ys) xs ≡ any (λ y. any (λ x. r x y) xs) ys
any_swap r [] ys = sym (any_none ys)
any_swap r (x ∷ xs) ys = ap (λ (b : Bool). any (r x) ys || b) (any_swap r xs ys) ∙ sym (any_or (r x) (λ y. any (λ z. r z y) xs) ys)

-- a path runs through a stored leaf where one of its nodes is a stored leaf
pub runs_by_path : (n : Necessity) (xs : List ℕ) → any (λ y. elem y n.leaves) xs ≡ runs_through n xs
unfolding runs_through
runs_by_path n xs =
    any_ext (λ y. elem y n.leaves) (λ y. any (λ l. eqb l y) n.leaves) (λ y. any_ext (eqb y) (λ l. eqb l y) (eqb_sym y) n.leaves) xs
    ∙ sym (any_swap eqb n.leaves xs)

-- ---- a loop through a list that keeps the elements which pass the test
pub kept_next : (p : ℕ → Bool) (xs : List ℕ) (j x : ℕ) {b : Bool} → j < length xs → x ≡ get_or xs j 0 → b ≡ p x
    → filter p (take (j + 1) xs) ≡ filter p (take j xs) ++ cond b (x ∷ []) []
kept_next p xs j x h e q = rw (add-one, take-suc xs j 0 h, q, e) (filter_append p (take j xs) (get_or xs j 0 ∷ []))

pub kept_all : (p : ℕ → Bool) (xs : List ℕ) (j : ℕ) → length xs ≤ j → filter p (take j xs) ≡ filter p xs
kept_all p xs j h = ap (filter p) (take_all j xs h)

pub filter_no : (p : ℕ → Bool) → ((x : ℕ) → p x ≡ false) → (xs : List ℕ) → filter p xs ≡ []
filter_no p h [] = refl
filter_no p h (x ∷ xs) = rw (h x) (filter_no p h xs)

pub filter_both : (p q : ℕ → Bool) (xs : List ℕ) → filter (λ x. q x && p x) xs ≡ filter p (filter q xs)
filter_both p q [] = refl
filter_both p q (x ∷ xs) = go (q x) (p x) refl refl (filter_both p q xs)
  where
    go : (a b : Bool) → q x ≡ a → p x ≡ b → filter (λ y. q y && p y) xs ≡ filter p (filter q xs)
        → filter (λ y. q y && p y) (x ∷ xs) ≡ filter p (filter q (x ∷ xs))
    go true true e f r = rw (e, f) (ap (λ (l : List ℕ). x ∷ l) r)
    go true false e f r = rw (e, f) r
    go false b e f r = rw e r

-- ---- tests one after the other: the first answers, or the second does
module _ {x a : Bool} (e : x ≡ a) where
  pub or_first : (b : Bool) → x ≡ true → x ≡ (a || b)
  or_first b h = rw (← e, h) refl

  pub or_second : {y b : Bool} → x ≡ false → y ≡ b → y ≡ (a || b)
  or_second h f = rw (← e, h) f

  pub and_first : (b : Bool) → x ≡ false → x ≡ (a && b)
  and_first b h = rw (← e, h) refl

  pub and_second : {y b : Bool} → x ≡ true → y ≡ b → y ≡ (a && b)
  and_second h f = rw (← e, h) f
