-- What a record's bytes say of its kind and its links.
use Prim.Native.Nat.{ℕ, ◌<◌, ◌≤◌}
use mathlib.Core.Path.{◌≡◌, refl}
use mathlib.Core.Bool.{true, false, not, ◌||◌}
use mathlib.Core.List.{[], ◌∷◌}
use mathlib.Core.Logic.{◌⊎◌, inl, inr, ⊎_elim}
use native.Mathlib.Omega.{arith}
use lib.Dec.{eqb, ltb}
use lib.ListN.{take}
use borrow.Author.Tests.{eqb-true, ltb-true}
use Rattle.definition.specs.Lists.{all, below}
use Rattle.definition.specs.Records.{kind_of, number_of, arity, links}
use Rattle.definition.proofs.Basics.Lists.{all_below, or_cases, not_true}
use Rattle.formula.specs.declared.Record.{Record}
use Rattle.formula.specs.Recorded.{rec_of}
use Rattle.formula.proofs.KindNumbers.{unknown}

-- the kinds from lo to below hi have n links
pub links_in : (n lo hi : ℕ) → all (λ j. ltb j lo || eqb n (arity (kind_of j))) (below hi) ≡ true → (k : ℕ) → lo ≤ k → k < hi → n ≡ arity (kind_of k)
links_in n lo hi e k h g =
    ⊎_elim (λ q. absurd (omega (arith, ltb-true k lo q))) (λ q. eqb-true n (arity (kind_of k)) q)
    (or_cases (ltb k lo) (eqb n (arity (kind_of k))) (all_below (λ j. ltb j lo || eqb n (arity (kind_of j))) hi e k g))

module _ (x : Record) where
  -- ---- kinds
  pub kind_unknown : 8 < x.kind → ltb 8 (number_of (rec_of x).kind) ≡ true
  unfolding number_of
  kind_unknown h = rw (← unknown x.kind h)

  pub kind_known : x.kind ≤ 8 → ltb 8 (number_of (rec_of x).kind) ≡ false
  unfolding kind_of number_of
  kind_known h = not_true _ (all_below (λ j. not (ltb 8 (number_of (kind_of j)))) 9 refl x.kind (omega arith))

  -- ---- the fields that are links, by the kind
  links_by : (n : ℕ) → n ≡ arity (kind_of x.kind) → take n (x.left.0 ∷ x.right.0 ∷ []) ≡ links (rec_of x)
  links_by n e = rw e refl

  pub links_one : (x.kind ≡ 1) ⊎ ((x.kind ≡ 7) ⊎ (x.kind ≡ 8)) → x.left.0 ∷ [] ≡ links (rec_of x)
  unfolding arity kind_of number_of
  links_one (inl e) = links_by 1 (rw e)
  links_one (inr (inl e)) = links_by 1 (rw e)
  links_one (inr (inr e)) = links_by 1 (rw e)

  pub links_two : 2 ≤ x.kind → x.kind ≤ 6 → x.left.0 ∷ x.right.0 ∷ [] ≡ links (rec_of x)
  unfolding arity kind_of number_of
  links_two l h = links_by 2 (links_in 2 2 7 refl x.kind l (omega arith))

  pub links_none : (x.kind ≡ 0) ⊎ (8 < x.kind) → [] ≡ links (rec_of x)
  unfolding arity kind_of number_of
  links_none (inl e) = links_by 0 (rw e)
  links_none (inr h) = links_by 0 (rw (← unknown x.kind h))
