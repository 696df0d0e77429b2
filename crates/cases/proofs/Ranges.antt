-- A test of every number of a range.
use Rattle.std.proofs.Common.{◌≡◌, refl, Bool, true, false, List, ℕ}
use Rattle.std.specs.Prelude.{Option, MatchOption}
use Rattle.std.specs.Fn.{Mut, Called}
use Rattle.std.specs.List.{FoldsTo}
use Rattle.std.specs.Iterator.{YieldsThen}
use Rattle.std.specs.declared.ops.Range.{Range}
use Rattle.std.proofs.iter.Yields.{nat_range_steps}
use Rattle.std.proofs.lemmas.Iterator.{YieldsList-from_range}
use Rattle.std.proofs.lemmas.Iterator.Search.{all_from_yields_List}
use Rattle.cases.specs.Bytes.{between}

pub all_between :
    {F : Type 0} {g : Mut F (ℕ × Unit {0}) Bool} {p : ℕ → Bool} {a b : ℕ} {u : Range ℕ} {f : F} {r : Bool} →
    (xs : List ℕ) × (o : Option ℕ) × (j : F) × YieldsThen nat_range_steps (record { start = a; end = b }) xs o u × FoldsTo (λ k x q. Called g k (x, tt) true q) f xs j × MatchOption o (r ≡ true) (λ x. (r ≡ false) × ((h : F) × Called g j (x, tt) false h)) →
    ((i : ℕ) (v : Bool) (q : F) → Called g f (i, tt) v q → (q ≡ f) × (v ≡ p i)) →
    r ≡ between p a b
unfolding between
all_between {p = p} {a} {b} {u} {f} {r} ran each = all_from_yields_List p u f r ran (YieldsList-from_range a b _ refl refl) each
