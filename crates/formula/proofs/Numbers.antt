-- A node's formula, and its class.
use Prim.Native.Nat.{ℕ, ◌≤◌}
use mathlib.Core.Path.{◌≡◌, refl, sym, ap, ◌∙◌}
use mathlib.Core.List.{List}
use native.Mathlib.Omega.{arith}
use mathlib.Core.Logic.{⊎_elim}
use borrow.Author.Tests.{eq-eqb, ne_eqb}
use Rattle.definition.specs.Limits.{most_formulas}
use Rattle.definition.specs.Records.{Comment, Rec, made, number_of, rec_at, formula_of}
use Rattle.definition.proofs.Basics.Lists.{alike}
use Rattle.definition.specs.Setting.{Setting}
use Rattle.definition.specs.Queue.{priority_of}
use Rattle.formula.specs.Priority.{priority_by}
use Rattle.formula.specs.declared.Record.{Record}
use Rattle.formula.specs.Recorded.{missing, Recorded}
use Rattle.formula.proofs.Recorded.{recorded_count, rec_at_far}

-- ---- a node's formula
pub formula_record : (rs : List Rec) (f : ℕ) → (f ≡ 65535 → ⊥) → formula_of rs f ≡ rec_at rs f
unfolding formula_of
formula_record rs f h = rw (ne_eqb f 65535 h) refl

-- what is said alike of a comment and of a record that is not there can be read from the number's record
pub formula_as : {A : Type 0} {rs : List Rec} {n : ℕ} {a : List Record} (g : Rec → A) → g (made Comment 0 0) ≡ g missing
    → Recorded rs n a → n ≤ most_formulas → (f : ℕ) → g (formula_of rs f) ≡ g (rec_at rs f)
unfolding formula_of
formula_as {A} {rs} g e p h f =
    ⊎_elim
    (λ q. rw (eq-eqb f 65535 q) (e ∙ ap g (sym (rec_at_far rs f (omega (arith, recorded_count p h))))))
    (λ q. ap g (formula_record rs f q))
    (alike f 65535)

-- ---- classes
-- the class by kinds is the class by records
pub class_of : (F : Setting) {rs : List Rec} {n : ℕ} {a : List Record} (f k l i v : ℕ) → Recorded rs n a → n ≤ most_formulas
    → k ≡ number_of (formula_of rs f).kind → l ≡ (rec_at rs f).left → i ≡ number_of (rec_at rs l).kind → v ≡ priority_by k i → v ≡ priority_of F rs (formula_of rs f)
unfolding priority_by priority_of number_of
class_of F {rs} f k l i v p h dk dl di dv =
    let e : (formula_of rs f).left ≡ (rec_at rs f).left = formula_as (λ (r : Rec). r.left) refl p h f in
    dv ∙ rw (di, dl, dk, e) refl
