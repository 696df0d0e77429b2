-- The rule by its name is the rule of the definition.
use Prim.Native.Nat.{ℕ, ◌≤◌}
use mathlib.Core.Path.{◌≡◌, refl, sym}
use mathlib.Core.List.{List}
use lib.ListN.{length, get_or}
use Rattle.definition.specs.Limits.{most_formulas}
use Rattle.definition.specs.Records.{Kind, Atomic, Non, And, Or, Imply, BiImply, StrictImply, Possible, Necessary, Unknown, Comment, Rec, number_of, rec_at, formula_of}
use Rattle.definition.specs.Rules.{expansion, expansion_by, non_expansion}
use Rattle.formula.specs.declared.Record.{Record}
use Rattle.formula.specs.Recorded.{Recorded}
use Rattle.formula.proofs.Numbers.{formula_as}
use Rattle.rules.specs.declared.LogicRule.{LogicRule}
use Rattle.rules.specs.declared.LogicRule.TheVariants.{Nothing}
use Rattle.rules.specs.Choice.{denied, logic_rule, ruled}
use Rattle.rules.specs.Expands.{expansion_of}

-- ---- kind by kind
denial : (k : Kind) (m p q : ℕ) → non_expansion k m p q ≡ expansion_of (get_or denied (number_of k) Nothing) m p q
unfolding non_expansion expansion_by number_of
denial Atomic m p q = refl
denial Non m p q = refl
denial And m p q = refl
denial Or m p q = refl
denial Imply m p q = refl
denial BiImply m p q = refl
denial StrictImply m p q = refl
denial Possible m p q = refl
denial Necessary m p q = refl
denial Unknown m p q = refl
denial Comment m p q = refl

module _ (rs : List Rec) (f l : ℕ) where
  choice : (k : Kind) (m : ℕ) →
      expansion_of (logic_rule (number_of k) (number_of (rec_at rs l).kind)) m (rec_at rs (ruled (number_of k) f l)).left (rec_at rs (ruled (number_of k) f l)).right
      ≡ expansion_by k m (rec_at rs f).left (rec_at rs f).right (rec_at rs l)
  unfolding expansion_by number_of logic_rule ruled
  choice Atomic m = refl
  choice Non m = sym (denial (rec_at rs l).kind m (rec_at rs l).left (rec_at rs l).right)
  choice And m = refl
  choice Or m = refl
  choice Imply m = refl
  choice BiImply m = refl
  choice StrictImply m = refl
  choice Possible m = refl
  choice Necessary m = refl
  choice Unknown m = refl
  choice Comment m = refl

-- what `expand` reads
pub chosen : {rs : List Rec} {n : ℕ} {a : List Record} {v : LogicRule} (f k l i at p q : ℕ) → Recorded rs n a → n ≤ most_formulas
    → k ≡ number_of (formula_of rs f).kind → l ≡ (rec_at rs f).left → i ≡ number_of (rec_at rs l).kind
    → at ≡ ruled k f l → p ≡ (rec_at rs at).left → q ≡ (rec_at rs at).right → v ≡ logic_rule k i
    → expansion_of v (length rs) p q ≡ expansion rs f
unfolding expansion
chosen {rs} f k l i at p q has h dk dl di da dp dq dv =
    let el : (formula_of rs f).left ≡ (rec_at rs f).left = formula_as (λ (r : Rec). r.left) refl has h f in
    let er : (formula_of rs f).right ≡ (rec_at rs f).right = formula_as (λ (r : Rec). r.right) refl has h f in
    rw (dv, dp, dq, da, di, dk, choice, el, er, dl) refl
