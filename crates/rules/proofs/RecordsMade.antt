-- Records made one after the other, and the numbers that they get.
use Prim.Native.Nat.{ℕ, ◌≤◌, ◌<◌}
use mathlib.Core.Path.{◌≡◌, refl, ap, ◌∙◌, subst}
use mathlib.Core.List.{List, [], ◌++◌, append-nil}
use native.Mathlib.Omega.{arith}
use mathlib.Core.Bool.{Bool, true, false}
use lib.Dec.{ltb}
use borrow.Author.Tests.{ltb-true, ltb-false}
use lib.ListN.{length, length-append}
use Rattle.definition.specs.Limits.{most_formulas}
use Rattle.definition.specs.Records.{Rec}
use Rattle.definition.specs.Rules.{Expansion}
use Rattle.formula.specs.declared.Record.{Record}
use Rattle.formula.specs.Recorded.{Recorded, HasRecords}
use Rattle.formula.specs.declared.Formulas.{Formulas}
use Rattle.formula.proofs.Recorded.{recorded_count, recorded_fits, recorded_many, recorded_over}
use Rattle.rules.specs.declared.Consequence.{Consequence}
use Rattle.rules.specs.Consequences.{consequence_of}
use Rattle.rules.specs.Expands.{Expands}

-- ---- room
over : (rs : List Rec) {m : ℕ} {b : List Record} (xs ys : List Rec) → most_formulas < length rs → Recorded (rs ++ xs) m b → Recorded (rs ++ ys) m b
over rs xs ys h = recorded_over (omega (arith, length-append rs xs)) (omega (arith, length-append rs ys))

-- of records for which there is no room from the start, nothing is said but that they are too many
instead : {rs : List Rec} {n m : ℕ} {a b : List Record} (xs ys : List Rec) → Recorded rs n a → (n ≤ most_formulas → xs ≡ ys) → Recorded (rs ++ xs) m b → Recorded (rs ++ ys) m b
instead {rs} {n} {m} {a} {b} xs ys r f p = go (ltb most_formulas n) refl
  where
    go : (v : Bool) → ltb most_formulas n ≡ v → Recorded (rs ++ ys) m b
    go true e = over rs xs ys (recorded_many r (ltb-true most_formulas n e)) p
    go false e = subst (λ (l : List Rec). Recorded (rs ++ l) m b) (f (ltb-false most_formulas n e)) p

room : {rs : List Rec} {n m : ℕ} {a b : List Record} (xs : List Rec) → Recorded rs n a → Recorded (rs ++ xs) m b → m ≤ most_formulas → n ≤ most_formulas
room {rs} xs p q h = recorded_fits p (omega (arith, length-append rs xs, recorded_count q h))

-- ---- expansions
pub expands_as : {rs : List Rec} {n : ℕ} {a : List Record} {r : Consequence} {f : Formulas} (d e : Expansion) → Recorded rs n a → (n ≤ most_formulas → d ≡ e) → Expands rs d r f → Expands rs e r f
expands_as d e p same x =
    record {
      records = instead d.made e.made p (λ h. ap (λ (t : Expansion). t.made) (same h)) x.records;
      rule = λ h. x.rule h ∙ ap (λ (t : Expansion). t.rule) (same (room d.made p x.records h));
    }

module _ {rs : List Rec} (f : Formulas) {c : Consequence} (e : Expansion) (has : HasRecords rs f) where
  pub expands_none : e.made ≡ [] → consequence_of c ≡ e.rule → Expands rs e c f
  expands_none d r = record { records = rw (d, append-nil) has; rule = λ h. r }
