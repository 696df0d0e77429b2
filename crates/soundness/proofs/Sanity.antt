-- Demand 3 says something: every set of flags has models, and the proviso of flags 6 is needed.
use mathlib.Core.Path.{◌≡◌, refl, sym}
use mathlib.Core.Bool.{true, false}
use mathlib.Core.List.{List}
use Prim.Native.Nat.{ℕ, ◌<◌}
use native.Mathlib.Omega.{arith}
use lib.Dec.{eqb}
use Rattle.definition.specs.Records
use Rattle.definition.specs.Records.{decode}
use Rattle.definition.specs.Formula
use Rattle.definition.specs.Formula.{branch_of}
use Rattle.definition.specs.Setting.{setting_of}
use Rattle.definition.specs.Models.{Model, Has, truth}
use Rattle.definition.specs.Call.{answer_of}
use Rattle.definition.specs.Claim.{Proved, Satisfied}
use Rattle.definition.specs.Cases.{bytes, dead_end}
use Rattle.definition.specs.Refusals.{exactly}
use Rattle.definition.proofs.Basics.Lists.{true_false}
use Rattle.definition.proofs.Call.Cases.{computed, same_answer}
use Rattle.soundness.specs.Claims.{ModelsExist, DeadEnd}

-- one world that reaches itself
pub models_exist : ModelsExist
models_exist F value = (
  record { size = 1; reach = λ a b. true; value = value },
  record { reflexive = λ _ _ _. refl; symmetric = λ _ _ _ _ _ _. refl; transitive = λ _ _ _ _ _ _ _ _ _. refl },
  omega arith,
  λ _. (0, omega arith, refl),
  refl,
)

-- the starred branch with flags 6
abbrev branch : List ℕ
branch = bytes dead_end

-- one world that reaches nothing, where r alone is true
lonely : Model
lonely = record { size = 1; reach = λ a b. false; value = λ w a. eqb a 2 }

lonely_has : Has (setting_of 6) lonely
unfolding lonely setting_of
lonely_has = record { reflexive = λ e. true_false (sym e); symmetric = λ _ _ _ _ _ e. true_false (sym e); transitive = λ _ _ _ _ _ _ _ e. true_false (sym e) }

lonely_size : 0 < lonely.size
unfolding lonely
lonely_size = omega arith

lonely_holds : Satisfied (branch_of (decode branch)) lonely 0
unfolding lonely truth decode Records.record_at Records.kind_of Records.marks_from Formula.form_by Formula.written Formula.forms_after
lonely_holds = (refl, (refl, (refl, tt)))

lonely_reaches : (v : ℕ) → lonely.reach 0 v ≡ false
unfolding lonely
lonely_reaches v = refl

proved_there : Proved (answer_of (setting_of 6) (computed branch 6 exactly))
unfolding computed answer_of
proved_there = refl

pub dead_end_lem : DeadEnd
dead_end_lem = (
  λ t h. rw (same_answer branch 6 t h) proved_there,
  (lonely, lonely_has, lonely_size, lonely_reaches, lonely_holds),
)
