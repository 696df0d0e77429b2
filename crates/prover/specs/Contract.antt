-- The contract of the call, clause by clause. `lent` are the trays at entry, `left` the trays at exit.
use Rattle.std.specs.Prelude.{◌≡◌, false, List, ◌↔◌, ℕ}
use Rattle.std.proofs.Math.Option.{none}
use Rattle.definition.specs.RefusalNumbers.{too_many_identifiers}
use Rattle.definition.specs.Records.{decode}
use Rattle.definition.specs.Formula.{branch_of}
use Rattle.definition.specs.Checks.{refused}
use Rattle.definition.specs.Setting.{setting_of, partial_equivalence}
use Rattle.definition.specs.Run.{Passes}
use Rattle.definition.specs.Trays.{Trays, zero_trays, laid_over}
use Rattle.definition.specs.Call.{Answer, refusal, answer, trays_left, lengths_of}
use Rattle.definition.specs.Claim.{Proved, NoModel}
use Rattle.definition.specs.Finished.{InTime, Open, Finished, LateIsUnfinished}
use Rattle.definition.specs.Completeness.{ChecksContradictions, HasCountermodel}

abbrev pub trays : List ℕ → List ℕ → List ℕ → Trays
trays nodes formulas edges = record { nodes = nodes; formulas = formulas; edges = edges }

pub record Contract (branch : List ℕ) (flags : ℕ) (lent : Trays) (said : Answer) (left : Trays) : Type 0 where
  -- demands 1 and 2: "It returns one verdict or one refusal from document 01's table": the definition's, with its counts and its place
  pub answers : said ≡ answer branch flags lent
  -- each tray: what the definition lays out, byte for byte, then what lay beyond
  pub leaves : left ≡ trays_left branch flags lent
  -- "Refusals 1 to 11 write nothing": any refusal but "full"
  pub refusals_keep : (number place : ℕ) → said ≡ refusal number place → (number ≡ too_many_identifiers → ⊥) → left ≡ lent
  -- demand 2: ""full" comes exactly when that run passes 512 identifiers": the run is the paper's own loop, which knows no such limit
  pub full_exactly : (said ≡ refusal too_many_identifiers 0) ↔ ((refused branch flags (lengths_of lent) ≡ none) × Passes (setting_of flags) (decode branch))
  -- "12 zeroes the three lengths"
  pub full_zeroes : (place : ℕ) → said ≡ refusal too_many_identifiers place → left ≡ laid_over zero_trays lent
  -- demand 3: "if a verdict is returned in which `proved` is true, late beside it or not, then no world of any finite Kripke model
  -- with the flagged properties (..), however large, makes every formula of the branch true"
  pub proved_is_sound : Proved said → NoModel (setting_of flags) (branch_of (decode branch))
  -- document 02: "late is set exactly if the world limit is reached, proved is false and a node still waits"
  pub late_exactly : LateIsUnfinished (setting_of flags) (decode branch) said
  -- and of an open verdict nothing waits
  pub open_is_finished : Open said → Finished (setting_of flags) (decode branch)
  -- beyond the papers: where contradiction checks were not skipped, an open verdict has a model, read off the first open path: it has the flagged
  -- properties, and its world 0 makes every formula of the branch true
  pub open_has_model : ChecksContradictions (setting_of flags) → Open said → HasCountermodel (setting_of flags) (decode branch)
  -- so a verdict that is not late is exact, unless the flags are symmetric and transitive without reflexive
  pub exact_in_time : ChecksContradictions (setting_of flags) → partial_equivalence (setting_of flags) ≡ false → InTime said → (Proved said ↔ NoModel (setting_of flags) (branch_of (decode branch)))
