-- What code has of a record's links, of the trays' lengths, and of the check that applies.
use Rattle.std.specs.Prelude.{true, ℕ, List, [], ◌∷◌, Result, Ok, Err}
use Rattle.std.proofs.Math.Option.{Option, none, some}
use Rattle.definition.specs.Checks as D
use Rattle.definition.specs.Checks.{Check, check}
use Rattle.checks.specs.declared.Links.{Links}
use Rattle.checks.specs.declared.Lengths.{Lengths}
use Rattle.refusal.specs.declared.Refusal.{Refusal}
use Rattle.refusal.specs.Number.{number_of}

-- the fields that are record numbers
abbrev pub linked : Links → List ℕ
linked Links.None = []
linked (Links.One l) = l ∷ []
linked (Links.Two l r) = l ∷ r ∷ []

-- the check that applies, as the definition finds it
abbrev pub check_of : Result Unit Refusal → Option Check
check_of (Ok _) = none
check_of (Err r) = some (check (number_of r.reason) r.place true)

-- the lengths of the trays lent
abbrev pub lengths : Lengths → D.Lengths
lengths lent = record { nodes = lent.nodes; formulas = lent.formulas; edges = lent.edges }
