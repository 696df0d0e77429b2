-- Branches without a modal connective, and assignments of truth values to their atoms.
use Rattle.std.specs.Prelude.{Bool, true, List, ℕ}
use Rattle.definition.specs.Lists.{Each}
use Rattle.definition.specs.Records.{Rec, marks}
use Rattle.definition.specs.Formula.{Form, atom, non, and, or, imply, bi_imply, strict_imply, possible, necessary, form_at, branch_of}
use Rattle.definition.specs.Models.{Model}
use Rattle.definition.specs.Claim.{Satisfied}

-- kinds 0 to 5 alone
abbrev pub Plain : Form → Type 0
Plain (atom a) = Unit {0}
Plain (non p) = Plain p
Plain (and p q) = Plain p × Plain q
Plain (or p q) = Plain p × Plain q
Plain (imply p q) = Plain p × Plain q
Plain (bi_imply p q) = Plain p × Plain q
Plain (strict_imply p q) = ⊥
Plain (possible p) = ⊥
Plain (necessary p) = ⊥

abbrev pub PlainBranch : List Rec → Type 0
PlainBranch rs = Each (λ f. Plain (form_at rs f)) (marks rs)

-- an assignment as a model: one world, that reaches itself
abbrev pub assigned : (ℕ → Bool) → Model
assigned a = record { size = 1; reach = λ u v. true; value = λ w. a }

-- the assignment makes every formula of the branch true
abbrev pub Satisfies : (ℕ → Bool) → List Rec → Type 0
Satisfies a rs = Satisfied (branch_of rs) (assigned a) 0
