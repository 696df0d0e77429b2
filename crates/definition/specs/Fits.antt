-- What it means that a number fits its field, and that a tray has its length and keeps what lies beyond it.
use Rattle.std.specs.Prelude.{◌≡◌, List, ◌⊎◌, ℕ, ◌<◌, ◌≤◌, length, drop}
use Rattle.definition.specs.Limits.{node_tray_length, formula_tray_length, edge_tray_length}
use Rattle.definition.specs.Records.{Rec, nobody, number_of}
use Rattle.definition.specs.Trays.{Trays}

-- none, or below n
abbrev pub Number : ℕ → ℕ → Type 0
Number n x = (x ≡ nobody) ⊎ (x < n)

-- a record's numbers fit their fields
pub record RecordFits (r : Rec) : Type 0 where
  pub kind : number_of r.kind ≤ 8
  pub mark : r.mark ≤ 1
  pub left : r.left ≤ nobody
  pub right : r.right ≤ nobody

-- what is written has exactly the three lengths
pub record Sized (t : Trays) : Type 0 where
  pub nodes : length t.nodes ≡ node_tray_length
  pub formulas : length t.formulas ≡ formula_tray_length
  pub edges : length t.edges ≡ edge_tray_length

-- a tray keeps its length, and what lies beyond its first n numbers
pub record Beyond (n : ℕ) (before after : List ℕ) : Type 0 where
  pub long : length after ≡ length before
  pub rest : drop n after ≡ drop n before

-- "Only these lengths are written; anything beyond stays"
pub record TraysKept (before after : Trays) : Type 0 where
  pub nodes : Beyond node_tray_length before.nodes after.nodes
  pub formulas : Beyond formula_tray_length before.formulas after.formulas
  pub edges : Beyond edge_tray_length before.edges after.edges
