-- "What leaves": the three trays, every byte.
use Rattle.std.specs.Prelude.{Bool, cond, List, [], ◌∷◌, ◌++◌, map, ℕ, ◌+◌, ◌*◌, ◌/◌, ◌%◌, length, replicate, drop}
use Rattle.definition.specs.Limits.{node_tray_length, formula_tray_length, edge_tray_length}
use Rattle.definition.specs.Lists.{concat_map, padded}
use Rattle.definition.specs.Records.{Rec, number_of}
use Rattle.definition.specs.Tree.{Node, place_number, is_contradictory}
use Rattle.definition.specs.Run.{State}

-- 16 bits, "low byte first"
abbrev pub two : ℕ → List ℕ
two n = n % 256 ∷ n / 256 ∷ []

-- "A node record is 12 bytes: parent 0-1; place 2 (..); world 3; formula number 4-5; spawner 6-7; contrarian 8-9; contradictory 10 (0 or 1); byte 11 zero"
unfoldable pub node_bytes : Node → List ℕ
node_bytes x =
    two x.parent
    ++ (place_number x.place ∷ x.world ∷ [])
    ++ two x.formula
    ++ two x.spawner
    ++ two x.contrarian
    ++ (cond (is_contradictory x) 1 0 ∷ 0 ∷ [])

unfoldable pub record_bytes : Rec → List ℕ
record_bytes r = (number_of r.kind ∷ r.mark ∷ []) ++ two r.left ++ two r.right

-- "Bit v of edge number u says that u reaches v"
unfoldable pub row_number : List Bool → ℕ
row_number [] = 0
row_number (b ∷ bs) = cond b 1 0 + 2 * row_number bs

pub record Trays : Type 0 where
  pub nodes : List ℕ
  pub formulas : List ℕ
  pub edges : List ℕ

-- "Records are appended to the node tray in order of identifier. The formula tray holds the input, made formulas following", "Unused parts of the written lengths are zero"
unfoldable pub trays_of : State → Trays
trays_of s =
    record {
      nodes = padded node_tray_length (concat_map node_bytes s.nodes);
      formulas = padded formula_tray_length (concat_map record_bytes s.formulas);
      edges = padded edge_tray_length (map row_number s.graph.rows);
    }

-- "12 zeroes the three lengths"
unfoldable pub zero_trays : Trays
zero_trays = record { nodes = replicate node_tray_length 0; formulas = replicate formula_tray_length 0; edges = replicate edge_tray_length 0 }

-- "Only these lengths are written; anything beyond stays"
unfoldable pub over : List ℕ → List ℕ → List ℕ
over written lent = written ++ drop (length written) lent

unfoldable pub laid_over : Trays → Trays → Trays
laid_over t lent =
    record { nodes = over t.nodes lent.nodes; formulas = over t.formulas lent.formulas; edges = over t.edges lent.edges }
