-- What the bytes of the trays that no digest sees have to be.
use Rattle.std.specs.Prelude.{Bool, cond, ◌&&◌, List, ℕ, ◌+◌, ◌*◌, ◌/◌, eqb, leb, ltb, length, get_or}
use Rattle.definition.specs.Limits.{record_length, most_identifiers, node_length, most_formulas, node_tray_length, formula_tray_length, edge_tray_length}
use Rattle.cases.specs.Bytes.{between, two_at, filled, begins_with}

-- byte 10 of the node at a position says whether it has a contrarian; byte 11 is 0
unfoldable pub is_marked : List ℕ → ℕ → Bool
is_marked nodes at =
    ltb at (length nodes) && (eqb (get_or nodes (at + 11) 0) 0 && eqb (get_or nodes (at + 10) 0) (cond (eqb (two_at nodes (at + 8)) 65535) 0 1))

unfoldable pub are_marked : List ℕ → ℕ → Bool
are_marked nodes identifiers = between (λ i. is_marked nodes (node_length * i)) 0 identifiers

-- made formulas have mark 0
unfoldable pub are_made : List ℕ → ℕ → ℕ → Bool
are_made formulas from to = between (λ i. eqb (get_or formulas (record_length * i + 1) 0) 0) from to

-- what is written ends in zeros, and what lies beyond the tray is as it was lent
unfoldable pub is_ended : List ℕ → ℕ → ℕ → Bool
is_ended tray used size = filled tray used size 0 && filled tray size (length tray) 255

unfoldable pub nodes_agree : List ℕ → ℕ → Bool
nodes_agree nodes identifiers = leb identifiers most_identifiers && (are_marked nodes identifiers && is_ended nodes (node_length * identifiers) node_tray_length)

unfoldable pub formulas_agree : List ℕ → List ℕ → ℕ → Bool
formulas_agree formulas branch count =
    leb count most_formulas && (begins_with formulas branch && (are_made formulas (length branch / record_length) count && is_ended formulas (record_length * count) formula_tray_length))

-- a row that is no world's is 0 in the tray; beyond it, it is as it was lent
unfoldable pub unused_row : ℕ → ℕ
unused_row u = cond (ltb u edge_tray_length) 0 4294967295

-- the rows from the first that is no world
unfoldable pub edges_agree : List ℕ → ℕ → Bool
edges_agree edges worlds = between (λ u. eqb (get_or edges u 0) (unused_row u)) worlds (length edges)

-- the trays are zeros
unfoldable pub are_zero : List ℕ → List ℕ → List ℕ → Bool
are_zero nodes formulas edges = is_ended nodes 0 node_tray_length && (is_ended formulas 0 formula_tray_length && edges_agree edges 0)
