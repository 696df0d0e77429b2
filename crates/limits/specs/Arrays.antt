-- The lengths of arrays, by the numbers of the paper that they have room for.
use Rattle.std.specs.Prelude.{ℕ, ◌*◌, ◌/◌}
use Rattle.definition.specs.Limits.{most_identifiers, graph_width}

-- a flag for each pair of worlds
abbrev pub edge_cells : ℕ
edge_cells = graph_width * graph_width

-- the words, of 32 bits each, that hold a bit for each identifier
abbrev pub row_words : ℕ
row_words = most_identifiers / 32

-- a bit for each necessity and identifier
abbrev pub leaf_count : ℕ
leaf_count = most_identifiers * most_identifiers

abbrev pub leaf_words : ℕ
leaf_words = most_identifiers * row_words
