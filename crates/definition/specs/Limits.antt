-- The limits of the paper, and the lengths of its records and trays: each number once, and from these what the paper derives.
-- Code has the same numbers, under the same names, in crates/limits/src.
use Rattle.std.specs.Prelude.{◌≡◌, ℕ, ◌+◌, ◌*◌}

-- "a branch is a run of 6-byte records"
abbrev pub record_length : ℕ
record_length = 6

-- "overlong: more than 256 records"
abbrev pub most_records : ℕ
most_records = 256

-- "oversize: expanded size above 4,096"
abbrev pub most_size : ℕ
most_size = 4096

-- "bad tick: flag byte 16 or more"
abbrev pub most_flags : ℕ
most_flags = 15

-- "crowded: more than 64 marked"
abbrev pub most_marked : ℕ
most_marked = 64

-- "14 "long slip", above 4,096 bytes": the bytes of a text
abbrev pub most_text : ℕ
most_text = 4096

-- "atoms are a0 to a65535"
abbrev pub largest_atom : ℕ
largest_atom = 65535

-- "full: the run defined below issues more than 512 identifiers"
abbrev pub most_identifiers : ℕ
most_identifiers = 512

-- "A step is done while (..) fewer than 25 worlds exist": the stop
abbrev pub world_limit : ℕ
world_limit = 25

-- "edges (25 numbers of 32 bits)": so many worlds have room in the graph, whatever the stop
abbrev pub graph_width : ℕ
graph_width = 25

-- "A node record is 12 bytes"
abbrev pub node_length : ℕ
node_length = 12

-- the input, and two formulas for each of the steps, which are no more than the identifiers
abbrev pub most_formulas : ℕ
most_formulas = most_records + 2 * most_identifiers

-- "Three trays are lent": as many records as there can be nodes, formulas and rows of the graph
abbrev pub node_tray_length : ℕ
node_tray_length = node_length * most_identifiers

abbrev pub formula_tray_length : ℕ
formula_tray_length = record_length * most_formulas

abbrev pub edge_tray_length : ℕ
edge_tray_length = graph_width

-- "into a tray of 24,576 bytes": a record for each byte of a text
abbrev pub text_tray_length : ℕ
text_tray_length = record_length * most_text

-- "nodes (6,144 bytes), formulas (7,680 bytes), edges (25 numbers of 32 bits)", "a tray of 24,576 bytes": what is derived here has the paper's figures
abbrev pub PaperLengths : Type 0
PaperLengths = (node_tray_length ≡ 6144) × (formula_tray_length ≡ 7680) × (edge_tray_length ≡ 25) × (text_tray_length ≡ 24576)
