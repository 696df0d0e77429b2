-- What is proved of the grammar. It imports definitions only; proofs/Theorems proves each claim.
use Rattle.std.specs.Prelude.{◌≡◌, List, ◌++◌, map, ◌⊎◌, ℕ, ◌≤◌, length}
use Rattle.definition.specs.Lists.{Each, concat_map}
use Rattle.definition.specs.Records.{decode, marks}
use Rattle.definition.specs.Formula.{Form, branch_of}
use Rattle.definition.specs.Trays.{record_bytes}
use Rattle.grammar.specs.Lexing.{Placed, tokens_of, Lexes}
use Rattle.grammar.specs.Grammar.{Viable}
use Rattle.grammar.specs.Reading.{Reads, UnreadableAt}
use Rattle.grammar.specs.Lines.{lines_from}
use Rattle.grammar.specs.Examples.{Example, ComesTo, table, two_lines, two_lines_bytes}

-- "a text is taken exactly if it belongs to it, and has one reading"
abbrev pub OneReading : Type 0
OneReading = (bytes : List ℕ) (ps qs : List Form) → Reads bytes ps → Reads bytes qs → ps ≡ qs

-- bytes have one list of tokens
abbrev pub OneLexing : Type 0
OneLexing = (o : ℕ) (bytes : List ℕ) (ts us : List Placed) → Lexes o bytes ts → Lexes o bytes us → ts ≡ us

-- every text belongs to the grammar or is garbled at an offset; none does both; and there is one offset
abbrev pub TakenOrUnreadable : Type 0
TakenOrUnreadable = (bytes : List ℕ) → ((ps : List Form) × Reads bytes ps) ⊎ ((o : ℕ) × UnreadableAt bytes o)

abbrev pub Apart : Type 0
Apart = (bytes : List ℕ) (o : ℕ) (ps : List Form) → UnreadableAt bytes o → Reads bytes ps → ⊥

abbrev pub OneOffset : Type 0
OneOffset = (bytes : List ℕ) (o p : ℕ) → UnreadableAt bytes o → UnreadableAt bytes p → o ≡ p

-- "the first token that can't continue a text": what can be continued at all is continued by bytes, so that no token is thought of that none spell
abbrev pub Continued : Type 0
Continued = (bytes : List ℕ) (ts : List Placed) → Lexes 0 bytes ts → Viable (tokens_of ts) → (more : List ℕ) × (ps : List Form) × Reads (bytes ++ more) ps

-- the branch that a text's records are is the list of its formulas: no more, no fewer, in order
abbrev pub Faithful : Type 0
Faithful = (ps : List Form) → branch_of (lines_from 0 ps) ≡ ps

-- the bytes that are written are a run of records that is read as these records
abbrev pub Decoded : Type 0
Decoded = (ps : List Form) → decode (concat_map record_bytes (lines_from 0 ps)) ≡ lines_from 0 ps

-- no more records than bytes: a tray of text_tray_length has room for every text of at most most_text bytes
abbrev pub Within : Type 0
Within = (bytes : List ℕ) (ps : List Form) → Reads bytes ps → length (lines_from 0 ps) ≤ length bytes

-- "A newline ends a formula, the last included, and marks it": as many marked records as lines
abbrev pub Marked : Type 0
Marked = (ps : List Form) → length (marks (lines_from 0 ps)) ≡ length ps

-- each text of the table comes to what stands beside it
abbrev pub Examples : Type 0
Examples = Each (λ (e : Example). ComesTo e.text e.outcome) table

-- "Records are written children first, left before right, unshared"
abbrev pub Written : Type 0
Written = map record_bytes (lines_from 0 two_lines) ≡ two_lines_bytes
