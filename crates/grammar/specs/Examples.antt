-- Texts, and what each comes to; and the bytes of one text's records.
use Rattle.std.specs.Prelude.{List, [], ◌∷◌, ℕ}
use Prim.Native.Char.{code}
use Prim.Native.String.{String, [] as empty, ◌∷◌ as ◌then◌}
use Rattle.definition.specs.Formula.{Form, atom, non, and, or, imply, bi_imply, strict_imply, possible, necessary}
use Rattle.grammar.specs.Reading.{Reads, UnreadableAt}

-- its formulas, or the offset where it is garbled
pub data Outcome : Type 0 where
  taken : List Form → Outcome
  unreadable : ℕ → Outcome

abbrev pub ComesTo : List ℕ → Outcome → Type 0
ComesTo bytes (taken ps) = Reads bytes ps
ComesTo bytes (unreadable o) = UnreadableAt bytes o

pub record Example : Type 0 where
  pub text : List ℕ
  pub outcome : Outcome

-- the bytes of a quoted text, each character of which has a number below 256
abbrev bytes : String → List ℕ
bytes empty = []
bytes (c then s) = code c ∷ bytes s

abbrev takes : String → List Form → Example
takes s ps = record { text = bytes s; outcome = taken ps }

abbrev fails : String → ℕ → Example
fails s o = record { text = bytes s; outcome = unreadable o }

abbrev a0 : Form
a0 = atom 0

abbrev a1 : Form
a1 = atom 1

abbrev a2 : Form
a2 = atom 2

-- "children first, left before right, unshared", each line's own record marked: a7 -> a7 & a520 and ~a9, on two lines
abbrev pub two_lines : List Form
two_lines = imply (atom 7) (and (atom 7) (atom 520)) ∷ non (atom 9) ∷ []

-- first those that belong to the grammar; then tokens that can't continue at their first byte; then tokens in a wrong place, and texts that end short
abbrev pub table : List Example
table =
    takes "" []
    ∷ takes "   " []
    ∷ takes "a65535\n" (atom 65535 ∷ [])
    ∷ takes "a0\n  " (a0 ∷ [])
    ∷ takes " a0\n a1 \na2\n" (a0 ∷ a1 ∷ a2 ∷ [])
    ∷ takes "a7->a7&a520\n~a9\n" two_lines
    ∷ takes "~[]<>a0\n" (non (necessary (possible a0)) ∷ [])
    ∷ takes "[] (<> ( a0 ))\n" (necessary (possible a0) ∷ [])
    ∷ takes "~a0 & a1\n" (and (non a0) a1 ∷ [])
    ∷ takes "~(a0 & a1)\n" (non (and a0 a1) ∷ [])
    ∷ takes "a0 & a1 | a2\n" (or (and a0 a1) a2 ∷ [])
    ∷ takes "a0|a1&a2\n" (or a0 (and a1 a2) ∷ [])
    ∷ takes "a0 | a1 -> a2\n" (imply (or a0 a1) a2 ∷ [])
    ∷ takes "a0 -> a1 => a2\n" (imply a0 (strict_imply a1 a2) ∷ [])
    ∷ takes "a0 => a1 -> a2\n" (strict_imply a0 (imply a1 a2) ∷ [])
    ∷ takes "a0 <-> a1 -> a2\n" (bi_imply a0 (imply a1 a2) ∷ [])
    ∷ takes "a0 -> a1 <-> a2\n" (bi_imply (imply a0 a1) a2 ∷ [])
    ∷ takes "a0 <-> a1 <-> a2\n" (bi_imply a0 (bi_imply a1 a2) ∷ [])
    ∷ takes "a0 & a1 & a2\n" (and (and a0 a1) a2 ∷ [])
    ∷ takes "a0 | a1 | a2\n" (or (or a0 a1) a2 ∷ [])
    ∷ takes "a0 & (a1 & a2)\n" (and a0 (and a1 a2) ∷ [])
    ∷ fails "a" 0
    ∷ fails "a01" 0
    ∷ fails "a65536" 0
    ∷ fails "<-" 0
    ∷ fails "=" 0
    ∷ fails "\t" 0
    ∷ fails "\r" 0
    ∷ fails "a\n" 0
    ∷ fails "a01\n" 0
    ∷ fails "a65536\n" 0
    ∷ fails "a0 -" 3
    ∷ fails "[" 0
    ∷ fails "[ ]\n" 0
    ∷ fails "a0 <- a1\n" 3
    ∷ fails "a0 = a1\n" 3
    ∷ fails "a0\t\n" 2
    ∷ fails "a0\r\n" 2
    ∷ fails "a0 \u{80} a1\n" 3
    ∷ fails "a0ÿ\n" 2
    ∷ fails "a0" 2
    ∷ fails "((" 2
    ∷ fails "a0 ->  " 7
    ∷ fails "\n" 0
    ∷ fails "a0\n\na1\n" 3
    ∷ fails "(a0\n" 3
    ∷ fails "a0 a1\n" 3
    ∷ fails "()\n" 1
    ∷ fails "a0)\n" 2
    ∷ fails "a0 & \n" 5
    ∷ fails "a0 ~a1\n" 3
    ∷ []

-- kind, mark, and two fields, low byte first; records 0 to 4 are of the first line, 5 and 6 of the second
abbrev pub two_lines_bytes : List (List ℕ)
two_lines_bytes =
    (0 ∷ 0 ∷ 7 ∷ 0 ∷ 0 ∷ 0 ∷ [])
    ∷ (0 ∷ 0 ∷ 7 ∷ 0 ∷ 0 ∷ 0 ∷ [])
    ∷ (0 ∷ 0 ∷ 8 ∷ 2 ∷ 0 ∷ 0 ∷ [])
    ∷ (2 ∷ 0 ∷ 1 ∷ 0 ∷ 2 ∷ 0 ∷ [])
    ∷ (4 ∷ 1 ∷ 0 ∷ 0 ∷ 3 ∷ 0 ∷ [])
    ∷ (0 ∷ 0 ∷ 9 ∷ 0 ∷ 0 ∷ 0 ∷ [])
    ∷ (1 ∷ 1 ∷ 5 ∷ 0 ∷ 0 ∷ 0 ∷ [])
    ∷ []
