-- "What enters": the records of a branch.
use Rattle.std.specs.Prelude.{Bool, cond, List, [], ◌∷◌, map, ℕ, suc, ◌+◌, ◌*◌, ◌/◌, eqb, length, get_or, take}
use Rattle.definition.specs.Limits.{record_length}
use Rattle.definition.specs.Lists.{below}

-- "65535 means no parent, no spawner, no contrarian, or a comment node's formula"; here also no child
abbrev pub nobody : ℕ
nobody = 65535

abbrev pub is_nobody : ℕ → Bool
is_nobody x = eqb x nobody

-- the table's kinds; any other byte; and a comment, which has no record
pub data Kind : Type 0 where
  Atomic Non And Or Imply BiImply StrictImply Possible Necessary Unknown Comment : Kind

unfoldable pub kind_of : ℕ → Kind
kind_of n = get_or (Atomic ∷ Non ∷ And ∷ Or ∷ Imply ∷ BiImply ∷ StrictImply ∷ Possible ∷ Necessary ∷ []) n Unknown

unfoldable pub number_of : Kind → ℕ
number_of Atomic = 0
number_of Non = 1
number_of And = 2
number_of Or = 3
number_of Imply = 4
number_of BiImply = 5
number_of StrictImply = 6
number_of Possible = 7
number_of Necessary = 8
number_of Unknown = 9
number_of Comment = 10

-- "Byte 0 is the kind, byte 1 the mark (..), bytes 2-3 and 4-5 two fields, 16 bits, low byte first"
pub record Rec : Type 0 where
  pub kind : Kind
  pub mark : ℕ
  pub left : ℕ
  pub right : ℕ

abbrev pub is : Kind → Rec → Bool
is k r = eqb (number_of r.kind) (number_of k)

-- how many of the two fields are record numbers, kind by kind
unfoldable pub arity : Kind → ℕ
arity k = get_or (0 ∷ 1 ∷ 2 ∷ 2 ∷ 2 ∷ 2 ∷ 2 ∷ 1 ∷ 1 ∷ []) (number_of k) 0

abbrev pub links : Rec → List ℕ
links r = take (arity r.kind) (r.left ∷ r.right ∷ [])

-- record number i of the bytes; "a branch is a run of 6-byte records, no header"
unfoldable pub record_at : List ℕ → ℕ → Rec
record_at bytes i =
    let byte : ℕ → ℕ = λ j. get_or bytes (record_length * i + j) 0 in
    record { kind = kind_of (byte 0); mark = byte 1; left = byte 2 + 256 * byte 3; right = byte 4 + 256 * byte 5 }

unfoldable pub decode : List ℕ → List Rec
decode bytes = map (record_at bytes) (below (length bytes / record_length))

-- a record that a rule makes: "with mark 0"
abbrev pub made : Kind → ℕ → ℕ → Rec
made k a b = record { kind = k; mark = 0; left = a; right = b }

-- the record of a number, as links name it
unfoldable pub rec_at : List Rec → ℕ → Rec
rec_at rs f = get_or rs f (made Unknown 0 0)

-- the record of a node's formula
unfoldable pub formula_of : List Rec → ℕ → Rec
formula_of rs f = cond (is_nobody f) (made Comment 0 0) (rec_at rs f)

-- the numbers of the marked records, counted from i; "marked records, in order, form the branch"
unfoldable pub marks_from : ℕ → List Rec → List ℕ
marks_from i [] = []
marks_from i (r ∷ rs) =
    let rest = marks_from (suc i) rs in
    cond (eqb r.mark 1) (i ∷ rest) rest

abbrev pub marks : List Rec → List ℕ
marks = marks_from 0
