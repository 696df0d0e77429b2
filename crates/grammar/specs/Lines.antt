-- The records of a text's formulas, and the tray that they are written into.
use Rattle.std.specs.Prelude.{List, [], ◌∷◌, ◌++◌, ℕ, ◌+◌, ◌-◌, length}
use Rattle.definition.specs.Limits.{text_tray_length}
use Rattle.definition.specs.Lists.{concat_map, padded}
use Rattle.definition.specs.Records.{Kind, Atomic, Non, And, Or, Imply, BiImply, StrictImply, Possible, Necessary, Rec}
use Rattle.definition.specs.Formula.{Form, atom, non, and, or, imply, bi_imply, strict_imply, possible, necessary}
use Rattle.definition.specs.Trays.{record_bytes}

-- a record by its mark, kind and two fields
abbrev pub rec : ℕ → Kind → ℕ → ℕ → Rec
rec m k a b = record { kind = k; mark = m; left = a; right = b }

-- the records of a part, which has the numbers from n on, and then a record with the mark m that names the part's last one
abbrev pub over : Kind → (ℕ → List Rec) → ℕ → ℕ → List Rec
over k f m n = f n ++ (rec m k (n + length (f n) - 1) 0 ∷ [])

-- the records of two parts, "left before right", and then a record that names the last one of each
abbrev pub between : Kind → (ℕ → List Rec) → (ℕ → List Rec) → ℕ → ℕ → List Rec
between k f g m n =
    let middle = n + length (f n) in
    (f n ++ g middle) ++ (rec m k (middle - 1) (middle + length (g middle) - 1) ∷ [])

-- "Records are written children first, left before right, unshared": a formula's records, the first of which has the number n; its own is the last, with the mark m
unfoldable pub records_of : Form → ℕ → ℕ → List Rec
records_of (atom a) m n = rec m Atomic a 0 ∷ []
records_of (non p) m n = over Non (records_of p 0) m n
records_of (and p q) m n = between And (records_of p 0) (records_of q 0) m n
records_of (or p q) m n = between Or (records_of p 0) (records_of q 0) m n
records_of (imply p q) m n = between Imply (records_of p 0) (records_of q 0) m n
records_of (bi_imply p q) m n = between BiImply (records_of p 0) (records_of q 0) m n
records_of (strict_imply p q) m n = between StrictImply (records_of p 0) (records_of q 0) m n
records_of (possible p) m n = over Possible (records_of p 0) m n
records_of (necessary p) m n = over Necessary (records_of p 0) m n

-- "A newline ends a formula, the last included, and marks it": the records of the lines, from number n on
unfoldable pub lines_from : ℕ → List Form → List Rec
lines_from n [] = []
lines_from n (p ∷ ps) = records_of p 1 n ++ lines_from (n + length (records_of p 1 n)) ps

-- "into a tray of 24,576 bytes, the rest zero"
abbrev pub tray_of : List Rec → List ℕ
tray_of rs = padded text_tray_length (concat_map record_bytes rs)
