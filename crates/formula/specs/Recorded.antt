-- The records in a table of `most_formulas` entries.
use Rattle.std.specs.Prelude.{ℕ, ◌≤◌, ◌<◌, ◌≡◌, List, map}
use Rattle.definition.specs.Limits.{most_formulas}
use Rattle.definition.specs.Records.{nobody, Rec, Unknown, made, number_of, kind_of}
use Rattle.arrays.specs.Table.{Tabled}
use Rattle.formula.specs.declared.Record.{Record}
use Rattle.formula.specs.declared.Formulas.{Formulas}

-- what `rec_at` says of a record that is not there
abbrev pub missing : Rec
missing = made Unknown 0 0

-- the entry of a record
abbrev pub stored : Rec → Record
stored r = record { kind = number_of r.kind; mark = r.mark; left = record { 0 = r.left }; right = record { 0 = r.right } }

-- and that of none
abbrev pub blank : Record
blank = record { kind = 0; mark = 0; left = record { 0 = 0 }; right = record { 0 = 0 } }

-- the table holds the records, and count is how many; a count above `most_formulas` says that there are too many, and nothing of the table
pub record Recorded (rs : List Rec) (count : ℕ) (a : List Record) : Type 0 where
  pub held : Tabled most_formulas blank (map stored rs) count a

-- the record with this kind number and these fields; a number above 8 is no kind of the table
abbrev pub rec_of : Record → Rec
rec_of x = record { kind = kind_of x.kind; mark = x.mark; left = x.left.0; right = x.right.0 }

-- the struct holds the records
abbrev pub HasRecords : List Rec → Formulas → Type 0
HasRecords rs f = Recorded rs f.records.len f.records.entries

-- the number of the record that comes after so many; where there are too many, that of a comment, which names no record
abbrev pub IsNext : ℕ → ℕ → Type 0
IsNext count number = (count ≤ most_formulas → number ≡ count) × (most_formulas < count → number ≡ nobody)
