-- The counts of a file, from its bytes.
use Rattle.std.specs.Prelude.{◌≡◌, cond, List, [], ◌∷◌, ◌++◌, ℕ, eqb, ltb, length}
use Rattle.cases.specs.Tally.{one_failed, finished}
use Rattle.cases.specs.declared.reading.Tally.{Tally}

-- the line so far, and the counts
pub record Reading : Type 0 where
  pub held : List ℕ
  pub tally : Tally

-- one byte more: a newline ends the line, and what has no room is dropped
unfoldable pub taken : ℕ → Reading → ℕ → Reading
taken room s b =
    cond (eqb b 10)
    (record { held = []; tally = finished s.held s.tally })
    (cond (ltb (length s.held) room) (record { held = s.held ++ (b ∷ []); tally = s.tally }) s)

unfoldable pub all_taken : ℕ → Reading → List ℕ → Reading
all_taken room s [] = s
all_taken room s (b ∷ bs) = all_taken room (taken room s b) bs

-- a file is read from its first line on
abbrev pub file_start : Tally → Tally
file_start t = record { line = 0; cases = t.cases; failed = t.failed }

-- the counts after a file of these bytes; what follows the last newline is no line
unfoldable pub tally_of : Tally → List ℕ → Tally
tally_of t bytes = (all_taken 4096 (record { held = []; tally = file_start t }) bytes).tally

-- r is the tally of the bytes that were read, with one failure more if the reading broke off
pub data FileRead (t r : Tally) : Type 0 where
  whole : (bytes : List ℕ) → r ≡ tally_of t bytes → FileRead t r
  broken : (bytes : List ℕ) → r ≡ one_failed (tally_of t bytes) → FileRead t r

-- ---- the line that is held
abbrev pub reading_of : List ℕ → Tally → Reading
reading_of line t = record { held = line; tally = t }

-- the most bytes of a line that are held
abbrev pub longest_line : ℕ
longest_line = 4096

-- the bytes bring one line and tally to the other
pub record Takes (line : List ℕ) (t : Tally) (bytes after : List ℕ) (r : Tally) : Type 0 where
  pub is : reading_of after r ≡ all_taken longest_line (reading_of line t) bytes
