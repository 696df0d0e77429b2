-- The lines of the flags 0 to 7.
use Rattle.std.specs.Prelude.{List, [], ◌++◌, ℕ, zero, suc, ◌≡◌, ⊤, Result, Ok, Err}
use Rattle.definition.specs.Trays.{zero_trays}
use Rattle.definition.specs.Call.{Answer, refusal, answer}
use Rattle.frames.specs.Line.{line_of}
use Rattle.frames.specs.Window.{Window}
use Rattle.frames.specs.declared.error.RunError.{RunError}
use Rattle.frames.specs.declared.error.RunError.TheVariants.{ArgumentGiven, ReadFailed, WriteFailed}

-- the lines of the flags below n, by the answer to each
unfoldable pub lines_below : ℕ → (ℕ → Answer) → List ℕ
lines_below zero answers = []
lines_below (suc flags) answers = lines_below flags answers ++ line_of flags (answers flags)

-- the answers to a branch
abbrev pub answers_of : List ℕ → ℕ → Answer
answers_of branch flags = answer branch flags zero_trays

abbrev pub eight_lines : List ℕ → List ℕ
eight_lines branch = lines_below 8 (answers_of branch)

-- one refusal, whatever the flags
abbrev pub refusals : ℕ → ℕ → ℕ → Answer
refusals number place flags = refusal number place

abbrev pub refusal_lines : ℕ → ℕ → List ℕ
refusal_lines number place = lines_below 8 (refusals number place)

-- the bytes kept are the window of a whole input, and the text is the eight lines of each input that they may be the window of
pub record Printed (kept : List ℕ) (seen : ℕ) (text : List ℕ) : Type 0 where
  pub whole : List ℕ
  pub held : Window whole kept seen
  pub lines : (input : List ℕ) → Window input kept seen → text ≡ eight_lines input

-- what a run without arguments leaves in what it was lent: after a read error, any text
abbrev pub Runs : List ℕ → ℕ → List ℕ → Result ⊤ RunError → Type 0
Runs kept seen text (Err (ArgumentGiven taken)) = ⊥
Runs kept seen text (Err ReadFailed) = Unit {0}
Runs kept seen text (Err WriteFailed) = Printed kept seen text
Runs kept seen text (Ok done) = Printed kept seen text
