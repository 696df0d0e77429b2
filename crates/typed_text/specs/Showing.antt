-- What is printed of typed rules.
use Rattle.std.specs.Prelude.{◌≡◌, List, ℕ, ◌≤◌, ◌<◌, length, ⊤, Option, None, Some, Result, Ok, Err}
use Rattle.definition.specs.Limits.{most_text}
use Rattle.definition.specs.RefusalNumbers.{unreadable_text, text_too_long}
use Rattle.definition.specs.Lists.{concat_map}
use Rattle.definition.specs.Trays.{record_bytes}
use Rattle.definition.specs.Formula.{Form}
use Rattle.grammar.specs.Reading.{Reads, UnreadableAt}
use Rattle.grammar.specs.Lines.{lines_from}
use Rattle.frames.specs.Lines.{eight_lines, refusal_lines}
use Rattle.frames.specs.declared.error.RunError.{RunError}
use Rattle.frames.specs.declared.error.RunError.TheVariants.{ArgumentGiven, ReadFailed, WriteFailed}
use Rattle.reader.specs.declared.TextError.{TextError}
use Rattle.reader.specs.declared.TextError.TheVariants.{ShortTray, TooLong, Unreadable}

-- the lines of a text: "14 "long slip", above 4,096 bytes, which comes before 13"; "13 "garbled", with the byte offset";
-- of a text that is taken, the eight lines of its records
pub record ShowsText (text out : List ℕ) : Type 0 where
  pub long : most_text < length text → out ≡ refusal_lines text_too_long 0
  pub unreadable : length text ≤ most_text → (o : ℕ) → UnreadableAt text o → out ≡ refusal_lines unreadable_text o
  pub taken : length text ≤ most_text → (ps : List Form) → Reads text ps → out ≡ eight_lines (concat_map record_bytes (lines_from 0 ps))

-- the offset of a text that is garbled
abbrev pub offset_of : TextError → Option ℕ
offset_of ShortTray = None
offset_of TooLong = None
offset_of (Unreadable o) = Some o

-- what is answered of a text: the lines, and for 13 the offset
abbrev pub ShownAs : List ℕ → List ℕ → Option ℕ → Type 0
ShownAs text out None = ShowsText text out
ShownAs text out (Some o) = ShowsText text out × (length text ≤ most_text) × UnreadableAt text o × (o ≤ length text)

-- what a run without arguments leaves in what it was lent: the bytes read, and the lines; after a read error any
abbrev pub Runs : List ℕ → List ℕ → Result ⊤ RunError → Type 0
Runs kept text (Err (ArgumentGiven taken)) = ⊥
Runs kept text (Err ReadFailed) = Unit {0}
Runs kept text (Err WriteFailed) = ShowsText kept text
Runs kept text (Ok done) = ShowsText kept text
