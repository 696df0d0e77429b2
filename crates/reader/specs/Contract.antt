-- The contract of the reader.
use Rattle.std.specs.Prelude.{◌≡◌, List, ℕ, ◌≤◌, ◌<◌, length, Result, Ok, Err}
use Rattle.std.proofs.Math.Option.{some}
use Rattle.definition.specs.Limits.{most_text, text_tray_length}
use Rattle.definition.specs.Formula.{Form}
use Rattle.definition.specs.Trays.{over}
use Rattle.grammar.specs.Grammar.{Text}
use Rattle.grammar.specs.Reading.{Reads, UnreadableAt}
use Rattle.grammar.specs.Lines.{lines_from, tray_of}
use Rattle.grammar.specs.Automaton.{fresh, run}
use Rattle.lexer.specs.Words.{tokens_from}
use Rattle.lexer.specs.declared.Word.{Word}
use Rattle.reader.specs.declared.TextError.{TextError}
use Rattle.reader.specs.declared.TextError.TheVariants as E

-- the text belongs to the grammar: its records are in the tray, "the rest zero", and what is lent beyond stays
pub record Taken (text before after : List ℕ) (count : ℕ) : Type 0 where
  pub forms : List Form
  pub reads : Reads text forms
  pub count_is : count ≡ length (lines_from 0 forms)
  pub tray : after ≡ over (tray_of (lines_from 0 forms)) before

-- "a shorter tray is "short tray", before 14"; "13 "garbled", with the byte offset of the first token that can't continue a text, or the text's length where it
-- ends short; 14 "long slip", above 4,096 bytes, which comes before 13; neither writes"
abbrev pub ReadText : List ℕ → List ℕ → List ℕ → Result ℕ TextError → Type 0
ReadText text before after (Err E.ShortTray) = (length before < text_tray_length) × (after ≡ before)
ReadText text before after (Err E.TooLong) = (text_tray_length ≤ length before) × (most_text < length text) × (after ≡ before)
ReadText text before after (Err (E.Unreadable o)) = (text_tray_length ≤ length before) × (length text ≤ most_text) × UnreadableAt text o × (after ≡ before)
ReadText text before after (Ok count) = (text_tray_length ≤ length before) × (length text ≤ most_text) × Taken text before after count

-- where the tokens are a text: its records are in the tray, and their number
abbrev pub LinesWritten : List Word → List ℕ → List ℕ → ℕ → Type 0
LinesWritten words before after count =
    run fresh (tokens_from words 0) ≡ some fresh →
    (ps : List Form) × Text (tokens_from words 0) ps × (after ≡ over (tray_of (lines_from 0 ps)) before) × (count ≡ length (lines_from 0 ps))
