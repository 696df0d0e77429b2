-- What the scan of a text comes to.
use Rattle.std.specs.Prelude.{◌≡◌, List, ℕ, ◌≤◌, ◌<◌, length, replicate, Result, Ok, Err}
use Rattle.std.proofs.Math.Option.{some}
use Rattle.definition.specs.Limits.{most_text}
use Rattle.grammar.specs.Lexing.{tokens_of}
use Rattle.grammar.specs.Scan.{lexed}
use Rattle.grammar.specs.Automaton.{fresh, run}
use Rattle.grammar.specs.Reading.{UnreadableAt}
use Rattle.lexer.specs.Words.{tokens_from}
use Rattle.lexer.specs.declared.Word.{Word}
use Rattle.lexer.specs.declared.ScanError.{ScanError}

-- a text above the limit; the text's tokens, in an array that had none, which the automaton takes; or where the text can't go on
abbrev pub ScannedAs : List ℕ → List Word → List Word → Result Unit ScanError → Type 0
ScannedAs text before words (Err ScanError.TooLong) = most_text < length text
ScannedAs text before words (Err (ScanError.Unreadable o)) = (length text ≤ most_text) × UnreadableAt text o
ScannedAs text before words (Ok _) =
    (length text ≤ most_text) × (before ≡ replicate most_text Word.End → (tokens_from words 0 ≡ tokens_of (lexed text 0)) × (run fresh (tokens_from words 0) ≡ some fresh))
