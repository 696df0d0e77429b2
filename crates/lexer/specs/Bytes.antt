-- What code finds in the bytes of a text.
use Rattle.std.specs.Prelude.{◌≡◌, cond, ◌&&◌, List, [], ◌∷◌, ℕ, ◌≤◌, ◌<◌, leb, length, Option, Some, None}
use Rattle.definition.specs.Limits.{largest_atom}
use Rattle.grammar.specs.Tokens.{Token, invalid}
use Rattle.grammar.specs.Lexing.{placed, value}
use Rattle.grammar.specs.Scan.{Scan, found, lost, well_begun, scan, lexed}
use Rattle.lexer.specs.Words.{word_of}
use Rattle.lexer.specs.declared.Word.{Word}
use Rattle.lexer.specs.declared.Next.{Next}
use Rattle.lexer.specs.declared.Spelling.{Spelling}

-- what comes next in the text: its end, a token from `start` up to `end`, or what is none
pub data Shown (text : List ℕ) (at start end : ℕ) : Word → Type 0 where
  no_more : lexed text at ≡ [] → start ≡ length text → Shown text at start end Word.End
  token : (t : Token) → lexed text at ≡ placed start t ∷ lexed text end → at < end → end ≤ length text → Shown text at start end (word_of t)
  not_spelled : lexed text at ≡ placed start invalid ∷ [] → Shown text at start end Word.Invalid

abbrev pub Shows : List ℕ → ℕ → Next → Type 0
Shows text at n = (n.start ≤ length text) × Shown text at n.start n.end n.word

-- a number as an atom has it: none above the largest
abbrev pub Atomic : ℕ → Option ℕ → Type 0
Atomic n None = largest_atom < n
Atomic n (Some a) = (a ≡ n) × (n ≤ largest_atom)

-- the name that the digits after an a make
abbrev pub name_by_digits : List ℕ → Word
name_by_digits ds = cond (well_begun ds && leb (value ds) largest_atom) (Word.Name (value ds)) Word.Invalid

-- what is found as a word and the number of its bytes, of which there are no more than `most`
abbrev pub SpelledAs : Scan → ℕ → Spelling → Type 0
SpelledAs (found t k) most s = (s.word ≡ word_of t) × (s.size ≡ k) × (s.size ≤ most)
SpelledAs lost most s = (s.word ≡ Word.Invalid) × (s.size ≤ most)

-- what begins the bytes: the end, or what the scan finds
abbrev pub Begins : List ℕ → Spelling → Type 0
Begins bytes s = (length bytes ≡ 0 → (s.word ≡ Word.End) × (s.size ≡ 0)) × (0 < length bytes → SpelledAs (scan bytes) (length bytes) s)
