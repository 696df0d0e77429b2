-- What the levels read, and where a phrase ends.
use Rattle.std.specs.Prelude.{◌≡◌, List, ◌∷◌, ◌++◌, ℕ, suc, ◌+◌, ◌*◌, ◌≤◌, ◌<◌, length, Option, Some, None}
use Rattle.std.proofs.Math.Option.{some}
use Rattle.definition.specs.Formula.{Form}
use Rattle.definition.specs.Records.{Rec}
use Rattle.definition.specs.Trays.{two}
use Rattle.definition.specs.Lists.{padded}
use Rattle.definition.specs.Limits.{record_length, most_text, text_tray_length}
use Rattle.grammar.specs.Tokens.{Token, joint, closing, level, loosest}
use Rattle.grammar.specs.Grammar.{Text}
use Rattle.grammar.specs.Automaton.{Ends, Takes, Fails, fresh, run, operator, Refuses}
use Rattle.grammar.specs.Lines.{records_of, lines_from, tray_of}
use Rattle.lexer.specs.Words.{joint_of, tokens_from, Spot}
use Rattle.lexer.specs.declared.Joint.{Joint}
use Rattle.lexer.specs.declared.Word.{Word}

-- up to this level & and | group to the left, above it the arrows to the right
abbrev pub last_leftward : ℕ
last_leftward = 2

-- a formula is read from `at` to `end`, and its records are in the tray, behind `count` others
pub record Span (words : List Word) (at count : ℕ) (before after : List ℕ) (form : Form) (end written : ℕ) : Type 0 where
  pub moves : at < end
  pub inside : end ≤ most_text
  pub count_is : written ≡ count + length (records_of form 0 count)
  pub some : count < written
  pub few : written + at ≤ count + end
  pub holds : (rs : List Rec) → length rs ≡ count → before ≡ tray_of rs → after ≡ tray_of (rs ++ records_of form 0 count)

-- it is a phrase of the level
pub record Got (words : List Word) (at l count : ℕ) (before after : List ℕ) (end written : ℕ) : Type 0 where
  pub form : Form
  pub takes : Takes l (tokens_from words at) form (tokens_from words end)
  pub ends : Ends l (tokens_from words end)
  pub span : Span words at count before after form end written

-- no phrase begins there: somewhere the tokens can't go on
abbrev pub Lost : List Word → ℕ → Type 0
Lost words at = (rest : List Token) × Fails (tokens_from words at) rest

-- no phrase is read, or one is, up to `end`
abbrev pub Parsed : List Word → ℕ → ℕ → ℕ → List ℕ → List ℕ → ℕ → Option ℕ → Type 0
Parsed words at l count before after written None = Lost words at
Parsed words at l count before after written (Some end) = Got words at l count before after end written

-- wherever a phrase of level k is read up to `first`, the phrase of level k + 1 that it begins is read
abbrev pub Grouped : List Word → ℕ → ℕ → ℕ → List ℕ → List ℕ → ℕ → Option ℕ → Type 0
Grouped words first made l entry exit written r = (at k n : ℕ) (before : List ℕ) → l ≡ suc k → n ≤ at → Got words at k n before entry first made → Parsed words at l n before exit written r

-- record n, with mark 0, is put behind those before it
abbrev pub Puts : List ℕ → List ℕ → ℕ → ℕ → ℕ → ℕ → Type 0
Puts before after n kind l r = (s : List ℕ) → length s ≡ record_length * n → before ≡ padded text_tray_length s → after ≡ padded text_tray_length (s ++ (kind ∷ 0 ∷ (two l ++ two r)))

-- a joint of the level
pub record Joins (words : List Word) (at l : ℕ) (j : Joint) : Type 0 where
  pub level_is : level (joint_of j) ≡ l
  pub spot : Spot words at (joint (joint_of j))

-- or there is none, so that a phrase of the level below that ends there is one of the level
abbrev pub JointAt : List Word → ℕ → ℕ → Option Joint → Type 0
JointAt words at l None = (k : ℕ) → l ≡ suc k → Ends k (tokens_from words at) → Ends l (tokens_from words at)
JointAt words at l (Some j) = Joins words at l j

-- behind the closing bracket; or what stands there can't follow a phrase within brackets
abbrev pub Closed : List Word → ℕ → Option ℕ → Type 0
Closed words at None = Ends loosest (tokens_from words at) → (d : ℕ) → Refuses (operator (suc d)) (tokens_from words at)
Closed words at (Some end) = Spot words at closing × (end ≡ at + 1)

-- where the tokens are a text: its records, each line's own marked, and their number
abbrev pub LinesRead : List Word → List ℕ → ℕ → Type 0
LinesRead words after written =
    run fresh (tokens_from words 0) ≡ some fresh → (ps : List Form) × Text (tokens_from words 0) ps × (after ≡ tray_of (lines_from 0 ps)) × (written ≡ length (lines_from 0 ps)) × (written ≤ most_text)
