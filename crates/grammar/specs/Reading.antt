-- What a text says, and where it is garbled.
use Rattle.std.specs.Prelude.{◌≡◌, List, [], ◌∷◌, ◌++◌, ℕ, length}
use Rattle.definition.specs.Formula.{Form}
use Rattle.grammar.specs.Grammar.{Text, Viable}
use Rattle.grammar.specs.Lexing.{Placed, tokens_of, Lexes}

-- "a text is taken exactly if it belongs to it": the bytes are a text of the grammar, and its lines say the formulas ps
pub record Reads (bytes : List ℕ) (ps : List Form) : Type 0 where
  pub tokens : List Placed
  pub lexed : Lexes 0 bytes tokens
  pub says : Text (tokens_of tokens) ps

-- "the byte offset of the first token that can't continue a text, or the text's length where it ends short": of the tokens `before` and `after`,
-- the first of `after` makes what can be continued to no text; or there is none, and those before are no text yet
abbrev pub At : List ℕ → List Placed → List Placed → ℕ → Type 0
At bytes before [] o = (o ≡ length bytes) × ((ps : List Form) → Text (tokens_of before) ps → ⊥)
At bytes before (x ∷ after) o = (o ≡ x.at) × (Viable (tokens_of before ++ (x.token ∷ [])) → ⊥)

-- the tokens before can be continued, so that the one after is the first that can't
pub record UnreadableAt (bytes : List ℕ) (o : ℕ) : Type 0 where
  pub before : List Placed
  pub after : List Placed
  pub lexed : Lexes 0 bytes (before ++ after)
  pub viable : Viable (tokens_of before)
  pub there : At bytes before after o
