-- What code has of a token, and what stands at a place of an array of tokens.
use Rattle.std.specs.Prelude.{◌≡◌, List, [], ◌∷◌, ℕ, zero, suc, ◌+◌, ◌-◌, ◌<◌, get_or}
use Rattle.definition.specs.Limits.{most_text}
use Rattle.definition.specs.Records.{number_of}
use Rattle.formula.specs.Kinds.{kind_meant}
use Rattle.formula.specs.declared.Kind.{Kind}
use Rattle.grammar.specs.Tokens as G
use Rattle.grammar.specs.Tokens.{Token, name, sign, joint, opening, closing, newline, invalid}
use Rattle.lexer.specs.declared.Sign.{Sign}
use Rattle.lexer.specs.declared.Joint.{Joint}
use Rattle.lexer.specs.declared.Word.{Word}

-- the kinds that they make
abbrev pub sign_made : Sign → Kind
sign_made Sign.Non = Kind.Non
sign_made Sign.Possible = Kind.Possible
sign_made Sign.Necessary = Kind.Necessary

abbrev pub joint_made : Joint → Kind
joint_made Joint.And = Kind.And
joint_made Joint.Or = Kind.Or
joint_made Joint.Imply = Kind.Imply
joint_made Joint.BiImply = Kind.BiImply
joint_made Joint.StrictImply = Kind.StrictImply

-- and their numbers
abbrev pub sign_kind : Sign → ℕ
sign_kind s = number_of (kind_meant (sign_made s))

abbrev pub joint_kind : Joint → ℕ
joint_kind j = number_of (kind_meant (joint_made j))

-- the grammar's tokens in code
abbrev pub sign_word : G.Sign → Sign
sign_word G.Tilde = Sign.Non
sign_word G.Diamond = Sign.Possible
sign_word G.Box = Sign.Necessary

abbrev pub joint_word : G.Joint → Joint
joint_word G.Ampersand = Joint.And
joint_word G.Bar = Joint.Or
joint_word G.Arrow = Joint.Imply
joint_word G.Both = Joint.BiImply
joint_word G.Double = Joint.StrictImply

abbrev pub word_of : Token → Word
word_of (name a) = Word.Name a
word_of (sign s) = Word.Sign (sign_word s)
word_of (joint j) = Word.Joint (joint_word j)
word_of opening = Word.Opening
word_of closing = Word.Closing
word_of newline = Word.Newline
word_of invalid = Word.Invalid

-- and back; the end is no token
abbrev pub sign_of : Sign → G.Sign
sign_of Sign.Non = G.Tilde
sign_of Sign.Possible = G.Diamond
sign_of Sign.Necessary = G.Box

abbrev pub joint_of : Joint → G.Joint
joint_of Joint.And = G.Ampersand
joint_of Joint.Or = G.Bar
joint_of Joint.Imply = G.Arrow
joint_of Joint.BiImply = G.Both
joint_of Joint.StrictImply = G.Double

abbrev pub token_of : Word → Token
token_of Word.End = invalid
token_of (Word.Name a) = name a
token_of (Word.Sign s) = sign (sign_of s)
token_of (Word.Joint j) = joint (joint_of j)
token_of Word.Opening = opening
token_of Word.Closing = closing
token_of Word.Newline = newline
token_of Word.Invalid = invalid

-- a word before others: the end cuts them off
abbrev pub before : Word → List Token → List Token
before Word.End rest = []
before (Word.Name a) rest = name a ∷ rest
before (Word.Sign s) rest = sign (sign_of s) ∷ rest
before (Word.Joint j) rest = joint (joint_of j) ∷ rest
before Word.Opening rest = opening ∷ rest
before Word.Closing rest = closing ∷ rest
before Word.Newline rest = newline ∷ rest
before Word.Invalid rest = invalid ∷ rest

-- the tokens from a place on, up to the first end, and no more than n
unfoldable pub tokens_within : ℕ → List Word → ℕ → List Token
tokens_within zero words at = []
tokens_within (suc n) words at =
    let rest = tokens_within n words (suc at) in
    before (get_or words at Word.End) rest

abbrev pub tokens_from : List Word → ℕ → List Token
tokens_from words at = tokens_within (most_text - at) words at

-- the tokens from the place on are t and those from the next place on
pub record Spot (words : List Word) (at : ℕ) (t : Token) : Type 0 where
  pub inside : at < most_text
  pub is : tokens_from words at ≡ t ∷ tokens_from words (at + 1)

-- what a word says of a place
abbrev pub Stands : List Word → ℕ → Word → Type 0
Stands words at Word.End = tokens_from words at ≡ []
Stands words at (Word.Name a) = Spot words at (name a)
Stands words at (Word.Sign s) = Spot words at (sign (sign_of s))
Stands words at (Word.Joint j) = Spot words at (joint (joint_of j))
Stands words at Word.Opening = Spot words at opening
Stands words at Word.Closing = Spot words at closing
Stands words at Word.Newline = Spot words at newline
Stands words at Word.Invalid = Spot words at invalid
