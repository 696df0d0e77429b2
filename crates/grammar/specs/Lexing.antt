-- The tokens of a text's bytes, each with the offset of its first byte.
use Rattle.std.specs.Prelude.{◌≡◌, Bool, true, false, ◌&&◌, List, [], ◌∷◌, ◌++◌, map, ℕ, suc, ◌+◌, ◌*◌, ◌-◌, ◌≤◌, leb, length}
use Rattle.definition.specs.Limits.{largest_atom}
use Rattle.grammar.specs.Tokens.{Tilde, Box, Diamond, Ampersand, Bar, Arrow, Double, Both, Token, name, sign, joint, opening, closing, newline, invalid}

-- the bytes 48 to 57 are 0 to 9
abbrev pub is_digit : ℕ → Bool
is_digit b = leb 48 b && leb b 57

abbrev pub Digits : List ℕ → Type 0
Digits [] = Unit {0}
Digits (d ∷ ds) = (is_digit d ≡ true) × Digits ds

-- the number of decimal digits, v being that of the digits before
unfoldable pub value_from : ℕ → List ℕ → ℕ
value_from v [] = v
value_from v (d ∷ ds) = value_from (10 * v + (d - 48)) ds

abbrev pub value : List ℕ → ℕ
value = value_from 0

-- "without leading zeros": one digit, or more that do not begin with 0
abbrev pub NoLeadingZero : List ℕ → Type 0
NoLeadingZero [] = ⊥
NoLeadingZero (d ∷ []) = Unit {0}
NoLeadingZero (d ∷ e ∷ ds) = d ≡ 48 → ⊥

-- the bytes of each token: "atoms are a0 to a65535 without leading zeros"; then ~ [] <> & | -> => <-> ( ) and the newline, in ASCII
pub data Spells : List ℕ → Token → Type 0 where
  a_name : (ds : List ℕ) → Digits ds → NoLeadingZero ds → value ds ≤ largest_atom → Spells (97 ∷ ds) (name (value ds))
  a_tilde : Spells (126 ∷ []) (sign Tilde)
  a_box : Spells (91 ∷ 93 ∷ []) (sign Box)
  a_diamond : Spells (60 ∷ 62 ∷ []) (sign Diamond)
  an_ampersand : Spells (38 ∷ []) (joint Ampersand)
  a_bar : Spells (124 ∷ []) (joint Bar)
  an_arrow : Spells (45 ∷ 62 ∷ []) (joint Arrow)
  a_double : Spells (61 ∷ 62 ∷ []) (joint Double)
  a_both : Spells (60 ∷ 45 ∷ 62 ∷ []) (joint Both)
  an_opening : Spells (40 ∷ []) opening
  a_closing : Spells (41 ∷ []) closing
  a_newline : Spells (10 ∷ []) newline

-- "A name is a with every digit after it": so no digit follows a name; anything may follow another token
abbrev pub NoDigit : List ℕ → Type 0
NoDigit [] = Unit {0}
NoDigit (b ∷ bs) = is_digit b ≡ false

abbrev pub Follows : Token → List ℕ → Type 0
Follows (name n) bs = NoDigit bs
Follows (sign s) bs = Unit {0}
Follows (joint j) bs = Unit {0}
Follows opening bs = Unit {0}
Follows closing bs = Unit {0}
Follows newline bs = Unit {0}
Follows invalid bs = Unit {0}

-- no token begins the bytes: a byte of no token, a name that is no atom's, or a token that is cut off
abbrev pub NoToken : List ℕ → Type 0
NoToken bs = (b : List ℕ) (t : Token) (rest : List ℕ) → Spells b t → Follows t rest → b ++ rest ≡ bs → ⊥

-- a token and the offset of its first byte
pub record Placed : Type 0 where
  pub at : ℕ
  pub token : Token

abbrev pub placed : ℕ → Token → Placed
placed o t = record { at = o; token = t }

abbrev pub tokens_of : List Placed → List Token
tokens_of = map (λ (x : Placed). x.token)

-- Lexes o bs ts: the bytes bs, the first of which has the offset o, have the tokens ts. "Spaces are allowed before, between and after tokens", none within one;
-- "a byte, name or cut-off token outside these rules is a token that can't continue, at its first byte": it is the last, since no text goes on from it
pub data Lexes : ℕ → List ℕ → List Placed → Type 0 where
  nothing : {o : ℕ} → Lexes o [] []
  a_space : {o : ℕ} {bs : List ℕ} {ts : List Placed} → Lexes (suc o) bs ts → Lexes o (32 ∷ bs) ts
  a_token : (o : ℕ) {b bs : List ℕ} {t : Token} {ts : List Placed} → Spells b t → Follows t bs → Lexes (o + length b) bs ts → Lexes o (b ++ bs) (placed o t ∷ ts)
  no_token : (o b : ℕ) (bs : List ℕ) → (b ≡ 32 → ⊥) → NoToken (b ∷ bs) → Lexes o (b ∷ bs) (placed o invalid ∷ [])
