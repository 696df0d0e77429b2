-- What code and proofs go by; the paper needs none of it: the next token, found by a table and by a name's digits. That these are the tokens of Lexing,
-- and no others, is proved in proofs/Lexed.
use Rattle.std.specs.Prelude.{Bool, true, false, cond, not, ◌&&◌, ◌||◌, List, [], ◌∷◌, ℕ, zero, suc, ◌+◌, eqb, leb, length, get_or, drop}
use Rattle.definition.specs.Limits.{largest_atom}
use Rattle.grammar.specs.Tokens.{Tilde, Box, Diamond, Ampersand, Bar, Arrow, Double, Both, Token, name, sign, joint, opening, closing, newline, invalid}
use Rattle.grammar.specs.Lexing.{is_digit, value, Placed, placed}

-- what begins the bytes: a token and the number of its bytes, or no token
pub data Scan : Type 0 where
  found : Token → ℕ → Scan
  lost : Scan

-- an entry of the table: up to three bytes, 0 where the spelling is shorter
pub record Entry : Type 0 where
  pub first : ℕ
  pub second : ℕ
  pub third : ℕ
  pub token : Token
  pub size : ℕ

abbrev entry : ℕ → ℕ → ℕ → Token → ℕ → Entry
entry a b c t n = record { first = a; second = b; third = c; token = t; size = n }

-- every token but names
abbrev pub table : List Entry
table =
    entry 126 0 0 (sign Tilde) 1
    ∷ entry 38 0 0 (joint Ampersand) 1
    ∷ entry 124 0 0 (joint Bar) 1
    ∷ entry 40 0 0 opening 1
    ∷ entry 41 0 0 closing 1
    ∷ entry 10 0 0 newline 1
    ∷ entry 91 93 0 (sign Box) 2
    ∷ entry 60 62 0 (sign Diamond) 2
    ∷ entry 45 62 0 (joint Arrow) 2
    ∷ entry 61 62 0 (joint Double) 2
    ∷ entry 60 45 62 (joint Both) 3
    ∷ []

-- whether bytes that begin with a, b and c (0 where they end) begin with the entry's
abbrev pub hits : Entry → ℕ → ℕ → ℕ → Bool
hits e a b c = eqb a e.first && ((eqb e.second 0 || eqb b e.second) && (eqb e.third 0 || eqb c e.third))

-- the first entry that does
abbrev pub first_hit : List Entry → ℕ → ℕ → ℕ → Scan
first_hit [] a b c = lost
first_hit (e ∷ es) a b c =
    let rest = first_hit es a b c in
    cond (hits e a b c) (found e.token e.size) rest

-- the digits that begin the bytes, all of them
abbrev pub digits_of : List ℕ → List ℕ
digits_of [] = []
digits_of (b ∷ bs) =
    let rest = digits_of bs in
    cond (is_digit b) (b ∷ rest) []

-- some digits, without a leading zero
abbrev pub well_begun : List ℕ → Bool
well_begun [] = false
well_begun (d ∷ []) = true
well_begun (d ∷ e ∷ ds) = not (eqb d 48)

-- a name by all digits after its a
unfoldable pub name_by : List ℕ → Scan
name_by ds = cond (well_begun ds && leb (value ds) largest_atom) (found (name (value ds)) (suc (length ds))) lost

-- what begins the bytes; 97 is a
unfoldable pub scan : List ℕ → Scan
scan bs = cond (eqb (get_or bs 0 0) 97) (name_by (digits_of (drop 1 bs))) (first_hit table (get_or bs 0 0) (get_or bs 1 0) (get_or bs 2 0))

-- the token at the offset o, and then the tokens of what follows its bytes
abbrev pub placing : ℕ → Scan → (ℕ → List Placed) → List Placed
placing o (found t k) next = placed o t ∷ next k
placing o lost next = placed o invalid ∷ []

-- the tokens of the bytes, the first of which has the offset o; the first number only bounds how many bytes are looked at
unfoldable pub lex_from : ℕ → ℕ → List ℕ → List Placed
lex_from zero o bs = []
lex_from (suc n) o [] = []
lex_from (suc n) o (b ∷ bs) = cond (eqb b 32) (lex_from n (suc o) bs) (placing o (scan (b ∷ bs)) (λ k. lex_from n (o + k) (drop k (b ∷ bs))))

-- the tokens from an offset of the text on
unfoldable pub lexed : List ℕ → ℕ → List Placed
lexed text at = lex_from (length (drop at text)) at (drop at text)
