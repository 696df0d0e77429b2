-- What code and proofs go by; the paper needs none of it: what ends a phrase, which token can come next, and what reading a phrase comes to.
use Rattle.std.specs.Prelude.{◌≡◌, List, [], ◌∷◌, ◌++◌, ℕ, zero, suc, ◌<◌, length}
use Rattle.std.proofs.Math.Option.{Option, none, some}
use Rattle.definition.specs.Formula.{Form}
use Rattle.grammar.specs.Tokens.{Token, name, sign, joint, opening, closing, newline, invalid, level}
use Rattle.grammar.specs.Grammar.{Phrase}
use Rattle.grammar.specs.Lexing.{Placed}

-- what ends a phrase of the level l: the end of the tokens, or a token that is no joint of that level or a tighter one
abbrev pub Stops : ℕ → Token → Type 0
Stops l (name a) = Unit {0}
Stops l (sign s) = Unit {0}
Stops l (joint j) = l < level j
Stops l opening = Unit {0}
Stops l closing = Unit {0}
Stops l newline = Unit {0}
Stops l invalid = Unit {0}

abbrev pub Ends : ℕ → List Token → Type 0
Ends l [] = Unit {0}
Ends l (t ∷ ts) = Stops l t

-- what is wanted next: a line, or no more; an operand (a name, a sign or an opening bracket), within so many open brackets; or what follows an operand
pub data State : Type 0 where
  fresh : State
  operand operator : ℕ → State

-- where an operand is wanted
abbrev pub begins : ℕ → Token → Option State
begins d (name a) = some (operator d)
begins d (sign s) = some (operand d)
begins d opening = some (operand (suc d))
begins d (joint j) = none
begins d closing = none
begins d newline = none
begins d invalid = none

-- a closing bracket, within so many open ones
abbrev pub out_of : ℕ → Option State
out_of zero = none
out_of (suc d) = some (operator d)

-- a newline, which no bracket holds
abbrev pub end_of_line : ℕ → Option State
end_of_line zero = some fresh
end_of_line (suc d) = none

-- where an operand has been read
abbrev pub goes_on : ℕ → Token → Option State
goes_on d (name a) = none
goes_on d (sign s) = none
goes_on d opening = none
goes_on d (joint j) = some (operand d)
goes_on d closing = out_of d
goes_on d newline = end_of_line d
goes_on d invalid = none

-- the state after one token; none where it can't continue
abbrev pub step : State → Token → Option State
step fresh t = begins 0 t
step (operand d) t = begins d t
step (operator d) t = goes_on d t

abbrev pub stepped : Option State → Token → Option State
stepped none t = none
stepped (some s) t = step s t

-- the state after the tokens; none where one of them can't continue
abbrev pub runs : List Token → Option State → Option State
runs [] o = o
runs (t ∷ ts) o = runs ts (stepped o t)

abbrev pub run : State → List Token → Option State
run s ts = runs ts (some s)

-- the tokens end short where more is wanted
abbrev pub Unfinished : State → Type 0
Unfinished fresh = ⊥
Unfinished (operand d) = Unit {0}
Unfinished (operator d) = Unit {0}

-- the tokens end short, or the first of them can't continue
abbrev pub Refuses : State → List Token → Type 0
Refuses w [] = Unfinished w
Refuses w (t ∷ ts) = step w t ≡ none

-- from s, the tokens are taken up to r, and there it stops
pub record Halts (s : State) (ts r : List Token) : Type 0 where
  pub before : List Token
  pub state : State
  pub split : ts ≡ before ++ r
  pub taken : run s before ≡ some state
  pub refuses : Refuses state r

-- the tokens begin with a phrase of the level that says p, and r is left
pub record Takes (l : ℕ) (ts : List Token) (p : Form) (r : List Token) : Type 0 where
  pub tokens : List Token
  pub split : ts ≡ tokens ++ r
  pub reads : Phrase l tokens p

-- where an operand is wanted, whatever the brackets around, the tokens stop at r
abbrev pub Fails : List Token → List Token → Type 0
Fails ts r = (d : ℕ) → Halts (operand d) ts r

-- where the tokens vs begin: the offset of the first, or the text's length
abbrev pub offset : List ℕ → List Placed → ℕ
offset text [] = length text
offset text (x ∷ vs) = x.at
