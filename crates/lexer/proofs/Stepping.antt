-- The automaton's steps on words.
use Rattle.std.proofs.Common.{◌≡◌, refl, subst, ℕ, zero, suc, ◌≤◌, arith}
use Rattle.std.proofs.Math.Option.{Option, none, some}
use Rattle.grammar.specs.Tokens as G
use Rattle.grammar.specs.Tokens.{Token, name, sign, joint, opening, closing, newline, invalid}
use Rattle.grammar.specs.Automaton.{State, fresh, operand, operator, begins, goes_on, step}
use Rattle.lexer.specs.Words.{word_of, token_of}
use Rattle.lexer.specs.Steps.{state_of, depth_of}
use Rattle.lexer.specs.declared.Awaited.{Awaited}

-- a token is that of its word
pub token_word : (t : Token) → token_of (word_of t) ≡ t
token_word (name a) = refl
token_word (sign G.Tilde) = refl
token_word (sign G.Box) = refl
token_word (sign G.Diamond) = refl
token_word (joint G.Ampersand) = refl
token_word (joint G.Bar) = refl
token_word (joint G.Arrow) = refl
token_word (joint G.Double) = refl
token_word (joint G.Both) = refl
token_word opening = refl
token_word closing = refl
token_word newline = refl
token_word invalid = refl

-- a token opens one bracket at most
depth_in : State → ℕ
depth_in fresh = 0
depth_in (operand d) = d
depth_in (operator d) = d

opens : ℕ → Option State → Type 0
opens d none = Unit {0}
opens d (some s) = depth_in s ≤ suc d

begins_deeper : (d : ℕ) (t : Token) → opens d (begins d t)
unfolding depth_in opens
begins_deeper d (name a) = omega arith
begins_deeper d (sign s) = omega arith
begins_deeper d (joint j) = tt
begins_deeper d opening = omega arith
begins_deeper d closing = tt
begins_deeper d newline = tt
begins_deeper d invalid = tt

goes_deeper : (d : ℕ) (t : Token) → opens d (goes_on d t)
unfolding depth_in opens
goes_deeper d (name a) = tt
goes_deeper d (sign s) = tt
goes_deeper d (joint j) = omega arith
goes_deeper d opening = tt
goes_deeper zero closing = tt
goes_deeper (suc d) closing = omega arith
goes_deeper zero newline = omega arith
goes_deeper (suc d) newline = tt
goes_deeper d invalid = tt

depth_same : (x : Awaited) → depth_in (state_of x) ≡ depth_of x
unfolding depth_in
depth_same Awaited.Line = refl
depth_same (Awaited.Operand d) = refl
depth_same (Awaited.Operator d) = refl

pub deeper : (x y : Awaited) (t : Token) → step (state_of x) t ≡ some (state_of y) → depth_of y ≤ suc (depth_of x)
unfolding opens
deeper x y t e = let h : opens (depth_of x) (some (state_of y)) = subst (opens (depth_of x)) e (by x) in omega (arith, depth_same y)
  where
    by : (x : Awaited) → opens (depth_of x) (step (state_of x) t)
    by Awaited.Line = begins_deeper 0 t
    by (Awaited.Operand d) = begins_deeper d t
    by (Awaited.Operator d) = goes_deeper d t
