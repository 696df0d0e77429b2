-- The automaton of what can come next, in code.
use Rattle.std.specs.Prelude.{◌≡◌, ℕ, Option, Some, None}
use Rattle.std.proofs.Math.Option as M
use Rattle.grammar.specs.Automaton.{State, fresh, operand, operator}
use Rattle.lexer.specs.declared.Awaited.{Awaited}

abbrev pub state_of : Awaited → State
state_of Awaited.Line = fresh
state_of (Awaited.Operand depth) = operand depth
state_of (Awaited.Operator depth) = operator depth

-- how many brackets are open
abbrev pub depth_of : Awaited → ℕ
depth_of Awaited.Line = 0
depth_of (Awaited.Operand depth) = depth
depth_of (Awaited.Operator depth) = depth

-- a step's answer
abbrev pub FollowedAs : M.Option State → Option Awaited → Type 0
FollowedAs o None = o ≡ M.none
FollowedAs o (Some awaited) = o ≡ M.some (state_of awaited)
