use Rattle.std.proofs.Common.{◌≡◌, ◌≤◌, drop}
use Rattle.definition.specs.Limits.{largest_atom}
use Rattle.grammar.specs.Lexing.{Digits, value_from, value}
use Rattle.lexer.proofs.number.Given as goal

abbrev pub invariant-loop-digit : goal.invariant-loop-digit
invariant-loop-digit l = (l.number ≤ largest_atom) × Digits (drop l.digit-index l.digits) × (value_from l.number (drop l.digit-index l.digits) ≡ value l.digits)
