use Rattle.std.proofs.Common.{◌≡◌, ◌++◌, ◌+◌, length, replicate}
use Rattle.typed_text.proofs.append_spaces.Given as goal

-- After each turn as many spaces are appended as turns were made.
abbrev pub invariant-loop : goal.invariant-loop
invariant-loop l = (length l.out.items ≡ length l.initial.out.items + l.counter) × (l.out.items ≡ l.initial.out.items ++ replicate l.counter 32)
