use Rattle.std.proofs.Common.{◌≡◌, ◌++◌, ◌+◌, ◌*◌, ◌≤◌, length, take}
use Rattle.definition.specs.Lists.{concat_map}
use Rattle.typed_text.specs.Diagnosis.{shown, shown_length}
use Rattle.typed_text.proofs.append_shown.Given as goal

-- After each turn the bytes before `b` are appended as they are shown.
abbrev pub invariant-loop-b : goal.invariant-loop-b
invariant-loop-b l =
    (length l.out.items ≤ length l.initial.out.items + shown_length * l.b-index)
    × (l.out.items ≡ l.initial.out.items ++ concat_map shown (take l.b-index l.bytes))
