use Rattle.std.proofs.Common.{◌≡◌, ℕ, ◌≤◌, ◌<◌, ◌*◌, length}
use Rattle.definition.specs.Call as Call
use Rattle.frames.specs.Line.{line_length, line_of}
use Rattle.frames.specs.Lines.{lines_below}
use Rattle.frames.proofs.lines_by.Given as goal

-- After each turn the text is the lines of the flags before `flags`.
abbrev pub invariant-loop-flags : goal.invariant-loop-flags
invariant-loop-flags g l =
    (length l.text.items ≤ line_length * l.flags)
    × ((answers : ℕ → Call.Answer) → ((flags : ℕ) (r : _) → flags < 8 → g.F.Fn.post l.line_at (flags, tt) r → r.items ≡ line_of flags (answers flags)) → l.text.items ≡ lines_below l.flags answers)
