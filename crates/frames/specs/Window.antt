-- What is kept of an input of any length: enough of it for the answer.
use Rattle.std.specs.Prelude.{◌≡◌, cond, List, ℕ, ◌+◌, ◌*◌, ◌-◌, ◌%◌, ◌≤◌, min, leb, length, take}
use Rattle.std.proofs.Math.Seq.{paste}
use Rattle.std.specs.Io.KnownBytes.{Consumes}
use Rattle.std.specs.declared.option.Option.{Option}
use Rattle.definition.specs.Limits.{record_length, most_records}

-- the bytes of the longest branch
abbrev pub window_length : ℕ
window_length = record_length * most_records

-- the least count that stands for a longer input
abbrev pub over_length : ℕ
over_length = window_length + record_length

-- no count is greater
abbrev pub kept_length : ℕ
kept_length = over_length + record_length - 1

-- the count of bytes as the answer needs it: exact up to the longest branch, beyond that by its remainder alone ("torn" comes before "overlong")
unfoldable pub window : ℕ → ℕ
window n = cond (leb n window_length) n (over_length + n % record_length)

-- the bytes kept after a further part: as many of it as have room after those seen
unfoldable pub kept_with : List ℕ → ℕ → List ℕ → List ℕ
kept_with kept seen part = paste kept seen part (min (length kept - seen) (length part))

-- the window of a whole input: its count, and its bytes if they are no more than the longest branch has
pub record Window (whole kept : List ℕ) (seen : ℕ) : Type 0 where
  pub counted : seen ≡ window (length whole)
  pub bytes : length whole ≤ window_length → take seen kept ≡ whole

-- the window of what a reader gave, from the bytes that it had left before to those that it has left after, where they are known
pub record Reads (before after : Option (List ℕ)) (kept : List ℕ) (seen : ℕ) : Type 0 where
  pub whole : List ℕ
  pub held : Window whole kept seen
  pub given : Consumes before after whole
