-- What the definition's answer depends on: the lengths of the trays, and of an input longer than any branch the remainder of its length.
use mathlib.Core.Path.{◌≡◌, refl, ap}
use mathlib.Core.Bool.{Bool, true, false}
use mathlib.Core.List.{List}
use mathlib.Core.Option.{Option, some}
use Prim.Native.Nat.{ℕ, ◌+◌, ◌/◌, ◌%◌, ◌<◌}
use native.Mathlib.Omega.{arith}
use borrow.Author.Tests.{eqb-true, lt-ltb, ne_eqb}
use lib.Dec.{eqb}
use lib.ListN.{length}
use Rattle.definition.specs.Limits.{record_length, most_records}
use Rattle.definition.specs.RefusalNumbers.{partial_record, too_many_records}
use Rattle.definition.specs.Trays.{Trays}
use Rattle.definition.specs.Checks.{Lengths, Check, check, checks, refused}
use Rattle.definition.specs.Setting.{setting_of}
use Rattle.definition.specs.Call.{answer, answer_of, outcome, outcome_by, lengths_of}
use Rattle.frames.specs.Window.{window_length, over_length}

pub answer_lengths : (branch : List ℕ) (flags : ℕ) (lent more : Trays) → lengths_of lent ≡ lengths_of more → answer branch flags lent ≡ answer branch flags more
unfolding answer
answer_lengths branch flags lent more e = ap (λ (l : Lengths). answer_of (setting_of flags) (outcome branch flags l)) e

-- "torn" or "overlong", by whether the length is a multiple of a record's
torn_or : Bool → Option Check
torn_or true = some (check too_many_records 0 true)
torn_or false = some (check partial_record 0 true)

refused_by : (bytes : List ℕ) (flags : ℕ) (lent : Lengths) → window_length < length bytes → (b : Bool) → eqb (length bytes % record_length) 0 ≡ b → refused bytes flags lent ≡ torn_or b
unfolding refused checks torn_or
refused_by bytes flags lent h false e = rw e
refused_by bytes flags lent h true e =
    let none : length bytes % record_length ≡ 0 = eqb-true (length bytes % record_length) 0 e in
    rw (e, ne_eqb (length bytes) 0 (λ z. omega arith), lt-ltb most_records (length bytes / record_length) (omega arith))

refused_over : (bytes : List ℕ) (flags : ℕ) (lent : Lengths) → window_length < length bytes → refused bytes flags lent ≡ torn_or (eqb (length bytes % record_length) 0)
refused_over bytes flags lent h = refused_by bytes flags lent h (eqb (length bytes % record_length) 0) refl

pub answer_overlong : (whole other : List ℕ) (flags : ℕ) (lent : Trays) → window_length < length whole → length other ≡ over_length + length whole % record_length
    → answer other flags lent ≡ answer whole flags lent
unfolding answer outcome outcome_by torn_or
answer_overlong whole other flags lent h e =
    let l = lengths_of lent in
    let same : length other % record_length ≡ length whole % record_length = omega arith in
    rw (refused_over other flags l (omega arith), refused_over whole flags l h, same)
    (go (eqb (length whole % record_length) 0))
  where
    go : (b : Bool) → answer_of (setting_of flags) (outcome_by other flags (torn_or b)) ≡ answer_of (setting_of flags) (outcome_by whole flags (torn_or b))
    go true = refl
    go false = refl
