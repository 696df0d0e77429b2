use Prim.Native.Nat.{◌*◌, ◌+◌}
use mathlib.Core.Path.{◌≡◌}
use lib.ListN.{length, take}
use Rattle.std.specs.Iterator.Adapters.{enumerate_source, enumerate_count}
use Rattle.std.specs.Slice.Iter.{chunks_exact_rest, chunks_exact_size}
use Rattle.definition.specs.Limits.{record_length, most_records}
use Rattle.checks.proofs.Reading.{Reading}
use Rattle.checks.proofs.check_records.Given as goal

-- No check applies to the records so far, and `sizes` begins with their sizes.
abbrev pub invariant-loop-i : goal.invariant-loop-i
invariant-loop-i l =
    (goal.iterator-loop-i).can_next l.i-iterator × (goal.iterator-loop-i).is_finite l.i-iterator
    × (chunks_exact_size (enumerate_source l.i-iterator) ≡ record_length)
    × (length l.sizes ≡ most_records)
    × (record_length * enumerate_count l.i-iterator + length (chunks_exact_rest (enumerate_source l.i-iterator)) ≡ length l.branch)
    × Reading l.branch (take (enumerate_count l.i-iterator) l.sizes) (chunks_exact_rest (enumerate_source l.i-iterator))
