-- The counts of a file of vectors.
use Rattle.std.specs.Prelude.{cond, ◌||◌, List, ℕ, ◌+◌, ◌≤◌, ◌<◌, Ok, Err, eqb, ltb, get_or}
use Rattle.definition.specs.Lists.{empty}
use Rattle.cases.specs.Compared.{Compared, difference_of}
use Rattle.cases.specs.declared.reading.Tally.{Tally}

-- a count stops at 10^9
unfoldable pub one_more : ℕ → ℕ
one_more n = cond (ltb n 1000000000) (n + 1) n

unfoldable pub one_failed : Tally → Tally
one_failed t = record { line = t.line; cases = t.cases; failed = one_more t.failed }

unfoldable pub one_line : Tally → Tally
one_line t = record { line = one_more t.line; cases = t.cases; failed = t.failed }

unfoldable pub one_case : Tally → Tally
one_case t = record { line = t.line; cases = one_more t.cases; failed = t.failed }

-- a case that is compared: it fails if something differs
unfoldable pub judged : Compared → Tally → Tally
judged (Ok u) t = t
judged (Err d) t = one_failed t

-- a whole line; an empty one, and one that begins with #, is no case
unfoldable pub finished : List ℕ → Tally → Tally
finished line t = cond (empty line || eqb (get_or line 0 0) 35) (one_line t) (judged (difference_of line) (one_case (one_line t)))

-- from t to r neither cases nor failures fall, and failures rise by no more than cases and `more`, as long as cases are below 10^9
pub record Since (more : ℕ) (t r : Tally) : Type 0 where
  pub cases : t.cases ≤ r.cases
  pub failures : t.failed ≤ r.failed
  pub rise : r.cases < 1000000000 → r.failed + t.cases ≤ r.cases + t.failed + more
