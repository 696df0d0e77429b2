-- The class of a formula, by kind numbers.
use Rattle.std.specs.Prelude.{ℕ, cond, eqb, get_or}
use Rattle.definition.specs.Queue.{priorities, priorities_of_non}

-- by the outer kind and, under Non, the inner kind
unfoldable pub priority_by : ℕ → ℕ → ℕ
priority_by outer inner = cond (eqb outer 1) (get_or priorities_of_non inner 0) (get_or priorities outer 0)
