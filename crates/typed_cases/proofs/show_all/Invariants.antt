use lib.ListN.{length}
use Rattle.typed_cases.proofs.show_all.Given as goal

abbrev pub decreases-loop-n : goal.decreases-loop-n
decreases-loop-n g l = length l.rest
