use borrow.Author.Rules.{rules}
use lib.Dec.{eqb}
use Rattle.modality.proofs.path_goes_through.Goals as goal

pub returns : goal.returns
returns c = λ t d. c.any_on_path.ensures t (eqb c.args.x.0) d (λ y b e. search rules)
