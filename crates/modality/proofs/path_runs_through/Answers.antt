use borrow.Author.Rules.{rules}
use mathlib.Core.Path.{◌∙◌}
use Rattle.modality.proofs.Lists.{runs_by_path}
use Rattle.modality.proofs.Before.{stored}
use Rattle.modality.proofs.path_runs_through.Goals as goal

pub returns : goal.returns
returns c = λ t n d r. c.any_on_path.ensures t (stored n) d (λ x b e. search rules) ∙ runs_by_path n _
