use borrow.Author.Rules.{rules}
use mathlib.Core.Path.{ap}
use mathlib.Core.Bool.{false}
use mathlib.Core.List.{◌++◌}
use Rattle.tree.proofs.Paths.{all_below, listed_as}
use Rattle.tree.proofs.ProofTree.leaves_below.Goals as goal

pub returns : goal.returns
returns c = λ ns l z q. listed_as _ (ap (λ v. l ++ v) (all_below ns z.fits _ _)) (c.leaves_outside.ensures ns l (λ x. false) z (λ stood y b s e. search rules) q)
