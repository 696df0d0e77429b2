use mathlib.Core.Path.{◌≡◌, refl, ap, ◌∙◌}
use mathlib.Core.Bool.{not}
use denote.Enum.Bare.{sameb}
use Rattle.definition.specs.TreeShape.{placed}
use Rattle.tree.specs.contracts.Place.{the_type}
use Rattle.tree.specs.declared.Place.{Place}
use Rattle.tree.specs.Lay.{place_of}
use Rattle.tree.proofs.ProofTree.is_placed.Goals as goal

tag_placed : (q : Place) → not (sameb the_type q Place.Unplaced) ≡ placed (place_of q)
unfolding placed
tag_placed Place.Root = refl
tag_placed Place.Left = refl
tag_placed Place.Middle = refl
tag_placed Place.Right = refl
tag_placed Place.Unplaced = refl

pub returns : goal.returns
returns c = λ ns z. c.ne.ensures ∙ tag_placed c.place_of.result ∙ ap placed (c.place_of.ensures ns z)
