use mathlib.Core.Path.{◌≡◌, ap, ◌∙◌}
use mathlib.Core.Bool.{false, not}
use Rattle.std.proofs.Common.{arith}
use Rattle.std.proofs.lemmas.Grind.{common_steps}
use Rattle.definition.specs.Records.{formula_of}
use Rattle.definition.specs.Contradiction.{said, denied, opposed, are_formulas_contradictory}
use Rattle.semantics.proofs.Literals.{nothing_opposed}
use Rattle.semantics.proofs.contradicts.Goals as goal

pub returns-then-is_none : goal.returns-then-is_none
unfolding are_formulas_contradictory
returns-then-is_none c = λ rs p k r h.
    let none : false ≡ opposed (said rs (formula_of rs c.args.g.0)) (denied rs p) = nothing_opposed _ c.args.c.denies (c.is_none.ensures ∙ ap not c.if-is_none.true) k.denies in
    grind (arith, common_steps, none, k.says, c.opposed.ensures, c.denied.ensures rs r h)
