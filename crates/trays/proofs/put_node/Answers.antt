use borrow.Author.Rules.{rules}
use mathlib.Core.Path.{◌∙◌, ap}
use mathlib.Core.Bool.{Bool, cond}
use Rattle.definition.specs.Tree.{node_at, place_number}
use Rattle.slices.proofs.Writing.{low_same, puts_then, puts_as}
use Rattle.trays.proofs.Bytes.{bit_of, node_bytes_lem}
use Rattle.trays.proofs.put_node.Goals as goal

pub returns : goal.returns
returns c = λ ns z b.
    let node = node_at ns c.args.x.0 in
    puts_as
    (node_bytes_lem node
    (c.parent_of-parent.ensures ns z)
    (c.number-place.ensures ∙ ap place_number (c.place_of.ensures ns z))
    (low_same (search rules) (c.world_of.ensures ns z) b)
    (c.formula_of-formula.ensures ns z)
    (c.spawner_of-spawner.ensures ns z)
    (c.contrarian_of-contrarian.ensures ns z)
    ((bit_of _ c.from.ensures).0 ∙ ap (λ (v : Bool). cond v 1 0) (c.is_contradictory-contradictory.ensures ns z)))
    (puts_then c.put_two-a.ensures.0
    (puts_then c.put-b.ensures.0
    (puts_then c.put-c.ensures.0
    (puts_then c.put_two-d.ensures.0
    (puts_then c.put_two-e.ensures.0
    (puts_then c.put_two-f.ensures.0
    (puts_then c.put-g.ensures.0
    c.put.ensures.0)))))))
