use mathlib.Core.Path.{refl, ◌∙◌}
use Rattle.tree.proofs.Nodes.{held_ok, held_lays}
use Rattle.contradictions.proofs.Search.{some_pair}
use Rattle.contradictions.proofs.Marks.{path_loose, path_inner, path_marked}
use Rattle.contradictions.proofs.mark_path.Goals as goal

pub returns-then-not-is_placed : goal.returns-then-not-is_placed
returns-then-not-is_placed c = (
  refl,
  λ rs ns p b a h o l.
      path_loose rs ns _ a (c.is_placed.ensures ns (held_lays a h)) c.if-not-is_placed.true,
)

pub returns-then-is_leaf : goal.returns-then-is_leaf
returns-then-is_leaf c = (
  c.mark_pair.ensures.0,
  λ rs ns p b a h o l.
      let z = held_lays a h in
      path_marked rs ns _ _ (c.is_placed.ensures ns z) c.if-not-is_placed.false (c.is_leaf.ensures ns z) c.if-is_leaf.true
      (λ i. c.get_contradictory_node_ids-c.ensures rs ns p b (held_ok a h).0 z o i l) (c.mark_pair.ensures.1 ns a) (c.is_some.ensures ∙ some_pair _),
)

pub returns : goal.returns
returns c = (
  refl,
  λ rs ns p b a h o l.
      path_inner rs ns _ a (c.is_leaf.ensures ns (held_lays a h)) c.if-is_leaf.false,
)
