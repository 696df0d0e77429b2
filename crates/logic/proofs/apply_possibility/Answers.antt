use mathlib.Core.Path.{refl}
use mathlib.Core.List.{[]}
use native.Mathlib.Omega.{arith}
use Rattle.logic.proofs.Forked.{known_few, forked_at_lem, forked_drawn, forked_held, forked_seen, listing_start, before_held, before_laid, possibility_after}
use Rattle.setting.specs.Asked.{asked}
use Rattle.logic.proofs.apply_possibility.Goals.{then-tableau-gt0, else-tableau-gt0}
use Rattle.logic.proofs.apply_possibility.Goals as goal

pub returns-clause-after : goal.returns-clause-after
returns-clause-after c = λ s recs q b.
    let F = asked c.args.setting in
    let t = s.nodes in
    let x = c.args.x.0 in
    let f = c.args.f.0 in
    let laid = before_laid b in
    let known = c.initialize_graph_if_needed.ensures s.graph b.graph in
    let few = known_few F s.graph b.graph b.few known in
    let v = forked_at_lem F s x recs f q c.forked_world-v.ensures known few in
    let u = c.world_of-u.ensures t laid in
    let drawn = forked_drawn F s x recs f q u (c.fork_world.ensures.0 _ few known) in
    let two = forked_held F s x recs f q v (c.fork_nodes-id.ensures.1 t (before_held b)) in
    let r = c.reapply_necessity_after_possibility.ensures.gave t _ _ s.necessities [] _ b.necessities refl drawn b.count b.treed b.spawned
    (λ some. elim c.if-tableau-gt0.branch [
      | then-tableau-gt0 w ↦ rw w.seen-is (forked_seen F s x recs f q _ v (w.worlds_at_fork.ensures t b.treed b.count laid c.new-seen.ensures.len))
      | else-tableau-gt0 w ↦ absurd (omega (arith, some, w.if-tableau-gt0.false))
    ]) two (λ _. listing_start c.new-items.ensures _) in
    possibility_after F s x recs f q b.count r.0 r.1 drawn b.waiting b.treed c.fork_nodes-id.ensures.0 c.place_fork.ensures
