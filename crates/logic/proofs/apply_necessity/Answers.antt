use Prim.Native.Nat.{◌+◌, ◌<◌, ◌≤◌}
use mathlib.Core.Path.{◌≡◌, sym}
use mathlib.Core.List.{[], ◌∷◌, ◌++◌, append-nil}
use mathlib.Core.Option.{none}
use native.Mathlib.Omega.{arith}
use Rattle.definition.specs.Limits.{most_identifiers}
use Rattle.tree.proofs.Nodes.{held_as}
use Rattle.tree.specs.Stands.{Stands}
use Rattle.logic.specs.Applied.{necessity_of}
use Rattle.logic.proofs.Reapply.{stands_now, paths_few, paths_seen}
use Rattle.logic.proofs.Again.{blank}
use Rattle.logic.proofs.Forked.{listing_start, before_held, before_laid, leaves_low}
use Rattle.logic.proofs.Necessary.{through_fits, through_own, necessity_after}
use Rattle.setting.specs.Asked.{asked}
use Rattle.logic.proofs.apply_necessity.Goals as goal

pub returns : goal.returns
returns c = λ s recs q b.
    let F = asked c.args.setting in
    let t = s.nodes in
    let x = c.args.x.0 in
    let f = c.args.f.0 in
    let n = necessity_of s x f in
    let drawn = c.initialize_graph_if_needed.ensures s.graph b.graph in
    let laid = before_laid b in
    let z : Stands t c.args.tableau.now.tree.len c.args.tableau.now.tree = stands_now t b.count laid in
    let fits : c.args.tableau.now.tree.len ≤ most_identifiers = omega (arith, b.fits, b.count) in
    let st = c.store_necessity.ensures s b.treed b.count laid b.necessities b.room in
    let top : 0 + c.args.tableau.now.necessities.count + 1 ≡ c.store_necessity.new.necessities.count = omega (arith, st.counted, b.necessities.counted) in
    let row = st.stored blank 0 _ top in
    let th = c.leaves_through.ensures t b.treed z (c.new-below.ensures (omega arith)) in
    let on = through_own s x f b.treed (c.leaves_of.ensures t n _ [] z (c.at-row.ensures n row).leaves th (through_fits s x f b.treed b.fits th).0 (c.new-on.ensures (omega arith))) in
    let few = paths_few t b.treed n z on in
    let seen = c.worlds_on_paths.ensures.0 t _ z on few (paths_seen (λ y. y < most_identifiers) t n (leaves_low t b.treed b.count fits)) c.new-seen.ensures.len in
    let w = c.worlds_to_visit-fresh.ensures _ n row drawn in
    let h = held_as (t ++ []) (sym (append-nil t)) (before_held b) in
    let r = c.reapply_necessity.ensures.gave t [] _ none (n ∷ s.necessities) blank [] 0 st top w on few seen h (λ _. listing_start c.new-items.ensures _) in
    necessity_after F s x recs f q r.0 r.1 drawn b.waiting b.treed c.append_logic_rule_result.ensures
