use Prim.Native.Nat.{◌+◌, ◌-◌, ◌≤◌, ◌<◌}
use mathlib.Core.Path.{◌≡◌, refl, ◌∙◌}
use native.Mathlib.Omega.{arith}
use lib.ListN.{length}
use Rattle.definition.specs.Limits.{most_identifiers}
use Rattle.definition.specs.Shortcuts.{ThroughSpawner}
use Rattle.logic.proofs.Listings.{listing_self}
use Rattle.logic.proofs.Again.{blank, after, mapped_each, again_start, again_at, again_full, again_next, again_end, turned_after}
use Rattle.logic.proofs.reapply_necessity_after_possibility.Goals as goal

pub loop-k-init : goal.loop-k-init
loop-k-init c = (refl, λ t more g ns rs fk s fe d b tree at seen h list. again_start t g fk more ns rs s h list)

pub returns-then-tree-gt-MOST_IDENTIFIERS-clause-gave : goal.returns-then-tree-gt-MOST_IDENTIFIERS-clause-gave
returns-then-tree-gt-MOST_IDENTIFIERS-clause-gave c = λ t more g ns rs fk s fe d b tree at seen h list.
    let z = c.loop-k.invariant.1 t more g ns rs fk s fe d b tree at seen h list in
    (record { nodes = again_full t g fk z c.if-tree-gt-MOST_IDENTIFIERS.true; rows = λ fits. absurd (omega (arith, fits, c.if-tree-gt-MOST_IDENTIFIERS.true)) }, λ fits. absurd (omega (arith, fits, c.if-tree-gt-MOST_IDENTIFIERS.true)))

pub loop-k-preserved : goal.loop-k-preserved
loop-k-preserved c = (
  c.reapply_if_on_path.ensures.kept ∙ c.loop-k.invariant.0,
  λ t more g ns rs fk s fe d b tree at seen h list.
      let z = c.loop-k.invariant.1 t more g ns rs fk s fe d b tree at seen h list in
      let small : c.loop-k.tree.len ≤ most_identifiers = c.if-tree-gt-MOST_IDENTIFIERS.false in
      let k = c.loop-k.k - 1 in
      let last : k + 1 ≡ c.loop-k.k = omega (arith, c.loop-k-test.true) in
      let inside : z.i < length ns = omega (arith, last, z.left_over) in
      let stored : 0 < c.args.necessities.now.count = omega (arith, inside, s.counted) in
      let r = c.reapply_if_on_path.ensures.gave t z.more g _ blank (z.rows small).all z.i fk (z.stack small) (again_at t g fk z small k last) fe d b tree (mapped_each (ThroughSpawner t) (after t g fk) z.i ns blank at inside) (seen stored) z.held (λ _. listing_self (z.rows small)) in
      again_next t g fk z blank k last small r.0 r.1,
)

pub returns-clause-gave : goal.returns-clause-gave
returns-clause-gave c = λ t more g ns rs fk s fe d b tree at seen h list.
    let e = again_end t g fk (c.loop-k.invariant.1 t more g ns rs fk s fe d b tree at seen h list) (omega (arith, c.loop-k-test.false)) in
    (record { nodes = e.0; rows = e.1 }, λ fits. turned_after t g fk ns (c.turn.ensures.stack _ (e.2 fits)))
