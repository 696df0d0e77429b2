use mathlib.Core.Path.{refl}
use native.Mathlib.Omega.{arith}
use Rattle.contradictions.proofs.Marks.{marked_full, checked_still, checked_open, checked_closed}
use Rattle.contradictions.proofs.check_for_contradictions.Goals as goal
use Rattle.contradictions.proofs.check_for_contradictions.Goals.{then-old-tree, else-old-tree}

pub returns-then-tree-gt-MOST_IDENTIFIERS : goal.returns-then-tree-gt-MOST_IDENTIFIERS
returns-then-tree-gt-MOST_IDENTIFIERS c = (refl, λ rs ns p b a since. (marked_full _ a c.if-tree-gt-MOST_IDENTIFIERS.true, λ h. absurd (omega (arith, c.if-tree-gt-MOST_IDENTIFIERS.true))))

pub returns-then-every : goal.returns-then-every
returns-then-every c =
    let done = c.mark_paths-every.ensures in (
      done.0,
      λ rs ns p b a since.
          let h = c.if-tree-gt-MOST_IDENTIFIERS.false in
          let s = since h in
          checked_closed rs ns s a h done.0 (done.1 rs ns p b a h s.over) c.is_closed.ensures,
    )

-- Without a new node it is not proved, nor where some path has no pair.
pub returns-else-every : goal.returns-else-every
returns-else-every c =
    let done = c.mark_paths-every.ensures in (
      done.0,
      λ rs ns p b a since.
          let h = c.if-tree-gt-MOST_IDENTIFIERS.false in
          let s = since h in
          elim c.if-old-tree.branch [
            | then-old-tree w ↦ checked_open rs ns s a h done.0 (done.1 rs ns p b a h s.over) (cc) (cc)
            | else-old-tree w ↦ checked_still rs ns s a h done.0 (done.1 rs ns p b a h s.over) (cc) (omega arith)
          ],
    )
