use Prim.Native.Nat.{◌≤◌}
use mathlib.Core.List.{[]}
use native.Mathlib.Omega.{arith}
use Rattle.definition.specs.Limits.{most_identifiers}
use Rattle.logic.proofs.Reapply.{stands_now}
use Rattle.logic.proofs.Forked.{all_leaves, leaves_low}
use Rattle.logic.proofs.worlds_at_fork.Goals as goal

pub returns : goal.returns
returns c = λ t r count laid long.
    let fits : c.args.tree.now.len ≤ most_identifiers = omega (arith, count, laid.fits) in
    let lv = all_leaves t r count fits (c.leaves_below.ensures t [] laid (c.new-all.ensures (omega arith))) in
    c.worlds_on_paths.ensures.0 t _ (stands_now t count laid) lv.0 lv.1 (leaves_low t r count fits) long
