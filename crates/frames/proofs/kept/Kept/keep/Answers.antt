use Rattle.std.proofs.Common.{arith, rules, ◌≡◌, length}
use Rattle.frames.proofs.Windows.{window_kept}
use Rattle.frames.proofs.kept.Kept.keep.Goals as goal

pub returns-clause-window : goal.returns-clause-window
returns-clause-window c =
    λ whole w.
    let size : length c.args.self.now.bytes ≡ 1547 = search rules in
    window_kept whole _ _ _ _ _ (omega (arith, size)) c.keep-self.ensures.kept_after c.keep-self.ensures.value w
