use mathlib.Core.Path.{sym, ◌∙◌}
use native.Mathlib.Omega.{arith}
use Rattle.arrays.proofs.Tabled.{tabled_count}
use Rattle.modality.proofs.Fill.{fill_kept, fill_left, fill_end}
use Rattle.modality.proofs.Give.{through}
use Rattle.modality.proofs.leaves_of.Goals.{then-path_runs_through, else-path_runs_through}
use Rattle.modality.proofs.leaves_of.Goals as goal

pub loop-j-preserved : goal.loop-j-preserved
loop-j-preserved c = λ t s ls l d r a h p.
    let inv = c.loop-j.invariant t s ls l d r a h p in
    let runs = sym (c.path_runs_through.ensures t s d r) in
    elim c.if-path_runs_through.branch [
      | then-path_runs_through w ↦ rw w.out-is (fill_kept (through t s) ls l _ _ (omega (arith, tabled_count a h)) (c.nth-leaf.ensures.0 ls a h) inv (runs ∙ w.if-path_runs_through.true) (w.push.ensures 0))
      | else-path_runs_through w ↦ rw w.out-is (fill_left (through t s) ls l _ _ (omega (arith, tabled_count a h)) (c.nth-leaf.ensures.0 ls a h) inv (runs ∙ w.if-path_runs_through.false))
    ]

pub returns : goal.returns
returns c = λ t s ls l d r a h p. fill_end (through t s) ls l c.loop-j.j (omega (arith, tabled_count a h)) (c.loop-j.invariant t s ls l d r a h p)
