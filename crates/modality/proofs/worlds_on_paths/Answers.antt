use native.Mathlib.Omega.{arith}
use Prim.Native.Nat.{◌<◌, ◌≤◌}
use mathlib.Core.Path.{◌∙◌}
use Rattle.modality.specs.Forking.{fork_of}
use Rattle.modality.proofs.Worlds.{seen_next, seen_end, other_next}
use Rattle.modality.proofs.worlds_on_paths.Goals as goal

pub loop-j-preserved : goal.loop-j-preserved
loop-j-preserved c =
    let more : c.loop-j.j < c.args.on.now.len = omega arith in (
      λ t ls d l small low long. seen_next t (fork_of c.args.forking) ls l small _ _ c.loop-j.j _ _ low more (c.nth.ensures.0 ls l small) (c.worlds_on-worlds.ensures t d) c.put.ensures.0 (c.loop-j.invariant.0 t ls d l small low long),
      λ ls l small x out. other_next ls l small _ _ c.loop-j.j _ x _ more (c.nth.ensures.0 ls l small) out c.put.ensures ∙ c.loop-j.invariant.1 ls l small x out,
    )

pub returns : goal.returns
returns c =
    let none : c.args.on.now.len ≤ c.loop-j.j = omega arith in
    (λ t ls d l small low long. seen_end t (fork_of c.args.forking) ls l small _ _ none (c.loop-j.invariant.0 t ls d l small low long).1, c.loop-j.invariant.1)
