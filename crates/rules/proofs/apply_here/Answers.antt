use mathlib.Core.Logic.{⊎_elim}
use Rattle.rules.proofs.Here.{by_chains, here_none}
use Rattle.rules.proofs.apply_here.Goals as goal

pub returns-in-Nothing : goal.returns-in-Nothing
returns-in-Nothing c = λ ns h.
    let made = c.with_middle.ensures in
    let none = here_none c.args.tree.now _ _ h _ (by_chains _ made.0 made.1 made.2) in
    ⊎_elim (λ e. rw e none) (⊎_elim (λ e. rw e.1 none) (λ e. rw e.1 none)) c.in-Nothing.is
