use borrow.Author.Rules.{rules}
use mathlib.Core.Path.{ap, ◌∙◌}
use Prim.Native.Nat.{ℕ}
use Rattle.definition.specs.Call.{refusal}
use Rattle.prover.specs.Said.{said}
use Rattle.wozhnerk.proofs.Words.{read_refusal}
use Rattle.wozhnerk.proofs.refusal_word.Goals as goal

pub returns : goal.returns
unfolding said
returns c =
    let place = c.args.refusal.place in
    rw (c.from.ensures, c.from-2.ensures) (read_refusal c.from-number.result place c.from-number.type_inv (search rules) ∙ ap (λ (n : ℕ). refusal n place) c.from-number.ensures)
