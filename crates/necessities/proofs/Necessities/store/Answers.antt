use mathlib.Core.Path.{refl}
use Rattle.necessities.proofs.Stacks.{stack_store}
use Rattle.necessities.proofs.Necessities.store.Goals as goal

pub returns : goal.returns
returns c = λ ns l s h p n small. stack_store s h c.clear_row.ensures (c.insert_all.ensures l p n small) _ refl refl
