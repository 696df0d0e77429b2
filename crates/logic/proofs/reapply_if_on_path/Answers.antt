use mathlib.Core.Path.{sym, ◌∙◌}
use mathlib.Core.Option.{some}
use native.Mathlib.Omega.{arith}
use lib.ListN.{get_or}
use Rattle.bits.proofs.Worlds.{no_worlds}
use Rattle.modality.specs.Seen.{Seen}
use Rattle.logic.proofs.Reapply.{stands, paths_own, paths_few, paths_seen, kept_idle, stack_idle, kept_out, stack_out, kept_in, stack_in}
use Rattle.logic.proofs.reapply_if_on_path.Goals as goal

pub returns-then-is_empty-clause-gave : goal.returns-then-is_empty-clause-gave
returns-then-is_empty-clause-gave c = λ t more g ns none rs i fk s is fe d b tree at seen h list.
    let w = c.worlds_to_visit-fresh.ensures g (get_or ns i none) (s.stored none i _ is) d in
    let e = sym w ∙ no_worlds _ (sym c.is_empty.ensures ∙ c.if-is_empty.true) in
    (kept_idle t g fk ns i none e h list, λ _. stack_idle t g fk ns i none e s)

pub returns-then-not-is_reapplied-clause-gave : goal.returns-then-not-is_reapplied-clause-gave
returns-then-not-is_reapplied-clause-gave c = λ t more g ns none rs i fk s is fe d b tree at seen h list.
    let nec = get_or ns i none in
    let e = c.is_reapplied.ensures t fk nec tree at fe (sym ((c.at.ensures nec (s.stored none i _ is)).spawner)) (stands t more b h (omega (arith, c.if-tree-gt-MOST_IDENTIFIERS.false))) in
    (kept_out t g fk ns i none e c.if-not-is_reapplied.true h list, λ fits. stack_out t g fk ns i none e c.if-not-is_reapplied.true s)

pub returns-clause-gave : goal.returns-clause-gave
returns-clause-gave c = λ t more g ns none rs i fk s is fe d b tree at seen h list.
    let nec = get_or ns i none in
    let row = s.stored none i _ is in
    let z = stands t more b h (omega (arith, c.if-tree-gt-MOST_IDENTIFIERS.false)) in
    let w = c.worlds_to_visit-fresh.ensures g nec row d in
    let own = (c.at.ensures nec row).spawner in
    let e = c.is_reapplied.ensures t fk nec tree at fe (sym own) z in
    let on = paths_own t tree nec at own (c.leaves_through.ensures t tree z (c.new-on.ensures (omega arith))) in
    let k = c.reapply_necessity.ensures.gave t more g (some fk) ns none rs i s is w on (paths_few t tree nec z on) (paths_seen (Seen t (some fk) _) t nec seen) h list in
    (kept_in t g fk ns i none e c.if-not-is_reapplied.false k.0, λ _. stack_in t g fk ns i none e c.if-not-is_reapplied.false k.1)
