use mathlib.Core.Path.{sym, ◌∙◌}
use lib.ListN.{get_or}
use Rattle.arrays.proofs.Tabled.{tabled_count}
use Rattle.logic.proofs.Reapply.{gave_again, visiting_nowhere, visiting_some, stack_set, stack_same}
use Rattle.logic.proofs.reapply_necessity.Goals as goal

pub returns-then-on-eq0-clause-gave : goal.returns-then-on-eq0-clause-gave
returns-then-on-eq0-clause-gave c = λ t more g fk ns none rs i s is w l small seen h list.
    let nec = get_or ns i none in
    let has = c.at-necessity.ensures nec (s.stored none i _ is) in
    (gave_again t fk g nec w (c.give_on.ensures t more fk nec _ rs (sym has.spawner) (sym has.formula) l small seen h list), stack_same ns i none (visiting_nowhere t g nec (tabled_count l small ∙ c.if-on-eq0.true)) s)

pub returns-clause-gave : goal.returns-clause-gave
returns-clause-gave c = λ t more g fk ns none rs i s is w l small seen h list.
    let nec = get_or ns i none in
    let has = c.at-necessity.ensures nec (s.stored none i _ is) in
    (gave_again t fk g nec w (c.give_on.ensures t more fk nec _ rs (sym has.spawner) (sym has.formula) l small seen h list), stack_set ns i (visiting_some t g nec w (λ e. c.if-on-eq0.false (sym (tabled_count l small) ∙ e))) (c.visit.ensures.stack ns i none s is))
