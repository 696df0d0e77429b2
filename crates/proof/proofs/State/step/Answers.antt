use mathlib.Core.Path.{sym, ◌∙◌}
use Rattle.definition.specs.Queue as D
use Rattle.proof.proofs.Going.{kept_as, one_stays, one_step}
use Rattle.proof.proofs.Stepping.{due, due_before, never_none, taken_of, took, took_classes, expands_as, stepped}
use Rattle.proof.proofs.State.step.Goals as goal

pub returns-then-stops : goal.returns-then-stops
returns-then-stops c = λ s reached kp. kept_as (one_stays _ s (sym (c.stops.ensures _ s kp) ∙ c.if-stops.true)) kp

pub returns-in_default : goal.returns-in_default
returns-in_default c = λ s reached kp.
    let d = due reached kp (sym (c.stops.ensures _ s kp) ∙ c.if-stops.false) in
    let got = c.pop.ensures _ s.formulas s.nodes s.waiting d.laid.waiting d.laid.classes d.few in
    absurd (never_none _ s d.goes (λ x e. c.in_default.not-Some x (got.0 ∙ e)))

pub returns : goal.returns
returns c = λ s reached kp.
    let d = due reached kp (sym (c.stops.ensures _ s kp) ∙ c.if-stops.false) in
    let l = d.laid in
    let got = c.pop.ensures _ s.formulas s.nodes s.waiting l.waiting l.classes d.few in
    let t = taken_of _ _ (sym got.0 ∙ c.in-Some.is) in
    let waiting = took s.waiting _ _ t.0 t.1 got.1 in
    let classes = took_classes (D.get_node_priority _ s.formulas s.nodes) s.waiting _ _ t.0 t.1 got.2 in
    let f = c.formula_of-f.ensures s.nodes (record { fits = d.ready.nodes; laid = l.nodes }) in
    kept_as (one_step _ s d.goes)
    (stepped _ s _ t.0 d t.1 (expands_as f (c.expand-rule.ensures s.formulas l.formulas)) c.next_step-self.ensures (c.apply.ensures s _ t.0 (due_before d waiting)) classes c.classify.ensures c.check.ensures.checked)
