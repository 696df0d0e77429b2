use borrow.Author.Rules.{rules}
use mathlib.Core.Path.{refl}
use Rattle.graph.proofs.Forks.{ran, idle, ran_all}
use Rattle.setting.specs.Asked.{asked}
use Rattle.graph.proofs.Graph.add_missing_graph_vertices.Goals as goal
use Rattle.graph.proofs.Graph.add_missing_graph_vertices.Goals.{then-setting, else-setting, then-setting-2, else-setting-2}

pub returns-then-setting-3 : goal.returns-then-setting-3
unfolding asked
returns-then-setting-3 c = λ g d. ran_all _ {y = c.if-setting.self} {z = c.if-setting-2.self}
    (elim c.if-setting.branch [ then-setting w ↦ ran w.if-setting.true (search rules) | else-setting w ↦ idle w.if-setting.false w.self-is ])
    (elim c.if-setting-2.branch [ then-setting-2 w ↦ ran w.if-setting-2.true (search rules) | else-setting-2 w ↦ idle w.if-setting-2.false w.self-is ])
    (ran c.if-setting-3.true (search rules)) g d

pub returns-else-setting-3 : goal.returns-else-setting-3
unfolding asked
returns-else-setting-3 c = λ g d. ran_all _ {y = c.if-setting.self} {z = c.if-setting-2.self}
    (elim c.if-setting.branch [ then-setting w ↦ ran w.if-setting.true (search rules) | else-setting w ↦ idle w.if-setting.false w.self-is ])
    (elim c.if-setting-2.branch [ then-setting-2 w ↦ ran w.if-setting-2.true (search rules) | else-setting-2 w ↦ idle w.if-setting-2.false w.self-is ])
    (idle c.if-setting-3.false refl) g d
