use mathlib.Core.Path.{refl, sym, ◌∙◌}
use mathlib.Core.Logic.{inl, inr}
use Prim.Native.Nat.{◌≤◌}
use native.Mathlib.Omega.{arith}
use borrow.Author.Rules.{rules}
use Rattle.std.proofs.lemmas.Iterator.{YieldsList-from_range}
use Rattle.std.proofs.lemmas.Iterator.Search.{any_from_yields_List}
use Rattle.definition.specs.Graph.{paired}
use Rattle.graph.specs.Drawn.{looked}
use Rattle.graph.proofs.Scan.{at_row, any_range}
use Rattle.graph.proofs.Drawn.{transitives_out}
use Rattle.graph.proofs.Graph.is_transitive_vertex.Goals as goal

pub returns-then-self-vertex : goal.returns-then-self-vertex
returns-then-self-vertex c = λ g d. sym (transitives_out d _ _ (inl c.if-self-vertex.true))

pub returns-then-self-vertex-2 : goal.returns-then-self-vertex-2
returns-then-self-vertex-2 c = λ g d. sym (transitives_out d _ _ (inr c.if-self-vertex-2.true))

pub returns : goal.returns
returns c = λ g d.
    let from = c.args.vertex.from.0 in
    let p = paired g from c.args.vertex.to.0 in
    let room : g.worlds ≤ 25 = omega (arith, d.count, c.if-self-gt-GRAPH_WIDTH.false) in
    rw (sym (c.contains.ensures g d) ∙ c.if-contains.false)
    (any_from_yields_List (λ v. p (looked from v)) _ _ _ c.any.ensures.ran (YieldsList-from_range 0 c.args.self.now.worlds g.worlds refl (omega (arith, d.count))) (λ v b q k. search rules)
    ∙ at_row p from g.worlds g.worlds 0 room (omega (arith, d.count, c.if-self-vertex.false)) (omega arith)
    ∙ any_range p g.worlds 0)
