-- The world graph, and "Missing edges". The names are graph.rs's and missing_vertices.rs's; a vertex there is an edge here.
use Rattle.std.specs.Prelude.{Bool, false, not, ◌&&◌, ◌||◌, cond, List, [], map, ℕ, suc, eqb, get_or}
use Rattle.definition.specs.Lists.{any, below, filter}
use Rattle.definition.specs.Setting.{Setting}

-- row u tells which worlds u reaches
pub record Graph : Type 0 where
  pub worlds : ℕ
  pub rows : List (List Bool)

unfoldable pub edge : Graph → ℕ → ℕ → Bool
edge g u v = get_or (get_or g.rows u []) v false

-- the graph of n worlds that has these edges
unfoldable pub graph_of : ℕ → (ℕ → ℕ → Bool) → Graph
graph_of n e = record { worlds = n; rows = map (λ u. map (λ v. e u v) (below n)) (below n) }

unfoldable pub empty_graph : Graph
empty_graph = record { worlds = 0; rows = [] }

-- "each one scan over the set as it stood"
unfoldable pub add_missing_reflexive_vertices : Graph → Graph
add_missing_reflexive_vertices g = graph_of g.worlds (λ u v. edge g u v || eqb u v)

unfoldable pub add_missing_symmetric_vertices : Graph → Graph
add_missing_symmetric_vertices g = graph_of g.worlds (λ u v. edge g u v || edge g v u)

-- "The transitive scan pairs unequal edges only": an edge to v, and one from v to w
unfoldable pub paired : Graph → ℕ → ℕ → ℕ → Bool
paired g u w v = edge g u v && (edge g v w && not (eqb u v && eqb v w))

unfoldable pub add_missing_transitive_vertices : Graph → Graph
add_missing_transitive_vertices g = graph_of g.worlds (λ u w. edge g u w || any (paired g u w) (below g.worlds))

-- "Reflexive, symmetric, transitive, in that order if flagged"; "No scan is repeated"
unfoldable pub add_missing_graph_vertices : Setting → Graph → Graph
add_missing_graph_vertices F g =
    let r = cond F.reflexive (add_missing_reflexive_vertices g) g in
    let s = cond F.symmetric (add_missing_symmetric_vertices r) r in
    cond F.transitive (add_missing_transitive_vertices s) s

-- "The first rule that acts as Possible or Necessary (..) puts world 0 in the graph and adds missing edges"
unfoldable pub initialize_graph_if_needed : Setting → Graph → Graph
initialize_graph_if_needed F g = cond (eqb g.worlds 0) (add_missing_graph_vertices F (graph_of 1 (λ u v. false))) g

-- "A fork is the largest index plus one over the whole graph": the worlds are the numbers below their count
abbrev pub forked_world : Graph → ℕ
forked_world g = g.worlds

-- "The edge from the current world comes first, then missing edges"
unfoldable pub fork : Setting → Graph → ℕ → Graph
fork F g u =
    add_missing_graph_vertices F (graph_of (suc g.worlds) (λ a b. edge g a b || (eqb a u && eqb b (forked_world g))))

-- the worlds that u reaches, "in rising order"
unfoldable pub reached : Graph → ℕ → List ℕ
reached g u = filter (edge g u) (below g.worlds)
