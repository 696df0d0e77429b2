-- The edges in an array of flags, `graph_width` rows of as many: row u, column v stands at u * graph_width + v, and tells whether u reaches v.
use Rattle.std.specs.Prelude.{ℕ, ◌+◌, ◌*◌, ◌/◌, ◌%◌, ◌≤◌, ◌<◌, ◌≡◌, Bool, true, cond, ◌&&◌, ◌||◌, List, map, eqb, ltb}
use Rattle.definition.specs.Limits.{graph_width}
use Rattle.limits.specs.Arrays.{edge_cells}
use Rattle.definition.specs.Lists.{below}
use Rattle.definition.specs.Graph.{Graph, edge}
use Rattle.graph.specs.declared.Graph as Rust

-- the array of these edges, as far as they run between worlds below `graph_width`
unfoldable pub grid : (ℕ → ℕ → Bool) → List Bool
grid e = map (λ k. e (k / graph_width) (k % graph_width)) (below edge_cells)

-- these edges, and the one from u to v
unfoldable pub with_vertex : (ℕ → ℕ → Bool) → ℕ → ℕ → ℕ → ℕ → Bool
with_vertex e u v a b = e a b || (eqb a u && eqb b v)

-- a graph of at most `graph_width` worlds, between which its edges run, with the count of its worlds and its array
pub record Drawn (g : Graph) (n : ℕ) (a : List Bool) : Type 0 where
  pub count : n ≡ g.worlds
  pub room : n ≤ graph_width
  pub inside : (u v : ℕ) → edge g u v ≡ true → (u < n) × (v < n)
  pub cells : a ≡ grid (edge g)

-- the struct holds the graph
abbrev pub HasGraph : Graph → Rust.Graph → Type 0
HasGraph g x = Drawn g x.worlds x.edges

-- the second world of pair v of the row of u, as the lookup gives it: past the last pair, the first world
unfoldable pub looked : ℕ → ℕ → ℕ
looked u v = cond (ltb (u * graph_width + v) edge_cells) ((u * graph_width + v) % graph_width) 0
