-- Laws of a graph in its array.
use Prim.Native.Nat.{ℕ, ◌+◌, ◌*◌, ◌≤◌, ◌<◌}
use mathlib.Core.Path.{◌≡◌, refl, sym, ap, ◌∙◌}
use mathlib.Core.Bool.{Bool, true, false, not, ◌&&◌, ◌||◌}
use mathlib.Core.Logic.{◌⊎◌, inl, inr, ⊎_elim}
use mathlib.Core.List.{List}
use native.Mathlib.Omega.{arith}
use lib.Dec.{ltb, eqb}
use lib.ListN.{get_or, replicate, length-replicate, get_or-replicate}
use borrow.Author.Tests.{ltb-true, eqb-true, lt-ltb, le-ltb}
use Rattle.definition.specs.Limits.{graph_width}
use Rattle.limits.specs.Arrays.{edge_cells}
use Rattle.definition.specs.Lists.{any, below}
use Rattle.definition.specs.Graph.{Graph, edge, graph_of, empty_graph, add_missing_reflexive_vertices, add_missing_symmetric_vertices, paired, add_missing_transitive_vertices}
use Rattle.definition.proofs.Basics.Lists.{true_false, and_left, and_right, or_cases, either, any_below}
use Rattle.definition.proofs.Soundness.Edges.{edge_graph}
use Rattle.graph.specs.Drawn.{grid, Drawn}
use Rattle.graph.proofs.Grid.{edge_of, grid_cell, grid_by, grid_same}
use Rattle.graph.proofs.Scan.{any_false}

-- no world, and an array of no flag
pub drawn_none : Drawn empty_graph 0 (replicate edge_cells false)
unfolding empty_graph edge
drawn_none =
    record {
      count = refl;
      room = omega arith;
      inside = λ u v h. true_false (sym h);
      cells = grid_by (replicate edge_cells false) (edge empty_graph) (length-replicate {A = Bool} edge_cells false) (λ k h. get_or-replicate edge_cells k false false h);
    }

-- the edges that each scan adds
abbrev pub reflexives : ℕ → ℕ → ℕ → Bool
reflexives n u v = ltb u n && eqb u v

abbrev pub symmetrics : Graph → ℕ → ℕ → Bool
symmetrics g u v = edge g v u

abbrev paths : Graph → ℕ → ℕ → Bool
paths g u w = any (paired g u w) (below g.worlds)

abbrev pub transitives : Graph → ℕ → ℕ → Bool
transitives g u w = edge g u w || paths g u w

module _ {g : Graph} {n : ℕ} {a : List Bool} (d : Drawn g n a) where
  -- an edge between other worlds is none
  pub drawn_out : (u v : ℕ) → (n ≤ u) ⊎ (n ≤ v) → edge g u v ≡ false
  drawn_out u v h =
      ⊎_elim (λ t. let i = d.inside u v t in absurd (⊎_elim (λ k. omega (arith, i.0)) (λ k. omega (arith, i.1)) h)) (λ t. t) (either (edge g u v))

  pub drawn_cell : (u v : ℕ) → u < graph_width → v < graph_width → get_or a (u * graph_width + v) false ≡ edge g u v
  drawn_cell u v hu hv = ap (λ (l : List Bool). get_or l (u * graph_width + v) false) d.cells ∙ grid_cell (edge g) u v hu hv

  -- no scan adds an edge between other worlds
  pub symmetrics_out : (u v : ℕ) → n ≤ u → symmetrics g u v ≡ false
  symmetrics_out u v h = drawn_out v u (inr h)

  pub transitives_out : (u w : ℕ) → (n ≤ u) ⊎ (n ≤ w) → transitives g u w ≡ false
  unfolding paired
  transitives_out u w h =
      rw (drawn_out u w h)
      (any_false (paired g u w) g.worlds 0 (λ v k. ⊎_elim (λ i. rw (drawn_out u v (inl i))) (λ i. rw (drawn_out v w (inr i)) (none (edge g u v))) h))
    where
      none : (b : Bool) → (b && false) ≡ false
      none true = refl
      none false = refl

pub reflexives_out : (n u v : ℕ) → n ≤ u → reflexives n u v ≡ false
reflexives_out n u v h = rw (le-ltb u n h)

-- a test that tells that two worlds are there holds only of such
pub within : (u v n : ℕ) (b : Bool) → (b ≡ true → (u < n) × (v < n)) → b ≡ (ltb u n && (ltb v n && b))
within u v n true h = rw (lt-ltb u n (h refl).0, lt-ltb v n (h refl).1)
within u v n false h = go (ltb u n) (ltb v n)
  where
    go : (x y : Bool) → false ≡ (x && (y && false))
    go true true = refl
    go true false = refl
    go false y = refl

-- the graph of n worlds with the edges e, from the array of those that run between its worlds
pub drawn_graph : (n m : ℕ) (e f : ℕ → ℕ → Bool) {a : List Bool} → n ≡ m → n ≤ graph_width → ((u v : ℕ) → f u v ≡ (ltb u n && (ltb v n && e u v))) → a ≡ grid f → Drawn (graph_of m e) n a
unfolding graph_of
drawn_graph n m e f c h k q =
    record {
      count = c;
      room = h;
      inside = λ u v t. let i = edge_graph m e u v t in (omega (arith, i.0), omega (arith, i.1));
      cells = q ∙ grid_same f (edge (graph_of m e)) (λ u v hu hv. k u v ∙ rw c (sym (edge_of m e u v)));
    }

module _ {g : Graph} {n : ℕ} {a b : List Bool} (d : Drawn g n a) where
  pub drawn_reflexive : b ≡ grid (λ u v. edge g u v || reflexives n u v) → Drawn (add_missing_reflexive_vertices g) n b
  unfolding add_missing_reflexive_vertices
  drawn_reflexive q =
      drawn_graph n g.worlds (λ u v. edge g u v || eqb u v) (λ u v. edge g u v || reflexives n u v) d.count d.room (λ u v.
      within u v n (edge g u v || reflexives n u v) (λ t. ⊎_elim (d.inside u v) (λ s.
      let k : u < n = ltb-true u n (and_left (ltb u n) (eqb u v) s) in
      let l : u ≡ v = eqb-true u v (and_right (ltb u n) (eqb u v) s) in
      (k, omega arith)) (or_cases (edge g u v) (reflexives n u v) t)) ∙ go u v (ltb u n)) q
    where
      go : (u v : ℕ) (c : Bool) → (c && (ltb v n && (edge g u v || (c && eqb u v)))) ≡ (c && (ltb v n && (edge g u v || eqb u v)))
      go u v true = refl
      go u v false = refl

  pub drawn_symmetric : b ≡ grid (λ u v. edge g u v || symmetrics g u v) → Drawn (add_missing_symmetric_vertices g) n b
  unfolding add_missing_symmetric_vertices
  drawn_symmetric q =
      drawn_graph n g.worlds (λ u v. edge g u v || symmetrics g u v) (λ u v. edge g u v || symmetrics g u v) d.count d.room (λ u v.
      within u v n (edge g u v || edge g v u) (λ t. ⊎_elim (d.inside u v) (λ s. let i = d.inside v u s in (i.1, i.0)) (or_cases (edge g u v) (edge g v u) t))) q

  pub drawn_transitive : b ≡ grid (λ u v. edge g u v || transitives g u v) → Drawn (add_missing_transitive_vertices g) n b
  unfolding add_missing_transitive_vertices paired
  drawn_transitive q =
      drawn_graph n g.worlds (transitives g) (transitives g) d.count d.room (λ u w.
      within u w n (transitives g u w) (λ t. ⊎_elim (d.inside u w) (λ s.
      let found = any_below (paired g u w) g.worlds s in
      let v = found.0 in
      let second = edge g v w && not (eqb u v && eqb v w) in (
        (d.inside u v (and_left (edge g u v) second found.2)).0,
        (d.inside v w (and_left (edge g v w) (not (eqb u v && eqb v w)) (and_right (edge g u v) second found.2))).1,
      )) (or_cases (edge g u w) (paths g u w) t)))
      (q ∙ grid_same (λ u v. edge g u v || transitives g u v) (transitives g) (λ u v hu hv. twice (edge g u v) (paths g u v)))
    where
      twice : (a b : Bool) → (a || (a || b)) ≡ (a || b)
      twice true b = refl
      twice false b = refl
