-- Laws of the array of edges.
use Prim.Native.Nat.{ℕ, zero, suc, ◌+◌, ◌*◌, ◌/◌, ◌%◌, ◌≤◌, ◌<◌}
use mathlib.Core.Path.{◌≡◌, refl, sym, ap, ◌∙◌}
use mathlib.Core.Bool.{Bool, true, false, cond, ◌&&◌, ◌||◌, or-true}
use mathlib.Core.Logic.{◌⊎◌, ⊎_elim}
use mathlib.Core.List.{List, [], map}
use native.Mathlib.Omega.{arith}
use lib.Dec.{ltb, eqb, leb-suc-suc}
use lib.ListN.{length, get_or, set, length-map, length-set}
use lib.Seq.{ext_get_or, get_or-set_same, get_or-set_other}
use borrow.Author.Tests.{eqb-true, eqb-false, lt-ltb, le-ltb, eq-eqb}
use Rattle.definition.specs.Limits.{graph_width}
use Rattle.limits.specs.Arrays.{edge_cells}
use Rattle.definition.specs.Lists.{up_from, below}
use Rattle.definition.specs.Graph.{edge, graph_of}
use Rattle.definition.proofs.Basics.Lists.{either}
use Rattle.definition.proofs.Basics.Identifiers.{length_from}
use Rattle.graph.specs.Drawn.{grid, with_vertex}

-- element k of a rule's list, or the default past its end
pub at_from : {A : Type 0} (f : ℕ → A) (n i j k : ℕ) (d : A) → i + k ≡ j → get_or (map f (up_from n i)) k d ≡ cond (ltb k n) (f j) d
at_from f zero i j k d e = rw (le-ltb k 0 (omega arith))
at_from f (suc n) i j zero d e = rw (lt-ltb 0 (suc n) (omega arith)) (ap f (omega arith))
at_from f (suc n) i j (suc k) d e = rw (leb-suc-suc (suc k) n) (at_from f n (suc i) j k d (omega arith))

-- the edges of a graph, exactly
pub edge_of : (n : ℕ) (e : ℕ → ℕ → Bool) (u v : ℕ) → edge (graph_of n e) u v ≡ (ltb u n && (ltb v n && e u v))
unfolding edge graph_of
edge_of n e u v = ap (λ (r : List Bool). get_or r v false) (at_from (λ a. map (λ b. e a b) (below n)) n 0 u u [] (omega arith)) ∙ go (ltb u n)
  where
    pick : (b : Bool) → cond b (e u v) false ≡ (b && e u v)
    pick true = refl
    pick false = refl

    go : (b : Bool) → get_or (cond b (map (λ w. e u w) (below n)) []) v false ≡ (b && (ltb v n && e u v))
    go true = at_from (e u) n 0 v v false (omega arith) ∙ pick (ltb v n)
    go false = refl

pub grid_length : (e : ℕ → ℕ → Bool) → length (grid e) ≡ edge_cells
unfolding grid
grid_length e = length-map (below edge_cells) (λ k. e (k / graph_width) (k % graph_width)) ∙ length_from edge_cells 0

pub grid_at : (e : ℕ → ℕ → Bool) (k : ℕ) → k < edge_cells → get_or (grid e) k false ≡ e (k / graph_width) (k % graph_width)
unfolding grid
grid_at e k h = at_from (λ j. e (j / graph_width) (j % graph_width)) edge_cells 0 k k false (omega arith) ∙ rw (lt-ltb k edge_cells h)

pub grid_cell : (e : ℕ → ℕ → Bool) (u v : ℕ) → u < graph_width → v < graph_width → get_or (grid e) (u * graph_width + v) false ≡ e u v
grid_cell e u v hu hv =
    let p : (u * graph_width + v) / graph_width ≡ u = omega arith in
    let q : (u * graph_width + v) % graph_width ≡ v = omega arith in
    grid_at e (u * graph_width + v) (omega arith) ∙ rw (p, q)

-- an array that has these edges' flag at each place is their array
pub grid_by : (a : List Bool) (e : ℕ → ℕ → Bool) → length a ≡ edge_cells → ((k : ℕ) → k < edge_cells → get_or a k false ≡ e (k / graph_width) (k % graph_width)) → a ≡ grid e
grid_by a e l h = ext_get_or false a (grid e) (l ∙ sym (grid_length e)) (λ k b. let m : k < edge_cells = omega arith in h k m ∙ sym (grid_at e k m))

pub grid_same : (e f : ℕ → ℕ → Bool) → ((u v : ℕ) → u < graph_width → v < graph_width → e u v ≡ f u v) → grid e ≡ grid f
grid_same e f h = grid_by (grid e) f (grid_length e) (λ k b. grid_at e k b ∙ h (k / graph_width) (k % graph_width) (omega arith) (omega arith))

-- ---- one edge more
pub with_hit : (e : ℕ → ℕ → Bool) (u v a b : ℕ) → a ≡ u → b ≡ v → with_vertex e u v a b ≡ true
unfolding with_vertex
with_hit e u v a b p q = rw (eq-eqb a u p, eq-eqb b v q) (or-true (e a b))

pub with_miss : (e : ℕ → ℕ → Bool) (u v a b : ℕ) → (a ≡ u → b ≡ v → ⊥) → with_vertex e u v a b ≡ e a b
unfolding with_vertex
with_miss e u v a b h = go (e a b) (eqb a u) (eqb b v) (λ p q. h (eqb-true a u p) (eqb-true b v q))
  where
    go : (x y z : Bool) → (y ≡ true → z ≡ true → ⊥) → (x || (y && z)) ≡ x
    go true y z n = refl
    go false true true n = absurd (n refl refl)
    go false true false n = refl
    go false false z n = refl

pub grid_set : {a : List Bool} (e : ℕ → ℕ → Bool) (u v : ℕ) → a ≡ grid e → u < graph_width → v < graph_width → set a (u * graph_width + v) true ≡ grid (with_vertex e u v)
grid_set e u v q hu hv =
    let i = u * graph_width + v in
    rw q (grid_by (set (grid e) i true) (with_vertex e u v) (length-set (grid e) i true ∙ grid_length e) (λ k b.
    ⊎_elim
    (λ t. let s : k ≡ i = eqb-true k i t in
    ap (λ (j : ℕ). get_or (set (grid e) i true) j false) s ∙ get_or-set_same (grid e) i true false (omega (arith, grid_length e))
    ∙ sym (with_hit e u v (k / graph_width) (k % graph_width) (omega arith) (omega arith)))
    (λ t. get_or-set_other (grid e) i k true false (eqb-false k i t) ∙ grid_at e k b
    ∙ sym (with_miss e u v (k / graph_width) (k % graph_width) (λ s r. eqb-false k i t (omega arith))))
    (either (eqb k i))))

pub grid_out : (e : ℕ → ℕ → Bool) (u v : ℕ) → (graph_width ≤ u) ⊎ (graph_width ≤ v) → grid e ≡ grid (with_vertex e u v)
grid_out e u v h =
    grid_same e (with_vertex e u v) (λ a b ha hb. sym (with_miss e u v a b (λ p q. ⊎_elim (λ k. omega arith) (λ k. omega arith) h)))
