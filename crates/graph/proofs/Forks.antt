-- Laws of the missing edges together, of the first world and of a fork.
use Prim.Native.Nat.{ℕ, suc, ◌+◌, min, ◌≤◌, ◌<◌}
use mathlib.Core.Path.{◌≡◌, refl, sym, ◌∙◌}
use mathlib.Core.Bool.{Bool, true, false, cond, ◌&&◌, ◌||◌}
use mathlib.Core.Logic.{inl, ⊎_elim, ◌≢◌}
use mathlib.Core.List.{List}
use native.Mathlib.Omega.{arith}
use lib.Dec.{ltb, leb, eqb}
use borrow.Author.Tests.{leb-true, leb-false, eqb-true, le-ltb, eq-eqb, ne_eqb}
use Rattle.definition.specs.Limits.{graph_width}
use Rattle.definition.specs.Setting.{Setting}
use Rattle.definition.specs.Graph.{Graph, edge, graph_of, add_missing_reflexive_vertices, add_missing_symmetric_vertices, add_missing_transitive_vertices, add_missing_graph_vertices, initialize_graph_if_needed, fork}
use Rattle.definition.proofs.Basics.Lists.{true_false, and_left, and_right, or_cases, either}
use Rattle.graph.specs.Drawn.{grid, with_vertex, Drawn, HasGraph}
use Rattle.graph.specs.declared.Graph as Rust
use Rattle.graph.proofs.Grid.{grid_same}
use Rattle.graph.proofs.Drawn.{drawn_out, drawn_graph, within}

-- a scan that is done if it is flagged, from the struct x to y
pub data Ran (flagged : Bool) (scan : Graph → Graph) (x y : Rust.Graph) : Type 0 where
  ran : flagged ≡ true → ((g : Graph) → HasGraph g x → HasGraph (scan g) y) → Ran flagged scan x y
  idle : flagged ≡ false → y ≡ x → Ran flagged scan x y

after : {f : Bool} {scan : Graph → Graph} {x y : Rust.Graph} → Ran f scan x y → (g : Graph) → HasGraph g x → HasGraph (cond f (scan g) g) y
after (ran t h) g d = rw t (h g d)
after (idle t q) g d = rw (t, q) d

pub ran_all : (F : Setting) {x y z w : Rust.Graph} → Ran F.reflexive add_missing_reflexive_vertices x y →
    Ran F.symmetric add_missing_symmetric_vertices y z → Ran F.transitive add_missing_transitive_vertices z w →
    (g : Graph) → HasGraph g x → HasGraph (add_missing_graph_vertices F g) w
unfolding add_missing_graph_vertices
ran_all F r s t g p = after t _ (after s _ (after r g p))

module _ (F : Setting) {g : Graph} {n : ℕ} {a : List Bool} (d : Drawn g n a) where
  pub init_kept : n ≢ 0 → Drawn (initialize_graph_if_needed F g) n a
  unfolding initialize_graph_if_needed
  init_kept h = rw (ne_eqb g.worlds 0 (λ q. h (d.count ∙ q))) d

  pub init_made : {m : ℕ} {b : List Bool} → n ≡ 0 → ((h : Graph) → Drawn h 1 a → Drawn (add_missing_graph_vertices F h) m b) → Drawn (initialize_graph_if_needed F g) m b
  unfolding initialize_graph_if_needed
  init_made z fill =
      let none : ℕ → ℕ → Bool = λ u v. false in
      rw (eq-eqb g.worlds 0 (sym d.count ∙ z))
      (fill (graph_of 1 none) (drawn_graph 1 1 none none refl (omega arith) (λ u v. within u v 1 false (λ t. true_false (sym t)))
      (d.cells ∙ grid_same (edge g) none (λ u v hu hv. drawn_out d u v (inl (omega arith))))))

  -- the edges of a fork, with its own if it runs between worlds
  forked_edge : (m u : ℕ) → n ≡ m → (x y : ℕ) →
      cond (leb u n) (with_vertex (edge g) u n) (edge g) x y ≡ (ltb x (n + 1) && (ltb y (n + 1) && (edge g x y || (eqb x u && eqb y m))))
  unfolding with_vertex
  forked_edge m u e x y =
      rw (← e)
      (⊎_elim
      (λ k. let h : u ≤ n = leb-true u n k in
      rw k (within x y (n + 1) (edge g x y || (eqb x u && eqb y n)) (λ t. ⊎_elim (wider x y) (λ s.
      let p : x ≡ u = eqb-true x u (and_left (eqb x u) (eqb y n) s) in
      let q : y ≡ n = eqb-true y n (and_right (eqb x u) (eqb y n) s) in
      (omega arith, omega arith)) (or_cases (edge g x y) (eqb x u && eqb y n) t))))
      (λ k. rw k (within x y (n + 1) (edge g x y) (wider x y)
      ∙ outside (ltb x (n + 1)) (ltb y (n + 1)) (edge g x y) (eqb x u) (eqb y n) (λ t. le-ltb x (n + 1) (omega (arith, leb-false u n k, eqb-true x u t)))))
      (either (leb u n)))
    where
      wider : (x y : ℕ) → edge g x y ≡ true → (x < n + 1) × (y < n + 1)
      wider x y t = let i = d.inside x y t in (omega (arith, i.0), omega (arith, i.1))

      outside : (p q e s t : Bool) → (s ≡ true → p ≡ false) → (p && (q && e)) ≡ (p && (q && (e || (s && t))))
      outside true q e true t h = true_false (h refl)
      outside true q true false t h = refl
      outside true q false false t h = refl
      outside false q e s t h = refl

  pub fork_made : (u : ℕ) {f w m : ℕ} {b c : List Bool} → f ≡ min n 65535 → n < graph_width → ((e : ℕ → ℕ → Bool) → a ≡ grid e → b ≡ grid (cond (leb u f) (with_vertex e u f) e)) →
      w ≡ n → ((h : Graph) → Drawn h (w + 1) b → Drawn (add_missing_graph_vertices F h) m c) → Drawn (fork F g u) m c
  unfolding fork
  fork_made u {f} q k put e fill =
      let new : f ≡ n = omega arith in
      fill _ (rw e (drawn_graph (n + 1) (suc g.worlds) (λ x y. edge g x y || (eqb x u && eqb y g.worlds)) (cond (leb u n) (with_vertex (edge g) u n) (edge g))
      (omega (arith, d.count)) (omega arith) (forked_edge g.worlds u d.count) (put (edge g) d.cells ∙ rw new)))
