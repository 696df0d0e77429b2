-- What a necessity leaves.
use Prim.Native.Nat.{ℕ, ◌<◌, ◌≤◌}
use mathlib.Core.Path.{◌≡◌, refl, sym, ap, ◌∙◌, subst}
use mathlib.Core.Bool.{Bool, true}
use mathlib.Core.List.{List, [], ◌∷◌, ◌++◌, append-nil}
use mathlib.Core.Option.{none}
use native.Mathlib.Omega.{arith}
use lib.ListN.{length}
use Rattle.definition.specs.Limits.{most_identifiers}
use Rattle.arrays.specs.Listed.{Numbers, Listed, HasList}
use Rattle.arrays.proofs.Tabled.{tabled_fits}
use Rattle.definition.specs.Lists.{Each, elem, filter}
use Rattle.definition.specs.Setting.{Setting}
use Rattle.definition.specs.Records.{Rec}
use Rattle.definition.specs.Graph.{Graph, initialize_graph_if_needed}
use Rattle.definition.specs.Tree.{Node, node_at, leaves, path}
use Rattle.definition.specs.Modality.{Necessity, runs_through, leaves_of, reapply_necessity, visiting}
use Rattle.definition.specs.Rules.{as_necessary}
use Rattle.definition.specs.Run.{State, apply_necessity, apply_rule}
use Rattle.definition.proofs.Basics.Lists.{each_map, each_filter, filter_keeps}
use Rattle.definition.specs.TreeShape.{spots, Treed, Bare}
use Rattle.definition.proofs.Tree.Shape.{leaves_bare, leaves_within, leaves_few}
use Rattle.definition.proofs.Paths.Spawners.{stored_spawned}
use Rattle.definition.proofs.Engine.Reapplied.{spawned_leaves}
use Rattle.definition.proofs.Run.TreeKept.{rule_steady}
use Rattle.graph.specs.Drawn.{HasGraph}
use Rattle.tree.specs.declared.ProofTree.{ProofTree}
use Rattle.tree.proofs.Paths.{listed_as}
use Rattle.tree.proofs.Nodes.{held_ok}
use Rattle.necessities.specs.Stack.{HasStack, fresh}
use Rattle.necessities.specs.declared.Necessities.{Necessities}
use Rattle.subtree.specs.declared.Items.{Items}
use Rattle.logic.specs.declared.Tableau.{Tableau}
use Rattle.logic.specs.Gave.{Gave}
use Rattle.logic.specs.Applied.{After, necessity_of}
use Rattle.logic.proofs.Listings.{listing_more}
use Rattle.logic.proofs.Reapply.{filter_few}
use Rattle.logic.proofs.Forked.{Places}

filter_all : (p : ℕ → Bool) (xs : List ℕ) → Each (λ x. p x ≡ true) xs → filter p xs ≡ xs
filter_all p [] h = refl
filter_all p (x ∷ xs) h = rw h.0 (ap (λ (l : List ℕ). x ∷ l) (filter_all p xs h.1))

module _ (s : State) (x f : ℕ) where
  abbrev through : List ℕ
  through = filter (λ leaf. elem x (path s.nodes leaf)) (leaves s.nodes)

  pub fresh_as : {w : ℕ} {stack : Necessities} → w ≡ (node_at s.nodes x).world → HasStack (fresh f w x through ∷ s.necessities) stack → HasStack (necessity_of s x f ∷ s.necessities) stack
  fresh_as {stack = stack} e h = subst (λ (v : ℕ). HasStack (fresh f v x through ∷ s.necessities) stack) e h

  pub through_fits : Treed s.nodes → length s.nodes ≤ most_identifiers → {m : ℕ} {a : List ℕ} → Listed through m a → (m ≤ most_identifiers) × Each (λ y. y < most_identifiers) through
  through_fits r fits l = (
    tabled_fits l (omega (arith, filter_few (λ leaf. elem x (path s.nodes leaf)) (leaves s.nodes), leaves_few s.nodes r, fits)),
    each_map (λ y (h : y < length s.nodes). omega (arith, h, fits)) through (filter_keeps (λ y. y < length s.nodes) (λ leaf. elem x (path s.nodes leaf)) (leaves s.nodes) (leaves_within s.nodes r)),
  )

  -- of the leaves through x, those whose paths run through a leaf that is stored now: all of them
  pub through_own : Treed s.nodes → {m : ℕ} {a : List ℕ} → Listed (filter (λ leaf. runs_through (necessity_of s x f) (path s.nodes leaf)) through) m a → Listed (leaves_of s.nodes (necessity_of s x f)) m a
  unfolding fresh
  through_own r l =
      let t = s.nodes in
      let n = necessity_of s x f in
      let own = stored_spawned t r n refl in
      let all : Each (λ leaf. runs_through n (path t leaf) ≡ true) through =
      each_map (λ leaf (h : Bare (spots t) leaf × (elem x (path t leaf) ≡ true)). own leaf h.0 ∙ h.1) through (each_filter (Bare (spots t)) (λ leaf. elem x (path t leaf)) (leaves t) (leaves_bare t r)) in
      listed_as (leaves_of t n) (filter_all (λ leaf. runs_through n (path t leaf)) through all ∙ sym (spawned_leaves t r n own)) l

module _ (F : Setting) (s : State) (x : ℕ) (recs : List Rec) (f : ℕ) (q : List ℕ) where
  abbrev graph : Graph
  graph = initialize_graph_if_needed F s.graph

  abbrev necessity : Necessity
  necessity = necessity_of s x f

  pub necessity_after : {u : ProofTree} {items : Items} {w : Numbers} {B : Tableau} →
      Gave (s.nodes ++ []) [] (reapply_necessity s.nodes graph none (length (s.nodes ++ [])) necessity) u items →
      HasStack (visiting s.nodes graph necessity ∷ s.necessities) B.necessities → HasGraph graph B.graph → HasList q w → Treed s.nodes →
      Places items u w B.tree B.waiting →
      After B s q (apply_necessity F s x recs f)
  unfolding apply_rule apply_necessity fresh
  necessity_after {u} {items} gave stack d l tree place =
      let t = s.nodes in
      let R = reapply_necessity t graph none (length t) necessity in
      let got = subst (λ (ns : List Node). Gave ns [] (reapply_necessity t graph none (length ns) necessity) u items) (append-nil t) gave in
      let out = place (t ++ R.nodes) q R.subtrees got.nodes (λ _. l) (λ small. listing_more (omega (arith, (held_ok got.nodes small).0)) (got.rows small)) (rule_steady F s x recs (as_necessary f) q tree) in
      record { nodes = out.nodes; rest = λ small. record { waiting = out.queue small; graph = d; necessities = stack } }
