-- A fork's nodes placed, and what a possibility leaves.
use Prim.Native.Nat.{ℕ, suc, min, ◌<◌, ◌≤◌, ◌+◌}
use mathlib.Core.Path.{◌≡◌, refl, sym, ap, ◌∙◌, subst}
use mathlib.Core.List.{List, [], ◌∷◌, ◌++◌, append_assoc}
use mathlib.Core.Option.{some}
use mathlib.Core.Logic.{◌⊎◌, inl, inr}
use native.Mathlib.Omega.{arith}
use lib.ListN.{length, length-append}
use Rattle.definition.specs.Limits.{most_identifiers, graph_width}
use Rattle.arrays.specs.Listed.{HasList}
use Rattle.arrays.specs.Listed.{Numbers}
use Rattle.arrays.proofs.Tabled.{tabled_fits}
use Rattle.definition.specs.Lists.{Each}
use Rattle.definition.specs.Setting.{Setting}
use Rattle.definition.specs.Records.{Rec, nobody}
use Rattle.definition.specs.Graph.{Graph, initialize_graph_if_needed, forked_world, fork}
use Rattle.definition.specs.Tree.{Node, new_node, node_at, leaves, leaves_below}
use Rattle.definition.specs.Subtree.{Subtree, Targeted, with_middle, append_subtree, append_logic_rule_result}
use Rattle.definition.specs.Modality.{Fork, reapply_necessity_after_possibility, necessities_after_possibility}
use Rattle.definition.specs.Rules.{as_possible}
use Rattle.definition.specs.Run.{State, apply_possibility, apply_rule}
use Rattle.definition.proofs.Soundness.Edges.{init_one, init_less}
use Rattle.definition.proofs.Basics.Lists.{each_map}
use Rattle.definition.specs.TreeShape.{Treed, TreedThroughout}
use Rattle.definition.proofs.Tree.Shape.{leaves_few, leaves_within}
use Rattle.definition.proofs.Run.TreeKept.{rule_steady}
use Rattle.definition.proofs.Tree.Nodes.{ext_subtree, ext_result}
use Rattle.graph.specs.Drawn.{HasGraph}
use Rattle.graph.specs.declared.Graph as Rust
use Rattle.tree.specs.Lay.{Laid, HasNodes, held}
use Rattle.tree.specs.declared.ProofTree.{ProofTree}
use Rattle.tree.specs.Chain.{chain_of, falling_chain, empty_chain}
use Rattle.tree.specs.Sequence.{id_at}
use Rattle.tree.proofs.Sequence.{id_fits}
use Rattle.tree.proofs.Paths.{listed_as, leaves_as}
use Rattle.tree.proofs.Nodes.{held_ok, held_fits, held_as}
use Rattle.subtree.specs.declared.ProofSubtree.{ProofSubtree}
use Rattle.subtree.specs.declared.Items.{Items}
use Rattle.subtree.specs.Subtree.{subtree_of, Within, Chained, Left}
use Rattle.subtree.specs.Items.{HasItems, Listing}
use Rattle.subtree.proofs.Placing.{left_as}
use Rattle.necessities.specs.Stack.{HasStack}
use Rattle.modality.specs.Seen.{Seen}
use Rattle.modality.specs.declared.PathWorlds.{PathWorlds}
use Rattle.logic.specs.declared.Tableau.{Tableau}
use Rattle.logic.specs.Gave.{Gave}
use Rattle.logic.specs.Applied.{Before, After}
use Rattle.logic.proofs.Listings.{listing_more}

-- the comment stands above
pub commented : (s : ProofSubtree) (start : ℕ) → s.left ≡ empty_chain → s.middle ≡ falling_chain start 2 → s.right ≡ empty_chain
    → (subtree_of s ≡ with_middle (suc start ∷ start ∷ [])) × ((m : ℕ) → start + 2 ≤ m → Within s m)
unfolding subtree_of chain_of
commented s start l m r = rw (l, m, r) (refl, λ n h. record { on_left = omega arith; on_middle = h; on_right = omega arith })

-- what placing the subtrees of a list says
abbrev pub Places : Items → ProofTree → Numbers → ProofTree → Numbers → Type 0
Places x u w u' w' =
    (ns : List Node) (q : List ℕ) (is : List Targeted) → HasNodes ns u → (u.len ≤ most_identifiers → HasList q w) → (u.len ≤ most_identifiers → Listing [] is x (length ns)) →
    TreedThroughout ns q is → Left (append_logic_rule_result ns q is) u' w'

-- the items of a fork
abbrev pub fork_item : ℕ → ℕ → Targeted
fork_item x base = record { target = x; subtree = with_middle (suc base ∷ base ∷ []) }

-- the fork's own subtree placed, and then the others
pub fork_placed : (ns : List Node) (q : List ℕ) (more : List Targeted) (x base : ℕ) (s : ProofSubtree) (items : Items) (u u₁ u₂ : ProofTree) (w w₁ w₂ : Numbers) →
    (id : ℕ) → HasNodes ns u → HasList q w → (u.len ≤ most_identifiers → id ≡ base) → base + 2 ≤ length ns → (u.len ≤ most_identifiers → Listing [] more items u.len) → TreedThroughout ns q (fork_item x base ∷ more) →
    (subtree_of s ≡ with_middle (suc id ∷ id ∷ [])) × ((m : ℕ) → id + 2 ≤ m → Within s m) →
    ((ns : List Node) (q : List ℕ) (t : Subtree) → HasNodes ns u → (u.len ≤ most_identifiers → HasList q w) → (length ns ≤ most_identifiers → Chained s t (length ns)) → (length ns ≤ most_identifiers → Treed ns) → Left (append_subtree ns q x t) u₁ w₁) →
    Places items u₁ w₁ u₂ w₂ →
    Left (append_logic_rule_result ns q (fork_item x base ∷ more)) u₂ w₂
unfolding append_logic_rule_result
fork_placed ns q more x base s items u u₁ u₂ w w₁ w₂ id h l at low list st comment one rest =
    let t = with_middle (suc base ∷ base ∷ []) in
    let p = append_subtree ns q x t in
    let long = (ext_subtree ns q x t).longer in
    let first = one ns q t h (λ _. l)
    (λ few. let e = at (held_fits h few) in record { are = comment.0 ∙ ap (λ (k : ℕ). with_middle (suc k ∷ k ∷ [])) e; within = comment.1 (length ns) (omega (arith, low, e)) }) st.0 in
    rest p.nodes p.waiting more first.nodes first.queue
    (λ fits.
    let small = held_fits h (omega (arith, (held_ok first.nodes fits).0, fits, long)) in
    listing_more (omega (arith, (held_ok h small).0, long)) (list small)) st.1

-- the graph has room for one world more
pub known_few : (F : Setting) (g : Graph) {before after : Rust.Graph} → HasGraph g before → before.worlds < graph_width → HasGraph (initialize_graph_if_needed F g) after → after.worlds < graph_width
known_few F g {before} {after} d few k = go (init_less F g)
  where
    go : (g.worlds ≡ 0) ⊎ ((initialize_graph_if_needed F g).worlds ≡ g.worlds) → after.worlds < graph_width
    go (inl e) = omega (arith, init_one F g e, k.count)
    go (inr e) = omega (arith, e, k.count, d.count, few)

module _ (F : Setting) (s : State) (x : ℕ) (recs : List Rec) (f : ℕ) (q : List ℕ) where
  abbrev g₀ : Graph
  g₀ = initialize_graph_if_needed F s.graph

  abbrev pub forked : Graph
  forked = fork F g₀ (node_at s.nodes x).world

  abbrev pub forking : Fork
  forking = record { node = x; world = forked_world g₀ }

  abbrev pub both : List Node
  both = new_node x f (forked_world g₀) ∷ new_node x nobody 0 ∷ []

  pub possibility_after : {base id : ℕ} {u : ProofTree} {items : Items} {w : Numbers} {B : Tableau} → length s.nodes ≡ base →
      Gave (s.nodes ++ both) [] (reapply_necessity_after_possibility s.nodes forked forking (length (s.nodes ++ both)) s.necessities) u items →
      (u.len ≤ most_identifiers → HasStack (necessities_after_possibility s.nodes forked forking s.necessities) B.necessities) → HasGraph forked B.graph → HasList q w → Treed s.nodes →
      id ≡ id_at base →
      ((ns : List Node) (q : List ℕ) (more : List Targeted) (k : ℕ) → HasNodes ns u → HasList q w → (u.len ≤ most_identifiers → id ≡ k) → k + 2 ≤ length ns → (u.len ≤ most_identifiers → Listing [] more items u.len) →
      TreedThroughout ns q (fork_item x k ∷ more) →
      Left (append_logic_rule_result ns q (fork_item x k ∷ more)) B.tree B.waiting) →
      After B s q (apply_possibility F s x recs f)
  unfolding apply_rule apply_possibility
  possibility_after {base} {id} {u} {items} e gave stack d l tree drawn place =
      let n = length s.nodes in
      let two : length (s.nodes ++ both) ≡ n + 2 = length-append s.nodes both in
      let R = reapply_necessity_after_possibility s.nodes forked forking (n + 2) s.necessities in
      let got = subst (λ (k : ℕ). Gave (s.nodes ++ both) [] (reapply_necessity_after_possibility s.nodes forked forking k s.necessities) u items) two gave in
      let assoc : (s.nodes ++ both) ++ R.nodes ≡ s.nodes ++ (both ++ R.nodes) = append_assoc s.nodes both R.nodes in
      let all = s.nodes ++ (both ++ R.nodes) in
      let h = held_as all assoc got.nodes in
      let low : base + 2 ≤ length all = omega (arith, e, two, ap length assoc, length-append (s.nodes ++ both) R.nodes) in
      let same : fork_item x base ∷ R.subtrees ≡ fork_item x n ∷ R.subtrees = ap (λ (k : ℕ). fork_item x k ∷ R.subtrees) (sym e) in
      let at : u.len ≤ most_identifiers → id ≡ base = λ small. drawn ∙ id_fits base (omega (arith, (held_ok h small).0, small, low)) in
      let p = place all q R.subtrees base h l at low got.rows (subst (TreedThroughout all q) (sym same) (rule_steady F s x recs (as_possible f) q tree)) in
      let out = left_as _ (ap (append_logic_rule_result all q) same) p in
      record {
        nodes = out.nodes;
        rest = λ small.
            let made-small = held_fits h (omega (arith, (held_ok out.nodes small).0, small, (ext_result (fork_item x n ∷ R.subtrees) all q).longer)) in
            record { waiting = out.queue small; graph = d; necessities = stack made-small };
      }

  pub forked_at_lem : {v : ℕ} {known : Rust.Graph} → v ≡ min known.worlds 65535 → HasGraph g₀ known → known.worlds < graph_width → v ≡ forked_world g₀
  forked_at_lem e d few = omega (arith, e, d.count, few)

  pub forked_drawn : {u : ℕ} {known : Rust.Graph} → u ≡ (node_at s.nodes x).world → HasGraph (fork F g₀ u) known → HasGraph forked known
  forked_drawn {known = known} e d = subst (λ (w : ℕ). HasGraph (fork F g₀ w) known) e d

  pub forked_held : {v : ℕ} {u : ProofTree} → v ≡ forked_world g₀ → HasNodes (s.nodes ++ (new_node x f v ∷ new_node x nobody 0 ∷ [])) u → HasNodes (s.nodes ++ both) u
  forked_held e h = held_as (s.nodes ++ both) (ap (λ (w : ℕ). s.nodes ++ (new_node x f w ∷ new_node x nobody 0 ∷ [])) e) h

  pub forked_seen : {v : ℕ} (a : PathWorlds) → v ≡ forked_world g₀ → Each (Seen s.nodes (some (record { node = x; world = v })) a) (leaves s.nodes) → Each (Seen s.nodes (some forking) a) (leaves s.nodes)
  forked_seen a e h = subst (λ (w : ℕ). Each (Seen s.nodes (some (record { node = x; world = w })) a) (leaves s.nodes)) e h

pub listing_start : {x : Items} → ((m : ℕ) → HasItems [] x m) → (len : ℕ) → Listing [] [] x len
listing_start none len = record { all = []; rows = none len; are = refl }

-- the leaves of a tree whose nodes fit
module _ (t : List Node) (r : Treed t) {base : ℕ} (count : length t ≡ base) (fits : base ≤ most_identifiers) where
  pub all_leaves : {w : Numbers} → HasList ([] ++ leaves_below base t 0) w → HasList (leaves t) w × (w.len ≤ most_identifiers)
  all_leaves l =
      let k = listed_as (leaves t) (leaves_as t base count) l in
      (k, tabled_fits k (omega (arith, leaves_few t r, count, fits)))

  pub leaves_low : Each (λ y. y < most_identifiers) (leaves t)
  leaves_low = each_map (λ y (h : y < length t). omega (arith, h, count, fits)) (leaves t) (leaves_within t r)

-- what a state before a rule gives
module _ {A : Tableau} {s : State} {q : List ℕ} (b : Before A s q) where
  pub before_held : HasNodes s.nodes A.tree
  before_held = held (omega (arith, b.fits, b.count)) b.count b.laid

  pub before_laid : Laid s.nodes A.tree
  before_laid = record { fits = b.fits; laid = b.laid }
