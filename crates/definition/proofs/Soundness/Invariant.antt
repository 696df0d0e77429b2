-- The invariant of the run: a set of nodes that runs from the root to a leaf, and a model of it. The check for contradictions keeps it.
use mathlib.Core.Path.{◌≡◌, refl, sym, ap, ◌∙◌, subst}
use mathlib.Core.Bool.{Bool, true, false, ◌||◌}
use mathlib.Core.List.{List, [], ◌∷◌, ◌++◌, map}
use mathlib.Core.Option.{Option, none}
use mathlib.Core.Logic.{◌⊎◌, inl, inr}
use Prim.Native.Nat.{ℕ, ◌<◌, ◌≤◌, ◌+◌}
use native.Mathlib.Omega.{arith}
use lib.ListN.{length, length-append}
use Rattle.definition.specs.Lists.{Each, all}
use Rattle.definition.specs.Records.{Rec, nobody}
use Rattle.definition.specs.Setting.{Setting}
use Rattle.definition.specs.Models.{Model}
use Rattle.definition.specs.Graph.{Graph, initialize_graph_if_needed}
use Rattle.definition.specs.Tree.{Node, Children, node_at, is_leaf, leaves, path}
use Rattle.definition.specs.Subtree.{Targeted, append_logic_rule_result}
use Rattle.definition.specs.Modality.{Necessity}
use Rattle.definition.specs.Queue.{Popped}
use Rattle.definition.specs.Contradiction.{Pair, is_pair, pairs, mark_all, get_contradictory_node_ids}
use Rattle.definition.specs.Run.{State, LogicRuleResult, apply, appended, checked_for_contradictions, check_for_contradictions}
use Rattle.definition.proofs.Basics.Lists.{true_false, not_true_false, Some, each_map, all_each}
use Rattle.definition.proofs.Tree.Nodes.{Label, label, Ext, ext_trans, ext_append, ext_result, mark_keeps, length_marks}
use Rattle.definition.proofs.Tree.Labels.{Every, every_result, every_marks}
use Rattle.definition.proofs.Basics.Identifiers.{IssuedBetween, apply_issued}
use Rattle.definition.proofs.Run.Stepping.{checked_both}
use Rattle.definition.proofs.Basics.Forms.{WellFormed}
use Rattle.definition.proofs.Soundness.Priest.{Holds}
use Rattle.definition.proofs.Soundness.Clash.{Sat, no_pair}
use Rattle.definition.proofs.Soundness.Edges.{Edges}
use Rattle.definition.proofs.Soundness.OpenSets.{Child, runs_like, path_in, leaf_some, Side}
use Rattle.definition.proofs.Soundness.Placing.{Fine, Put, put_append, all_put}
use Rattle.definition.proofs.Soundness.Necessities.{Occurs, Good}

module _ (M : Model) (par img : ℕ → ℕ) where
  -- a world that occurs has an image in the model, which its parent's image reaches
  pub record World (t : List Node) (S : ℕ → Bool) (v : ℕ) : Type 0 where
    pub inside : img v < M.size
    pub above : (v ≡ 0) ⊎ ((par v < v) × Occurs t S (par v) × (M.reach (img (par v)) (img v) ≡ true))

  -- a comment, or a formula that is true at the image of its world
  abbrev pub Ok : List Rec → List Node → (ℕ → Bool) → ℕ → ℕ → Type 0
  Ok rs t S v f = World t S v × Sat M rs (img v) f

  -- a stored necessity is true if one of its leaves is in the set
  pub record Stands (rs : List Rec) (t : List Node) (S : ℕ → Bool) (n : Necessity) : Type 0 where
    pub known : Each (λ s. s < length t) n.leaves
    pub occurs : Some (λ s. S s ≡ true) n.leaves → Occurs t S n.world
    pub true_there : Some (λ s. S s ≡ true) n.leaves → (v : ℕ) → v < M.size → M.reach (img n.world) v ≡ true → Holds M rs v n.formula

  world_more : (t t' : List Node) (S S' : ℕ → Bool) → ((v : ℕ) → Occurs t S v → Occurs t' S' v) → (v : ℕ) → World t S v → World t' S' v
  world_more t t' S S' h v w = record { inside = w.inside; above = go w.above }
    where
      go : (v ≡ 0) ⊎ ((par v < v) × Occurs t S (par v) × (M.reach (img (par v)) (img v) ≡ true)) →
          (v ≡ 0) ⊎ ((par v < v) × Occurs t' S' (par v) × (M.reach (img (par v)) (img v) ≡ true))
      go (inl q) = inl q
      go (inr q) = inr (q.0, h (par v) q.1, q.2)

  -- a tree with the old nodes, labelled as they were, and a set that agrees on them
  stands_more : (rs : List Rec) (t t' : List Node) (S S' : ℕ → Bool) → length t ≤ length t' → ((x : ℕ) → x < length t → S' x ≡ S x) →
      ((v : ℕ) → Occurs t S v → Occurs t' S' v) → (n : Necessity) → Stands rs t S n → Stands rs t' S' n
  stands_more rs t t' S S' l e o n k =
      record {
        known = each_map (λ x (h : x < length t). omega (arith, h, l)) n.leaves k.known;
        occurs = λ h. o n.world (k.occurs (back n.leaves k.known h));
        true_there = λ h. k.true_there (back n.leaves k.known h);
      }
    where
      back : (ls : List ℕ) → Each (λ x. x < length t) ls → Some (λ x. S' x ≡ true) ls → Some (λ x. S x ≡ true) ls
      back [] h q = q
      back (x ∷ xs) h (inl q) = inl (sym (e x h.0) ∙ q)
      back (x ∷ xs) h (inr q) = inr (back xs h.1 q)

-- a node's world is below the number of worlds, once there are any
abbrev pub Low : Setting → Graph → Label → Type 0
Low F g l = l.world < (initialize_graph_if_needed F g).worlds

pub record Inv (F : Setting) (M : Model) (w : ℕ) (s : State) : Type 0 where
  pub wf : WellFormed s.formulas
  pub set : ℕ → Bool
  pub par : ℕ → ℕ
  pub img : ℕ → ℕ
  pub put : Put (Ok M par img s.formulas s.nodes set) s.nodes set
  pub edges : Edges F par s.graph
  pub low : Every (Low F s.graph) s.nodes
  pub origin : img 0 ≡ w
  pub ground : (node_at s.nodes 0).world ≡ 0
  pub stand : Each (Stands M par img s.formulas s.nodes set) s.necessities
  pub unproved : s.proved ≡ false

-- no node of the set contradicts another, so that not every path has a pair
not_all : (F : Setting) (M : Model) (w : ℕ) (s : State) → Inv F M w s → all is_pair (pairs s.formulas s.nodes (leaves s.nodes)) ≡ false
unfolding pairs is_pair
not_all F M w s i = not_true_false _ (λ e. none_all (leaves t) (leaf_some t i.set i.put.whole) (all_each is_pair (pairs s.formulas t (leaves t)) e))
  where
    t : List Node
    t = s.nodes

    open_path : (leaf : ℕ) → i.set leaf ≡ true → get_contradictory_node_ids s.formulas t (path t leaf) ≡ none
    open_path leaf h =
        no_pair M s.formulas i.wf i.img t (path t leaf) (each_map (λ x (k : i.set x ≡ true). (i.put.fine x k).1) (path t leaf) (path_in t i.set i.put.whole leaf h))

    none_all : (ls : List ℕ) → Some (λ x. i.set x ≡ true) ls → Each (λ (o : Option Pair). is_pair o ≡ true) (map (λ leaf. get_contradictory_node_ids s.formulas t (path t leaf)) ls) → ⊥
    none_all [] h k = h
    none_all (leaf ∷ ls) (inl h) k = true_false (sym (subst (λ (o : Option Pair). is_pair o ≡ true) (open_path leaf h) k.0))
    none_all (leaf ∷ ls) (inr h) k = none_all ls h k.1

pub inv_checked : (F : Setting) (M : Model) (w : ℕ) (s : State) → Inv F M w s → Inv F M w (check_for_contradictions F s)
unfolding checked_for_contradictions
inv_checked F M w s i =
    checked_both (Inv F M w) F s i
    (record {
      wf = i.wf;
      set = S;
      par = i.par;
      img = i.img;
      put = record {
        whole = λ e.
            runs_like t t' S e e (i.put.whole e) (omega (arith, size)) (λ x h. mark_keeps (λ (n : Node). n.parent) (λ j n. refl) found t x)
            (λ x h d. subst (λ (c : Children). (is_leaf c ≡ true) ⊎ Child S c) (sym (mark_keeps (λ (n : Node). n.children) (λ j n. refl) found t x)) ((i.put.whole e).down x h d));
        fine = λ x h.
            subst (λ (l : Label). Ok M i.par i.img s.formulas t' S l.world l.formula) (sym (same x))
            (world_more M i.par i.img t t' S S occ (node_at t x).world (i.put.fine x h).0, (i.put.fine x h).1);
      };
      edges = i.edges;
      low = every_marks (Low F s.graph) found t i.low;
      origin = i.origin;
      ground = ap (λ (l : Label). l.world) (same 0) ∙ i.ground;
      stand = each_map (stands_more M i.par i.img s.formulas t t' S S (omega (arith, size)) (λ x h. refl) occ) s.necessities i.stand;
      unproved = neither s.proved (all is_pair found) i.unproved (not_all F M w s i);
    })
  where
    t : List Node
    t = s.nodes

    S : ℕ → Bool
    S = i.set

    found : List (Option Pair)
    found = pairs s.formulas t (leaves t)

    t' : List Node
    t' = mark_all t found

    size : length t' ≡ length t
    size = length_marks found t

    same : (x : ℕ) → label (node_at t' x) ≡ label (node_at t x)
    same x = mark_keeps label (λ j n. refl) found t x

    occ : (v : ℕ) → Occurs t S v → Occurs t' S v
    occ v o = (o.0, o.1, ap (λ (l : Label). l.world) (same o.0) ∙ o.2)

    neither : (a b : Bool) → a ≡ false → b ≡ false → (a || b) ≡ false
    neither true b p q = p
    neither false b p q = q

-- what a rule's result has to have, so that it can be placed
pub record Faithful (F : Setting) (M : Model) (w : ℕ) (s : State) (i : Inv F M w s) (r : LogicRuleResult) : Type 0 where
  pub wf : WellFormed (s.formulas ++ r.formulas)
  pub par : ℕ → ℕ
  pub img : ℕ → ℕ
  pub fine : (x : ℕ) → i.set x ≡ true → Ok M par img (s.formulas ++ r.formulas) s.nodes i.set (node_at s.nodes x).world (node_at s.nodes x).formula
  pub good : Good (Ok M par img (s.formulas ++ r.formulas) s.nodes i.set) s.nodes i.set i.put.whole (s.nodes ++ r.nodes) r.subtrees
  pub edges : Edges F par r.graph
  pub low : Every (Low F r.graph) (s.nodes ++ r.nodes)
  pub origin : img 0 ≡ w
  pub stand : Each (Stands M par img (s.formulas ++ r.formulas) s.nodes i.set) r.necessities

-- placed, it keeps the invariant
pub inv_appended : (F : Setting) (M : Model) (w : ℕ) (s : State) (taken : Popped) (i : Inv F M w s) → Faithful F M w s i (apply F s taken.node) →
    length (appended F s taken).nodes ≤ nobody → Inv F M w (appended F s taken)
unfolding appended
inv_appended F M w s taken i k small =
    record {
      wf = k.wf;
      set = S';
      par = k.par;
      img = k.img;
      put = record {
        whole = placed.1.whole;
        fine = λ x h. (world_more M k.par k.img t t' S S' occ (node_at t' x).world (placed.1.fine x h).0, (placed.1.fine x h).1);
      };
      edges = k.edges;
      low = every_result (Low F r.graph) r.subtrees u taken.others (length t) (length t + length r.nodes) issued (omega (arith, longer)) k.low;
      origin = k.origin;
      ground = ap (λ (l : Label). l.world) (ext.labelled 0 ((i.put.whole 0).known 0 (i.put.whole 0).root)) ∙ i.ground;
      stand = each_map (stands_more M k.par k.img (s.formulas ++ r.formulas) t t' S S' ext.longer placed.2 occ) r.necessities k.stand;
      unproved = i.unproved;
    }
  where
    t : List Node
    t = s.nodes

    S : ℕ → Bool
    S = i.set

    r : LogicRuleResult
    r = apply F s taken.node

    u : List Node
    u = t ++ r.nodes

    t' : List Node
    t' = (append_logic_rule_result u taken.others r.subtrees).nodes

    P : ℕ → ℕ → Type 0
    P = Ok M k.par k.img (s.formulas ++ r.formulas) t S

    longer : length u ≡ length t + length r.nodes
    longer = length-append t r.nodes

    issued : IssuedBetween (length t) (length t + length r.nodes) r.subtrees
    issued = apply_issued F s taken.node

    placed : (S'' : ℕ → Bool) × Put P t' S'' × ((x : ℕ) → x < length t → S'' x ≡ S x)
    placed =
        all_put P (length t) S r.subtrees u S taken.others (length t) (length t + length r.nodes)
        (put_append P t r.nodes S (record { whole = i.put.whole; fine = k.fine }))
        (λ x h d. not_true_false (S x) (λ e. omega (arith, h, (i.put.whole 0).known x e)))
        (omega (arith, longer)) (omega arith) (λ x h. refl) issued
        (each_map {Q = λ (a : Targeted). a.target < length t} (λ (a : Targeted) (h : (a.target < length t) × (S a.target ≡ true → Side (Fine P u) a.subtree)). h.0) r.subtrees k.good)
        (each_map {Q = λ (a : Targeted). S a.target ≡ true → Side (Fine P u) a.subtree} (λ (a : Targeted) (h : (a.target < length t) × (S a.target ≡ true → Side (Fine P u) a.subtree)). h.1) r.subtrees k.good) small

    S' : ℕ → Bool
    S' = placed.0

    ext : Ext t t'
    ext = ext_trans t u t' (ext_append t r.nodes) (ext_result r.subtrees u taken.others)

    occ : (v : ℕ) → Occurs t S v → Occurs t' S' v
    occ v o =
        let h = (i.put.whole 0).known o.0 o.1 in
        (o.0, placed.2 o.0 h ∙ o.1, ap (λ (l : Label). l.world) (ext.labelled o.0 h) ∙ o.2)
