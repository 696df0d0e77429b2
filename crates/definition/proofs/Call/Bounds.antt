-- The bounds of a run with at most most_identifiers: worlds, formulas, and every number that a node or a record holds.
use mathlib.Core.Path.{◌≡◌, refl, sym, subst}
use mathlib.Core.Bool.{true, false}
use mathlib.Core.List.{List, [], ◌++◌}
use mathlib.Core.Option.{none}
use mathlib.Core.Logic.{◌⊎◌, inl, inr}
use Prim.Native.Nat.{ℕ, suc, ◌<◌, ◌≤◌, ◌+◌}
use native.Mathlib.Omega.{arith}
use lib.ListN.{length, length-append}
use Rattle.definition.specs.Limits.{most_records, most_identifiers, world_limit, graph_width, most_formulas}
use Rattle.definition.specs.Lists.{Each, filter, elem}
use Rattle.definition.specs.Records.{Rec, nobody, marks}
use Rattle.definition.specs.Setting.{Setting}
use Rattle.definition.specs.Graph.{Graph, edge, empty_graph, initialize_graph_if_needed, fork}
use Rattle.definition.specs.Tree.{Node, new_node, node_at, leaves, path}
use Rattle.definition.specs.Rules.{Rule, nothing, down, split, as_possible, as_necessary, expansion}
use Rattle.definition.specs.Subtree.{Subtree, with_middle, with_left_right, flat, turned, append_logic_rule_result}
use Rattle.definition.specs.Modality.{Necessity, unvisited, visiting}
use Rattle.definition.specs.Queue.{Popped}
use Rattle.definition.specs.Contradiction.{mark_all, pairs}
use Rattle.definition.specs.Run.{State, LogicRuleResult, apply_here, apply_possibility, apply_necessity, apply_rule, apply, appended, checked_for_contradictions, check_for_contradictions, step, full, stops, run, branch_nodes, rooted, begun, start}
use Rattle.definition.specs.Fits.{Number, RecordFits}
use Rattle.definition.proofs.Basics.Lists.{each_map, each_append, each_of_map}
use Rattle.definition.proofs.Tree.Nodes.{Label, label, ext_result, length_marks}
use Rattle.definition.proofs.Tree.Labels.{Every, every_append, every_result, every_marks, rooted_every}
use Rattle.definition.proofs.Basics.Records.{marks_known}
use Rattle.definition.proofs.Basics.Identifiers.{each_turned, apply_issued}
use Rattle.definition.proofs.Run.Stepping.{checked_both, not_stopped, not_full, step_keeps, run_keeps}
use Rattle.definition.proofs.Run.Queueing.{few_marks}
use Rattle.definition.proofs.Run.Counting.{Counted, Known, due, known_step, known_taken, known_start, start_counted}
use Rattle.definition.proofs.Basics.Forms.{WellFormed}
use Rattle.definition.proofs.Soundness.Priest
use Rattle.definition.proofs.Soundness.Priest.{Fit, made_two, made_fit, expansion_wf, rule_known}
use Rattle.definition.proofs.Soundness.Edges.{init_one, init_less, init_worlds, fork_worlds, Squared, squared_init, squared_fork, squared_empty}
use Rattle.definition.proofs.Soundness.Necessities.{unvisited_each, after_each}
use Rattle.definition.proofs.Tree.NewNodes.{Gifts, reapply_each, after_each_node}
use Rattle.definition.proofs.Call.Fields.{more_number}

-- a label with a world below b, a formula below m, a spawner below n
pub record LabelFits (b m n : ℕ) (l : Label) : Type 0 where
  pub world : l.world < b
  pub formula : Number m l.formula
  pub spawner : Number n l.spawner

more_label : (b m n b' m' n' : ℕ) → b ≤ b' → m ≤ m' → n ≤ n' → (l : Label) → LabelFits b m n l → LabelFits b' m' n' l
more_label b m n b' m' n' p q r l k =
    record { world = omega (arith, k.world); formula = more_number m m' l.formula q k.formula; spawner = more_number n n' l.spawner r k.spawner }

abbrev NecessityFits : ℕ → ℕ → Necessity → Type 0
NecessityFits m n k = (k.formula < m) × (k.spawner < n)

-- where a run stops, every world has room in the graph
pub stop_fits : world_limit ≤ graph_width
stop_fits = omega arith

-- a rule's result has the formulas that its expansion makes
pub rule_made : (F : Setting) (s : State) (x : ℕ) (more : List Rec) (r : Rule ℕ) → (apply_rule F s x more r).formulas ≡ more
unfolding apply_rule apply_here apply_possibility apply_necessity
rule_made F s x more nothing = refl
rule_made F s x more (down fs) = refl
rule_made F s x more (split fs gs) = refl
rule_made F s x more (as_possible f) = refl
rule_made F s x more (as_necessary f) = refl

pub apply_made : (F : Setting) (s : State) (x : ℕ) → (apply F s x).formulas ≡ (expansion s.formulas (node_at s.nodes x).formula).made
unfolding apply
apply_made F s x = rule_made F s x _ _

-- P holds of every record of the branch, and of every record whose numbers fit
module _ (P : Rec → Type 0) (ok : (r : Rec) → RecordFits r → P r) where
  -- what a run over k records keeps, while it is not full
  pub record Sizes (F : Setting) (k : ℕ) (s : State) : Type 0 where
    pub wf : WellFormed s.formulas
    pub formulas : length s.formulas ≤ k + (s.steps + s.steps)
    pub records : Each P s.formulas
    pub squared : Squared s.graph
    pub worlds : s.graph.worlds ≤ world_limit
    pub labels : Every (LabelFits (initialize_graph_if_needed F s.graph).worlds (length s.formulas) (length s.nodes)) s.nodes
    pub necessities : Each (NecessityFits (length s.formulas) (length s.nodes)) s.necessities

  -- with its counts
  pub record Bounded (F : Setting) (k : ℕ) (s : State) : Type 0 where
    pub counted : Counted s
    pub known : Known s.nodes s.waiting
    pub sizes : Sizes F k s

  -- what a rule's result has: more is the number of formulas with those made
  record ResultFits (F : Setting) (more n : ℕ) (g : Graph) (r : LogicRuleResult) : Type 0 where
    squared : Squared r.graph
    worlds : r.graph.worlds ≤ world_limit
    wider : (initialize_graph_if_needed F g).worlds ≤ (initialize_graph_if_needed F r.graph).worlds
    labels : Each (λ (m : Node). LabelFits (initialize_graph_if_needed F r.graph).worlds more n (label m)) r.nodes
    necessities : Each (NecessityFits more n) r.necessities

  module _ (F : Setting) (k : ℕ) (s : State) (h : Sizes F k s) (few : s.graph.worlds < world_limit) (x : ℕ) (hx : x < length s.nodes) (more : List Rec) where
    abbrev t : List Node
    t = s.nodes

    abbrev m : ℕ
    m = length (s.formulas ++ more)

    abbrev b : ℕ
    b = (initialize_graph_if_needed F s.graph).worlds

    longer : length s.formulas ≤ m
    longer = omega (arith, length-append s.formulas more)

    necessities_fit : Each (NecessityFits m (length t)) s.necessities
    necessities_fit = each_map (λ (n : Necessity) (q : NecessityFits (length s.formulas) (length t) n). (omega (arith, q.0, longer), q.1)) s.necessities h.necessities

    here_fits : (fs : Subtree) → Each (λ f. f < m) (flat fs) → ResultFits F m (length t) s.graph (apply_here s x more fs)
    unfolding apply_here
    here_fits fs q =
        record {
          squared = h.squared;
          worlds = h.worlds;
          wider = omega arith;
          labels = each_of_map (λ (a : Node). LabelFits b m (length t) (label a)) (λ f. new_node x f (node_at t x).world) (flat (turned fs))
              (each_map (λ f (l : f < m). record { world = (h.labels x hx).world; formula = inr l; spawner = inr hx }) (flat (turned fs)) (each_turned (λ f. f < m) fs q));
          necessities = necessities_fit;
        }

    gifts_fit : (g : Graph) (n : Necessity) → NecessityFits m (length t) n → Gifts (λ (a : Node). LabelFits (initialize_graph_if_needed F g).worlds m (length t) (label a)) g n
    gifts_fit g n q =
        each_map (λ v (a : (v < g.worlds) × (edge g n.world v ≡ true)). record { world = omega (arith, a.0, (init_worlds F g).1); formula = inr q.0; spawner = inr q.1 })
        (unvisited g n) (unvisited_each g n)

    init_fits : b ≤ world_limit
    init_fits = go (init_less F s.graph)
      where
        go : (s.graph.worlds ≡ 0) ⊎ (b ≡ s.graph.worlds) → b ≤ world_limit
        go (inl e) = omega (arith, init_one F s.graph e)
        go (inr e) = omega (arith, e, few)

    fork_fits : (fork F (initialize_graph_if_needed F s.graph) (node_at t x).world).worlds ≤ world_limit
    fork_fits = go (init_less F s.graph)
      where
        e : (fork F (initialize_graph_if_needed F s.graph) (node_at t x).world).worlds ≡ suc b
        e = fork_worlds F (initialize_graph_if_needed F s.graph) (node_at t x).world

        go : (s.graph.worlds ≡ 0) ⊎ (b ≡ s.graph.worlds) → (fork F (initialize_graph_if_needed F s.graph) (node_at t x).world).worlds ≤ world_limit
        go (inl d) = omega (arith, init_one F s.graph d, e)
        go (inr d) = omega (arith, d, few, e)

    rule_fits : (r : Rule ℕ) → Priest.Known m r → ResultFits F m (length t) s.graph (apply_rule F s x more r)
    unfolding apply_rule apply_possibility apply_necessity visiting flat
    rule_fits nothing q = here_fits (with_middle []) tt
    rule_fits (down fs) q = here_fits (with_middle fs) (each_append (λ f. f < m) fs [] q tt)
    rule_fits (split fs gs) q = here_fits (with_left_right fs gs) (each_append (λ f. f < m) fs gs q.0 q.1)
    rule_fits (as_possible f) q =
        let g = fork F (initialize_graph_if_needed F s.graph) (node_at t x).world in
        let high = fork_worlds F (initialize_graph_if_needed F s.graph) (node_at t x).world in
        record {
          squared = squared_fork F (initialize_graph_if_needed F s.graph) (node_at t x).world;
          worlds = fork_fits;
          wider = omega (arith, high, (init_worlds F g).1);
          labels = (
            record { world = omega (arith, high, (init_worlds F g).1); formula = inr q; spawner = inr hx },
            (
              record { world = (init_worlds F g).0; formula = inl refl; spawner = inr hx },
              after_each_node (λ (a : Node). LabelFits (initialize_graph_if_needed F g).worlds m (length t) (label a)) s.necessities t g _ (length t + 2) (each_map (gifts_fit g) s.necessities necessities_fit),
            ),
          );
          necessities = after_each (NecessityFits m (length t)) t g _ (λ n a. a) s.necessities necessities_fit;
        }
    rule_fits (as_necessary f) q =
        let g = initialize_graph_if_needed F s.graph in
        let n : Necessity = record { formula = f; world = (node_at t x).world; spawner = x; leaves = filter (λ leaf. elem x (path t leaf)) (leaves t); visited = [] } in
        record {
          squared = squared_init F s.graph h.squared;
          worlds = init_fits;
          wider = (init_worlds F g).1;
          labels = reapply_each (λ (a : Node). LabelFits (initialize_graph_if_needed F g).worlds m (length t) (label a)) t g none (length t) n (gifts_fit g n (q, hx));
          necessities = ((q, hx), necessities_fit);
        }

  -- the check for contradictions changes no label
  sizes_checked : (F : Setting) (k : ℕ) (s : State) → Sizes F k s → Sizes F k (check_for_contradictions F s)
  unfolding checked_for_contradictions
  sizes_checked F k s h =
      let found = pairs s.formulas s.nodes (leaves s.nodes) in
      let size = length_marks found s.nodes in
      let fits = LabelFits (initialize_graph_if_needed F s.graph).worlds (length s.formulas) in
      checked_both (Sizes F k) F s h
      (record {
        wf = h.wf;
        formulas = h.formulas;
        records = h.records;
        squared = h.squared;
        worlds = h.worlds;
        labels = every_marks (fits (length (mark_all s.nodes found))) found s.nodes (rw size h.labels);
        necessities = rw size h.necessities;
      })

  -- not full, so that the formulas are few
  few_formulas : (F : Setting) (k : ℕ) (s : State) → Bounded F k s → full s ≡ false → length s.formulas ≤ k + (most_identifiers + most_identifiers)
  unfolding Counted
  few_formulas F k s h e = omega (arith, h.sizes.formulas, h.counted, not_full s e)

  -- all but the counts, which the step as a whole has
  sizes_appended : (F : Setting) (k : ℕ) (s : State) (p : Popped) → k ≤ most_records → Bounded F k s → s.graph.worlds < world_limit → full s ≡ false → p.node < length s.nodes →
      Sizes F k (appended F s p)
  unfolding appended apply
  sizes_appended F k s p small h few e hx =
      let f = (node_at s.nodes p.node).formula in
      let more = (expansion s.formulas f).made in
      let r = apply F s p.node in
      let z = h.sizes in
      let fits = rule_fits F k s z few p.node hx more (expansion s.formulas f).rule (rule_known s.formulas z.wf f) in
      let n = length s.nodes in
      let u = s.nodes ++ r.nodes in
      let t' = (append_logic_rule_result u p.others r.subtrees).nodes in
      let lu = length-append s.nodes r.nodes in
      let lm = length-append s.formulas more in
      let lt = (ext_result r.subtrees u p.others).longer in
      let b = (initialize_graph_if_needed F r.graph).worlds in
      let m = length (s.formulas ++ more) in
      let placed = append_logic_rule_result u p.others r.subtrees in
      subst
      (λ (made : List Rec).
      Sizes F k
      (record { formulas = s.formulas ++ made; nodes = placed.nodes; graph = r.graph; necessities = r.necessities; waiting = placed.waiting; proved = s.proved; steps = suc s.steps }))
      (sym (apply_made F s p.node))
      (record {
        wf = expansion_wf s.formulas z.wf f;
        formulas = omega (arith, z.formulas, lm, made_two s.formulas f);
        records = each_append P s.formulas more z.records
            (each_map (λ (a : Rec) (q : Fit (length s.formulas + 2) a). ok a (record { kind = q.0; mark = omega (arith, q.1); left = omega (arith, q.2, few_formulas F k s h e, small); right = omega (arith, q.3, few_formulas F k s h e, small) })) more (made_fit s.formulas z.wf f));
        squared = fits.squared;
        worlds = fits.worlds;
        labels = every_result (LabelFits b m (length t')) r.subtrees u p.others n (n + length r.nodes) (apply_issued F s p.node) (omega (arith, lu))
            (every_append (LabelFits b m (length t')) s.nodes r.nodes
            (λ x q. more_label (initialize_graph_if_needed F s.graph).worlds (length s.formulas) n b m (length t') fits.wider (omega (arith, lm)) (omega (arith, lt, lu)) (label (node_at s.nodes x)) (z.labels x q))
            (each_map (λ (a : Node) (q : LabelFits b m n (label a)). more_label b m n b m (length t') (omega arith) (omega arith) (omega (arith, lt, lu)) (label a) q) r.nodes fits.labels));
        necessities = each_map (λ (a : Necessity) (q : NecessityFits m n a). (q.0, omega (arith, q.1, lt, lu))) r.necessities fits.necessities;
      })

  pub bounded_step : (F : Setting) (k : ℕ) (s : State) → k ≤ most_records → stops F s ≡ false → Bounded F k s → Bounded F k (step F s)
  bounded_step F k s small e h =
      let (d, room) = not_stopped F s e in
      record {
        counted = (due F s d.waits h.counted).0;
        known = known_step F s h.known;
        sizes = step_keeps F s (Sizes F k) (λ p q. sizes_appended F k s p small h d.worlds room (known_taken s p h.known q)) (sizes_checked F k) h.sizes;
      }

  sizes_begun : (F : Setting) (rs : List Rec) → WellFormed rs → Each P rs → Sizes F (length rs) (begun rs)
  unfolding begun branch_nodes empty_graph
  sizes_begun F rs wf fit =
      let ns = branch_nodes rs in
      let fits = LabelFits (initialize_graph_if_needed F empty_graph).worlds (length rs) (length (rooted ns)) in
      record {
        wf = wf;
        formulas = omega arith;
        records = fit;
        squared = squared_empty;
        worlds = omega arith;
        labels = rooted_every fits ns
            (each_of_map (λ (n : Node). fits (label n)) (λ f. new_node nobody f 0) (marks rs)
            (each_map {Q = λ f. fits (label (new_node nobody f 0))} (λ f (l : f < 0 + length rs). record { world = (init_worlds F empty_graph).0; formula = inr (omega (arith, l)); spawner = inl refl }) (marks rs) (marks_known rs 0)));
        necessities = tt;
      }

  pub start_bounded : (F : Setting) (rs : List Rec) → length rs ≤ most_records → WellFormed rs → Each P rs → Bounded F (length rs) (start F rs)
  unfolding start
  start_bounded F rs small wf fit =
      let few : length (marks rs) ≤ nobody = omega (arith, small, few_marks 0 rs) in
      record { counted = start_counted F rs few; known = known_start F rs few; sizes = sizes_checked F (length rs) (begun rs) (sizes_begun F rs wf fit) }

  -- every state of the run
  pub run_bounded : (F : Setting) (rs : List Rec) (n : ℕ) → length rs ≤ most_records → WellFormed rs → Each P rs → Bounded F (length rs) (run n F (start F rs))
  run_bounded F rs n small wf fit = run_keeps stops F (Bounded F (length rs)) (λ s e h. bounded_step F (length rs) s small e h) n (start F rs) (start_bounded F rs small wf fit)

  -- the input and two for each step: no more formulas than the tray holds
  pub bounded_formulas : (F : Setting) (k : ℕ) (s : State) → Bounded F k s → k ≤ most_records → full s ≡ false → length s.formulas ≤ most_formulas
  bounded_formulas F k s h small e = omega (arith, few_formulas F k s h e)

  pub bounded_steps : (F : Setting) (k : ℕ) (s : State) → Bounded F k s → full s ≡ false → s.steps ≤ most_identifiers
  unfolding Counted
  bounded_steps F k s h e = omega (arith, h.counted, not_full s e)
