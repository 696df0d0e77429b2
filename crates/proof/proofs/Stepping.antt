-- One step: the node taken, its rule applied and placed, the contradictions checked.
use Prim.Native.Nat.{ℕ, suc, ◌<◌, ◌≤◌, ◌+◌}
use mathlib.Core.Path.{◌≡◌, refl, sym, ap, ◌∙◌, subst}
use mathlib.Core.Bool.{Bool, true, false}
use mathlib.Core.List.{List, ◌++◌, map}
use mathlib.Core.Option.{Option, none, some}
use native.Mathlib.Omega.{arith}
use lib.Dec.{leb}
use borrow.Author.Tests.{leb-true, leb-false}
use lib.ListN.{length, length-append}
use Rattle.definition.specs.Limits.{most_identifiers, most_formulas}
use Rattle.arrays.specs.Listed.{HasList}
use Rattle.arrays.specs.Listed.{Numbers}
use Rattle.arrays.proofs.Tabled.{tabled_fits}
use Rattle.definition.specs.Lists.{Each, empty}
use Rattle.definition.specs.Setting.{Setting}
use Rattle.definition.specs.Records.{Rec}
use Rattle.definition.specs.Graph.{Graph}
use Rattle.definition.specs.Tree.{Node, node_at}
use Rattle.definition.specs.Rules.{expansion}
use Rattle.definition.specs.Modality.{Necessity}
use Rattle.definition.specs.Queue as D
use Rattle.definition.specs.Run.{State, apply_rule, apply, checked_for_contradictions, check_for_contradictions, appended, step, stops}
use Rattle.definition.proofs.Basics.Lists.{each_map}
use Rattle.definition.proofs.Run.Popping.{Taken, pop_taken, taken_each, taken_fewer, pop_filled}
use Rattle.definition.proofs.Run.Stepping.{checked_both, checked_length, not_stopped, step_is}
use Rattle.definition.proofs.Run.Counting.{Counted, appended_counted}
use Rattle.definition.proofs.Engine.Classes.{queued, classes_appended, classes_checked}
use Rattle.definition.proofs.Soundness.Priest.{made_two}
use Rattle.definition.proofs.Call.Bounds.{rule_made}
use Rattle.definition.specs.Reached.{Reached}
use Rattle.definition.proofs.Engine.Reached.{reached_invariants}
use Rattle.definition.proofs.Call.Room.{Fit, Ready, ready, filled}
use Rattle.definition.proofs.Paths.Marks.{RunMarksRight}
use Rattle.definition.specs.Shortcuts.{CheckedAt}
use Rattle.definition.proofs.Engine.NewLeaves.{since_step}
use Rattle.definition.proofs.Paths.Spawners.{Rooted, AllRooted}
use Rattle.formula.specs.Recorded.{HasRecords}
use Rattle.formula.specs.declared.Formulas.{Formulas}
use Rattle.formula.proofs.Recorded.{recorded_fits}
use Rattle.graph.specs.Drawn.{HasGraph}
use Rattle.tree.specs.declared.ProofTreeNode.{ProofTreeNode}
use Rattle.tree.specs.Lay.{Laid, Held, HasNodes, held, too_many}
use Rattle.tree.specs.declared.ProofTree.{ProofTree}
use Rattle.tree.specs.declared.ProofTreeNodeID.{ProofTreeNodeID}
use Rattle.tree.proofs.Nodes.{held_ok, held_lays}
use Rattle.std.specs.Prelude as P
use Rattle.queue.specs.Taking.{answer, afterwards}
use Rattle.rules.specs.declared.Consequence.{Consequence}
use Rattle.rules.specs.Consequences.{consequence_of}
use Rattle.rules.specs.Expands.{Expands}
use Rattle.necessities.specs.Stack.{HasStack}
use Rattle.logic.specs.declared.Tableau.{Tableau}
use Rattle.logic.specs.Applied.{Before, After}
use Rattle.proof.specs.declared.State as Rust
use Rattle.proof.specs.StateHeld.{StateLaid, StateHeld, kept, full}
use Rattle.proof.proofs.Applying.{after_as}

held_over : {ns : List Node} {len : ℕ} {a : List ProofTreeNode} → Held ns len a → most_identifiers < len → most_identifiers < length ns
held_over (held b e q) h = absurd (omega arith)
held_over (too_many b e) h = e

pub kept_laid : {F : Setting} {s : State} {x : Rust.State} → StateHeld F s x → length s.nodes ≤ most_identifiers → StateLaid F s x
kept_laid (kept k) h = k
kept_laid (full a b) h = absurd (omega arith)

pub waiting_some : (F : Setting) (s : State) → stops F s ≡ false → empty s.waiting ≡ false
waiting_some F s e = (not_stopped F s e).0.waits

-- some node waits where a step is due, so that one is taken
pub never_none : (F : Setting) (s : State) → stops F s ≡ false → ((x : ProofTreeNodeID) → answer (D.pop F s.formulas s.nodes s.waiting) ≡ P.Some x → ⊥) → ⊥
unfolding answer
never_none F s e h =
    let (t, d) = pop_filled F s.formulas s.nodes s.waiting (waiting_some F s e) in
    h (record { 0 = t.node }) (ap answer d)

-- which one
pub taken_of : (o : Option D.Popped) (x : ProofTreeNodeID) → answer o ≡ P.Some x → (q : List ℕ) × (o ≡ some (record { node = x.0; others = q }))
unfolding answer
taken_of none x e = let o : ◌≡◌ {A = ℕ} 0 1 = cc in absurd (omega arith)
taken_of (some t) x e =
    let y : ProofTreeNodeID = record { 0 = t.node } in
    let i : y ≡ x = cc in
    (t.others, ap (λ (z : ProofTreeNodeID). some (record { node = z.0; others = t.others })) i)

-- what a check leaves alone
record Alike (s z : State) : Type 0 where
  formulas : s.formulas ≡ z.formulas
  graph : s.graph ≡ z.graph
  necessities : s.necessities ≡ z.necessities
  waiting : s.waiting ≡ z.waiting
  steps : s.steps ≡ z.steps

checked_alike : (F : Setting) (s : State) → Alike s (check_for_contradictions F s)
unfolding checked_for_contradictions
checked_alike F s =
    checked_both (Alike s) F s (record { formulas = refl; graph = refl; necessities = refl; waiting = refl; steps = refl })
    (record { formulas = refl; graph = refl; necessities = refl; waiting = refl; steps = refl })

-- a state whose contradictions are checked: its nodes and what is proved, and the rest as it was
pub checked_laid : (F : Setting) (s : State) {x : Rust.State} →
    HasRecords s.formulas x.formulas → HasGraph s.graph x.tableau.graph → HasStack s.necessities x.tableau.necessities → HasList s.waiting x.tableau.waiting → HasList (map (D.get_node_priority F s.formulas s.nodes) s.waiting) x.classes → x.steps ≡ s.steps →
    HasNodes (check_for_contradictions F s).nodes x.tableau.tree → x.proved ≡ (check_for_contradictions F s).proved → x.tableau.tree.len ≤ most_identifiers → StateLaid F (check_for_contradictions F s) x
checked_laid F s {x} r g n w k e nodes proved small =
    let same = checked_alike F s in
    let h = held_ok nodes small in
    record {
      formulas = subst (λ (l : List Rec). HasRecords l x.formulas) same.formulas r;
      room = omega (arith, h.0, small);
      count = h.0;
      nodes = h.1;
      graph = subst (λ (y : Graph). HasGraph y x.tableau.graph) same.graph g;
      necessities = subst (λ (l : List Necessity). HasStack l x.tableau.necessities) same.necessities n;
      waiting = subst (λ (l : List ℕ). HasList l x.tableau.waiting) same.waiting w;
      classes =
          let z = check_for_contradictions F s in
          subst (λ (l : List ℕ). HasList (map (D.get_node_priority F z.formulas z.nodes) l) x.classes) same.waiting
          (subst (λ (l : List ℕ). HasList l x.classes) (sym (classes_checked F s s.waiting)) k);
      proved = proved;
      steps = e ∙ same.steps;
    }

pub checked_held : (F : Setting) (s : State) {x : Rust.State} {t : ProofTree} {proved : Bool} → StateHeld F s x → t.len ≡ x.tableau.tree.len →
    (HasNodes s.nodes x.tableau.tree → HasRecords s.formulas x.formulas → x.proved ≡ s.proved →
    HasNodes (check_for_contradictions F s).nodes t × (x.tableau.tree.len ≤ most_identifiers → proved ≡ (check_for_contradictions F s).proved)) →
    StateHeld F (check_for_contradictions F s) (record {
      formulas = x.formulas;
      tableau = record { tree = t; graph = x.tableau.graph; necessities = x.tableau.necessities; waiting = x.tableau.waiting };
      classes = x.classes;
      steps = x.steps;
      proved = proved;
    })
checked_held F s {x} (kept l) same check =
    let small : x.tableau.tree.len ≤ most_identifiers = omega (arith, l.room, l.count) in
    let k = check (held small l.count l.nodes) l.formulas l.proved in
    kept (checked_laid F s l.formulas l.graph l.necessities l.waiting l.classes l.steps k.0 (k.1 small) (omega (arith, small, same)))
checked_held F s (full over long) same check = full (omega (arith, same, over)) (omega (arith, long, checked_length F s))

-- no more wait than there are nodes
waiting_fits : (F : Setting) (k : ℕ) (s : State) → Fit F k s → length s.nodes ≤ most_identifiers → length s.waiting ≤ most_identifiers
unfolding Counted
waiting_fits F k s fit h = omega (arith, fit.bounded.counted, h)

-- a state from which a step is due
pub record Due (F : Setting) (k : ℕ) (s : State) (x : Rust.State) : Type 0 where
  pub fit : Fit F k s
  pub watch : RunMarksRight F s
  pub rooted : AllRooted s
  pub goes : stops F s ≡ false
  pub ready : Ready s
  pub laid : StateLaid F s x
  pub few : x.tableau.waiting.len ≤ most_identifiers

pub due : {F : Setting} {s : State} {x : Rust.State} (reached : Reached F s) → StateHeld F s x → stops F s ≡ false → Due F (reached_invariants F s reached).records s x
due {F} {s} reached kp goes =
    let i = reached_invariants F s reached in
    let r = ready F i.records s i.fit goes in
    let l = kept_laid kp r.nodes in
    record { fit = i.fit; watch = i.watch; rooted = i.rooted; goes = goes; ready = r; laid = l; few = tabled_fits l.waiting (waiting_fits F i.records s i.fit r.nodes) }

-- the state before the rule
pub due_before : {F : Setting} {k : ℕ} {s : State} {x : Rust.State} {w : Numbers} {q : List ℕ} → Due F k s x → HasList q w →
    Before (record { tree = x.tableau.tree; graph = x.tableau.graph; necessities = x.tableau.necessities; waiting = w }) s q
due_before {s = s} d w =
    let r = d.ready in
    let l = d.laid in
    record {
      treed = r.treed;
      spawned = each_map (λ n (o : Rooted s.nodes n). o.spawned) s.necessities (d.rooted (omega (arith, r.nodes)));
      fits = r.nodes;
      count = l.count;
      laid = l.nodes;
      waiting = w;
      graph = l.graph;
      few = omega (arith, r.worlds, l.graph.count);
      necessities = l.necessities;
      room = omega (arith, r.necessities, l.necessities.counted);
    }

-- those that wait beside the node taken
pub took : (w : List ℕ) (o : Option D.Popped) (x : ℕ) (q : List ℕ) {a : Numbers} → o ≡ some (record { node = x; others = q }) → HasList (afterwards w o) a → HasList q a
unfolding afterwards
took w o x q {a} e l = subst (λ (v : Option D.Popped). HasList (afterwards w v) a) e l

-- and their classes
pub took_classes : (f : ℕ → ℕ) (w : List ℕ) (o : Option D.Popped) (x : ℕ) (q : List ℕ) {a : Numbers} → o ≡ some (record { node = x; others = q }) →
    HasList (map f (afterwards w o)) a → HasList (map f q) a
unfolding afterwards
took_classes f w o x q {a} e l = subst (λ (v : Option D.Popped). HasList (map f (afterwards w v)) a) e l

pub expands_as : {rs : List Rec} {g h : ℕ} {e : Consequence} {a : Formulas} → g ≡ h → Expands rs (expansion rs g) e a → Expands rs (expansion rs h) e a
expands_as {rs} {e = e} {a} d k = subst (λ (v : ℕ). Expands rs (expansion rs v) e a) d k

module _ (F : Setting) (s : State) (x : ℕ) (q : List ℕ) where
  abbrev f : ℕ
  f = (node_at s.nodes x).formula

  abbrev recs : List Rec
  recs = (expansion s.formulas f).made

  abbrev taken : D.Popped
  taken = record { node = x; others = q }

  abbrev next : State
  next = appended F s taken

  formulas_fit : length s.formulas + 2 ≤ most_formulas → {a : Formulas} → HasRecords (s.formulas ++ recs) a → a.records.len ≤ most_formulas
  formulas_fit h r = recorded_fits r (omega (arith, h, length-append s.formulas recs, made_two s.formulas f))

  -- the rule's result, as the step has it
  abbrev Applied : Tableau → Type 0
  Applied A = After A s q (apply F s x)

  next_after : {e : Consequence} {g : Formulas} {A : Tableau} → g.records.len ≤ most_formulas → Expands s.formulas (expansion s.formulas f) e g →
      After A s q (apply_rule F s x recs (consequence_of e)) → Applied A
  unfolding apply
  next_after small ex h = after_as s q (ap (apply_rule F s x recs) (ex.rule small)) h

  next_records : {a : Formulas} → HasRecords (s.formulas ++ recs) a → HasRecords next.formulas a
  unfolding appended apply
  next_records {a} r = subst (λ (l : List Rec). HasRecords (s.formulas ++ l) a) (sym (rule_made F s x recs (expansion s.formulas f).rule)) r

  next_nodes : {A : Tableau} → Applied A → HasNodes next.nodes A.tree
  unfolding appended
  next_nodes h = h.nodes

  next_waiting : {A : Tableau} → Applied A → A.tree.len ≤ most_identifiers → HasList next.waiting A.waiting
  unfolding appended
  next_waiting h fits = (h.rest fits).waiting

  module _ (k : ℕ) (fit : Fit F k s) (o : D.pop F s.formulas s.nodes s.waiting ≡ some taken) where
    out : Taken s.waiting taken
    out = pop_taken F s.formulas s.nodes s.waiting taken o

    others_known : Each (λ y. y < length s.nodes) q
    others_known = (taken_each (λ y. y < length s.nodes) s.waiting taken out fit.bounded.known).1

    next_counted : next.steps + length next.waiting ≡ length next.nodes
    unfolding Counted
    next_counted = appended_counted F s taken (taken_fewer s.waiting taken out) fit.bounded.counted

  -- the struct before the check
  abbrev applied : Tableau → Formulas → Numbers → ℕ → Bool → Rust.State
  applied A g c steps proved = record { formulas = g; tableau = A; classes = c; steps = steps; proved = proved }

  module _ {A : Tableau} {g : Formulas} {c : Numbers} {steps : ℕ} {proved : Bool} (h : Applied A) (r : HasRecords next.formulas g) (e : steps ≡ suc s.steps) (p : proved ≡ s.proved)
      (classes : A.tree.len ≤ most_identifiers → HasList (map (D.get_node_priority F next.formulas next.nodes) next.waiting) c) where
    applied_laid : A.tree.len ≤ most_identifiers → StateLaid F next (applied A g c steps proved)
    unfolding appended
    applied_laid small =
        let rest = h.rest small in
        let ok = held_ok h.nodes small in
        record { formulas = r; room = omega (arith, ok.0, small); count = ok.0; nodes = ok.1; graph = rest.graph; necessities = rest.necessities; waiting = rest.waiting; classes = classes small; proved = p; steps = e }

    applied_held : StateHeld F next (applied A g c steps proved)
    applied_held = go (leb A.tree.len most_identifiers) refl
      where
        go : (b : Bool) → leb A.tree.len most_identifiers ≡ b → StateHeld F next (applied A g c steps proved)
        go true k = kept (applied_laid (leb-true A.tree.len most_identifiers k))
        go false k = let over : most_identifiers < A.tree.len = omega (arith, leb-false A.tree.len most_identifiers k) in full over (held_over (next_nodes h) over)

  pub stepped : {k : ℕ} {y z : Rust.State} → Due F k s y → D.pop F s.formulas s.nodes s.waiting ≡ some taken →
      {e : Consequence} {A : Tableau} {g : Formulas} {c d : Numbers} {steps : ℕ} → Expands s.formulas (expansion s.formulas f) e g → (y.steps < most_identifiers → steps ≡ suc y.steps) →
      After A s q (apply_rule F s x recs (consequence_of e)) → HasList (map (D.get_node_priority F s.formulas s.nodes) q) c →
      ((F : Setting) (rs : List Rec) (ns : List Node) (q more : List ℕ) → HasRecords rs g → g.records.len ≤ most_formulas → Laid ns A.tree → HasList (q ++ more) A.waiting → A.waiting.len ≤ most_identifiers →
      HasList (map (D.get_node_priority F rs ns) q) c → HasList (map (D.get_node_priority F rs ns) (q ++ more)) d) →
      ((n : State) → g.records.len ≤ most_formulas → (F.skip ≡ false → A.tree.len ≤ most_identifiers → CheckedAt n.formulas n.nodes y.tableau.tree.len) →
      StateHeld F n (applied A g d steps y.proved) → StateHeld F (check_for_contradictions F n) z) →
      StateHeld F (step F s) z
  unfolding Counted
  stepped {k} {y} {z} d o {e} {A} {g} {c} {d = c'} {steps} ex count af known classify check =
      let fit = d.fit in
      let r = d.ready in
      let l = d.laid in
      let small = formulas_fit r.formulas ex.records in
      let h = next_after small ex af in
      let rec = next_records ex.records in
      let low : y.steps < most_identifiers = omega (arith, l.steps, fit.bounded.counted, r.nodes, filled s.waiting (waiting_some F s d.goes)) in
      subst (λ (n : State). StateHeld F n z) (sym (step_is F s taken o))
      (check next small
      (λ e fits. subst (CheckedAt next.formulas next.nodes) l.count (since_step F k s taken fit d.goes (omega (arith, (held_ok (next_nodes h) fits).0, fits)) (d.watch e (omega (arith, r.nodes)))))
      (applied_held h rec (count low ∙ ap suc l.steps) l.proved (λ fits.
      let w = queued F s taken in
      let ok = held_ok (next_nodes h) fits in
      let put = subst (λ (v : List ℕ). HasList v A.waiting) w.1 (next_waiting h fits) in
      subst (λ (v : List ℕ). HasList (map (D.get_node_priority F next.formulas next.nodes) v) c') (sym w.1)
      (classify F next.formulas next.nodes q w.0 rec small (held_lays (next_nodes h) fits) put (tabled_fits (next_waiting h fits) (omega (arith, next_counted k fit o, ok.0, fits)))
      (subst (λ (v : List ℕ). HasList v c) (sym (classes_appended F k s taken fit q (others_known k fit o))) known)))))
