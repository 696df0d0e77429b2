-- The branch in the state's struct, before any step.
use mathlib.Core.Path.{◌≡◌, sym, ◌∙◌, ap}
use mathlib.Core.Bool.{false}
use mathlib.Core.List.{List, [], map}
use Prim.Native.Nat.{ℕ, ◌≤◌, ◌/◌}
use native.Mathlib.Omega.{arith}
use lib.ListN.{length, length-reverse}
use Rattle.definition.specs.Limits.{record_length, most_records, most_marked, most_identifiers, most_formulas}
use Rattle.arrays.specs.Listed.{HasList}
use Rattle.arrays.specs.Listed.{Numbers}
use Rattle.arrays.proofs.Tabled.{tabled_fits}
use Rattle.definition.specs.Lists.{empty, below}
use Rattle.definition.specs.Records.{Rec, decode, marks}
use Rattle.definition.specs.Setting.{Setting}
use Rattle.definition.specs.Graph.{empty_graph}
use Rattle.definition.specs.Tree.{Node}
use Rattle.definition.specs.Queue.{get_node_priority}
use Rattle.definition.specs.Run.{rooted, branch_nodes, begun, start, check_for_contradictions}
use Rattle.definition.proofs.Run.Accepted.{length_decode}
use Rattle.definition.proofs.Run.Queueing.{length_rooted, begun_waiting, length_branch}
use Rattle.definition.proofs.Basics.Identifiers.{length_from}
use Rattle.definition.proofs.Call.Fields.{begun_unmarked}
use Rattle.definition.specs.Shortcuts.{CheckedAt}
use Rattle.definition.proofs.Engine.NewLeaves.{since_all}
use Rattle.definition.proofs.Run.TreeKept.{begun_treed}
use Rattle.formula.specs.Recorded.{HasRecords}
use Rattle.formula.specs.declared.Formulas.{Formulas}
use Rattle.formula.proofs.Recorded.{recorded_fits}
use Rattle.graph.specs.Drawn.{HasGraph}
use Rattle.tree.specs.Lay.{Laid, HasNodes, lay}
use Rattle.tree.specs.declared.ProofTree.{ProofTree}
use Rattle.necessities.specs.Stack.{HasStack}
use Rattle.tree.proofs.Nodes.{held_ok, held_lays, held_fits}
use Rattle.proof.specs.declared.State as Rust
use Rattle.proof.specs.StateHeld.{StateLaid, StateHeld}
use Rattle.prover.specs.Parts.{Blank}

pub few_records : (bytes : List ℕ) → length bytes / record_length ≤ most_records → length (decode bytes) ≤ most_records
few_records bytes h = omega (arith, length_decode bytes, h)

module _ (rs : List Rec) where
  module _ (some : empty (marks rs) ≡ false) (few : length (marks rs) ≤ most_marked) where
    begun_few : length (rooted (branch_nodes rs)) ≤ most_marked
    begun_few = omega (arith, length_rooted (branch_nodes rs), length_branch rs, few)

    begun_since : CheckedAt (begun rs).formulas (begun rs).nodes 0
    unfolding begun
    begun_since = since_all rs (begun rs).nodes (begun_treed rs some (omega (arith, begun_few))) (begun_unmarked rs)

    begun_laid : (F : Setting) {x : Rust.State} → HasRecords rs x.formulas → HasNodes (rooted (branch_nodes rs)) x.tableau.tree → HasList (begun rs).waiting x.tableau.waiting →
        HasList (map (get_node_priority F rs (rooted (branch_nodes rs))) (begun rs).waiting) x.classes → HasGraph empty_graph x.tableau.graph → HasStack [] x.tableau.necessities → x.steps ≡ 0 → x.proved ≡ false →
        StateLaid F (begun rs) x
    unfolding begun
    begun_laid F r h w c g n e p =
        let k = held_ok h (held_fits h (omega (arith, begun_few))) in
        record { formulas = r; room = omega (arith, begun_few); count = k.0; nodes = k.1; graph = g; necessities = n; waiting = w; classes = c; proved = p; steps = e }

    -- the struct once its records are read, its nodes linked, its root queued
    module _ (x : Rust.State) (f : Formulas) (t : ProofTree) (w c : Numbers) where
      abbrev then_state : Rust.State
      then_state = record { formulas = f; tableau = record { tree = t; graph = x.tableau.graph; necessities = x.tableau.necessities; waiting = w }; classes = c; steps = x.steps; proved = x.proved }

      -- records read, nodes linked, root queued, contradictions checked: the start
      pub started : (F : Setting) {y : Rust.State} → length rs ≤ most_records → Blank x → HasRecords rs f →
          (f.records.len ≤ most_formulas → HasNodes (rooted (branch_nodes rs)) t) →
          (length (branch_nodes rs) ≡ t.len → t.len ≤ most_identifiers → t.nodes ≡ lay (rooted (branch_nodes rs)) → HasList (begun rs).waiting w) →
          ((ns : List Node) (q : List ℕ) → f.records.len ≤ most_formulas → Laid ns t → HasList q w → w.len ≤ most_identifiers → HasList (map (get_node_priority F rs ns) q) c) →
          (f.records.len ≤ most_formulas → CheckedAt (begun rs).formulas (begun rs).nodes 0 → StateLaid F (begun rs) then_state → StateHeld F (check_for_contradictions F (begun rs)) y) →
          StateHeld F (start F rs) y
      unfolding start
      started F small blank r tree queue classify check =
          let fits = recorded_fits r (omega (arith, small)) in
          let h = tree fits in
          let low = held_fits h (omega (arith, begun_few)) in
          let k = held_ok h low in
          let w = queue (sym (length_rooted (branch_nodes rs)) ∙ k.0) low k.1 in
          let short : length (begun rs).waiting ≤ most_identifiers = omega (arith, ap (length {A = ℕ}) (begun_waiting rs (omega (arith, length_branch rs, few))), length-reverse (below (length (branch_nodes rs))), length_from (length (branch_nodes rs)) 0, length_branch rs, few) in
          check fits begun_since (begun_laid F r h w (classify (rooted (branch_nodes rs)) (begun rs).waiting fits (held_lays h low) w (tabled_fits w short)) blank.graph blank.necessities blank.steps blank.proved)
