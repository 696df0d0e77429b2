-- What a run that has stopped leaves: the answer, and the trays.
use mathlib.Core.Path.{◌≡◌, refl, sym, ◌∙◌}
use mathlib.Core.Bool.{Bool, true, false, not, ◌&&◌}
use mathlib.Core.List.{List, map}
use Prim.Native.Nat.{ℕ, ◌≤◌, ◌<◌}
use native.Mathlib.Omega.{arith}
use lib.Dec.{eqb, leb}
use lib.ListN.{length, replicate}
use borrow.Author.Tests.{lt-ltb, le-ltb, le-leb, lt-leb}
use Rattle.definition.specs.Limits.{most_identifiers, world_limit, graph_width, node_tray_length, formula_tray_length, edge_tray_length}
use Rattle.definition.specs.RefusalNumbers.{too_many_identifiers}
use Rattle.definition.specs.Lists.{concat_map, padded}
use Rattle.definition.specs.Setting.{Setting}
use Rattle.definition.specs.Run
use Rattle.definition.specs.Run.{State}
use Rattle.definition.specs.Trays.{Trays, node_bytes, record_bytes, row_number, over, trays_of, zero_trays, laid_over}
use Rattle.definition.specs.Call.{refusal, verdict, outcome_of_run, answer_of, trays_after, late}
use Rattle.formula.proofs.Recorded.{recorded_fits, recorded_count}
use Rattle.proof.specs.declared.State as Rust
use Rattle.proof.specs.StateHeld.{StateLaid, StateHeld, kept, full}
use Rattle.proof.proofs.Stopping.{listed_empty}
use Rattle.prover.specs.Contract.{trays}
use Rattle.prover.specs.Parts.{EndFits}

module _ {F : Setting} {s : State} {x : Rust.State} where
  kept_full : StateHeld F s x → most_identifiers < x.tableau.tree.len → Run.full s ≡ true
  unfolding Run.full
  kept_full (kept k) h = absurd (omega (arith, k.room, k.count))
  kept_full (full a b) h = lt-ltb most_identifiers (length s.nodes) b

  pub kept_laid : StateHeld F s x → x.tableau.tree.len ≤ most_identifiers → StateLaid F s x
  kept_laid (kept k) h = k
  kept_laid (full a b) h = absurd (omega arith)

  pub laid_ended : StateLaid F s x → Run.full s ≡ false
  unfolding Run.full
  laid_ended l = le-ltb most_identifiers (length s.nodes) l.room

  -- late, by the counts
  late_by : StateLaid F s x → (leb world_limit x.tableau.graph.worlds && (not x.proved && not (eqb x.tableau.waiting.len 0))) ≡ late F s
  unfolding late
  late_by l = rw (l.proved, listed_empty s.waiting x.tableau.waiting.len x.tableau.waiting.entries l.waiting, l.graph.count) refl

  pub few_timely : StateLaid F s x → x.tableau.graph.worlds < world_limit → false ≡ late F s
  few_timely l h = rw (lt-leb world_limit x.tableau.graph.worlds h) at (late_by l)

  pub proved_timely : StateLaid F s x → world_limit ≤ x.tableau.graph.worlds → not x.proved ≡ false → false ≡ late F s
  proved_timely l h e = rw (le-leb world_limit x.tableau.graph.worlds h, e) at (late_by l)

  pub waiting_late : StateLaid F s x → world_limit ≤ x.tableau.graph.worlds → x.proved ≡ false → not (eqb x.tableau.waiting.len 0) ≡ late F s
  waiting_late l h e = rw (le-leb world_limit x.tableau.graph.worlds h, e) at (late_by l)

  -- full, and the written lengths zeroed
  module _ (lent : Trays) {n f e : List ℕ} where
    pub ends_full : StateHeld F s x → most_identifiers < x.tableau.tree.len → n ≡ over (replicate node_tray_length 0) lent.nodes → f ≡ over (replicate formula_tray_length 0) lent.formulas → e ≡ over (replicate graph_width 0) lent.edges →
        (refusal too_many_identifiers 0 ≡ answer_of F (outcome_of_run s)) × (trays n f e ≡ trays_after (outcome_of_run s) lent)
    unfolding outcome_of_run answer_of trays_after laid_over zero_trays
    ends_full k h a b c = rw (kept_full k h, a, b, c) (refl, refl)

    -- ended: the verdict, and the trays laid out
    pub ends_laid : StateLaid F s x → EndFits s → {i j k m : ℕ} {v : Bool} →
        n ≡ over (padded node_tray_length (concat_map node_bytes s.nodes)) lent.nodes → f ≡ over (padded formula_tray_length (concat_map record_bytes s.formulas)) lent.formulas →
        e ≡ over (padded edge_tray_length (map row_number s.graph.rows)) lent.edges →
        v ≡ late F s → (x.tableau.tree.len ≤ 65535 → i ≡ x.tableau.tree.len) → (x.formulas.records.len ≤ 65535 → j ≡ x.formulas.records.len) → (x.tableau.graph.worlds ≤ 65535 → k ≡ x.tableau.graph.worlds) → (x.steps ≤ 65535 → m ≡ x.steps) →
        (verdict (record { proved = x.proved; late = v; identifiers = i; formulas = j; worlds = k; steps = m }) ≡ answer_of F (outcome_of_run s)) ×
        (trays n f e ≡ trays_after (outcome_of_run s) lent)
    unfolding outcome_of_run answer_of trays_after laid_over trays_of
    ends_laid l h {i} {j} {k} {m} a b c late_is w u y z =
        let known = recorded_count l.formulas (recorded_fits l.formulas h.formulas) in
        let w' : i ≡ length s.nodes = w (omega (arith, l.room, l.count)) ∙ sym l.count in
        let x' : j ≡ length s.formulas = u (omega (arith, h.formulas, known)) ∙ sym known in
        let z' : m ≡ s.steps = z (omega (arith, h.steps, l.steps)) ∙ l.steps in
        let y' : k ≡ x.tableau.graph.worlds = y (omega (arith, l.graph.room)) in
        rw (laid_ended l, a, b, c, l.proved, late_is, w', x', y', z', l.graph.count) (refl, refl)
