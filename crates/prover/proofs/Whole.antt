-- The whole call, from its parts.
use mathlib.Core.Path.{◌≡◌, refl, sym, ap, ◌∙◌, subst}
use mathlib.Core.Bool.{true, false}
use mathlib.Core.List.{List}
use mathlib.Core.Option.{none, some}
use mathlib.Core.Logic.{◌⊎◌, inl, inr}
use Prim.Native.Nat.{ℕ, ◌≤◌, ◌<◌, ◌/◌}
use native.Mathlib.Omega.{arith}
use lib.ListN.{length}
use Rattle.definition.specs.Limits.{record_length, most_records, most_marked, world_limit}
use Rattle.definition.specs.RefusalNumbers.{too_many_identifiers}
use Rattle.definition.specs.Lists.{Each, empty}
use Rattle.definition.specs.Records.{Rec, Unknown, nobody, made, decode, rec_at, marks}
use Rattle.definition.specs.Setting.{Setting, setting_of}
use Rattle.definition.specs.Tree.{Node, new_node}
use Rattle.definition.specs.Graph.{initialize_graph_if_needed}
use Rattle.definition.specs.Run.{start, run, final, enough_steps}
use Rattle.definition.specs.Trays.{Trays}
use Rattle.definition.specs.Checks.{LongEnough, check, refused}
use Rattle.definition.specs.Call.{Outcome, Refused, Full, Ended, Answer, refusal, outcome_of_run, outcome_by, outcome, answer_of, answer, trays_after, trays_left, lengths_of}
use Rattle.definition.specs.Claim.{Proved}
use Rattle.definition.specs.Finished.{InTime, Open, LateIsUnfinished}
use Rattle.definition.proofs.Basics.Lists.{each_of}
use Rattle.definition.proofs.Soundness.Edges.{init_one, init_less}
use Rattle.definition.proofs.Call.Bounds.{bounded_formulas, bounded_steps}
use Rattle.definition.proofs.Run.Accepted.{Accepted, length_decode}
use Rattle.definition.proofs.Call.Outcomes.{final_bounded, twelve_exactly, twelve_zeroes}
use Rattle.definition.proofs.Call.Late.{late_exactly_lem, open_is_finished_lem}
use Rattle.definition.specs.Reached.{Reached}
use Rattle.definition.proofs.Engine.Reached.{reached_start}
use Rattle.definition.proofs.Soundness.Theorem.{demand_3}
use Rattle.definition.proofs.Completeness.Whole.{complete, exact}
use Rattle.proof.specs.declared.State as Rust
use Rattle.proof.specs.StateHeld.{StateHeld}
use Rattle.prover.specs.Contract.{Contract}
use Rattle.prover.specs.Parts.{Ends}

module _ (branch : List ℕ) (flags : ℕ) (lent : Trays) where
  abbrev o : Outcome
  o = outcome branch flags (lengths_of lent)

  keeps : (x : Outcome) (number place : ℕ) → answer_of (setting_of flags) x ≡ refusal number place → (number ≡ too_many_identifiers → ⊥) → trays_after x lent ≡ lent
  unfolding answer_of trays_after
  keeps (Refused c) number place e h = refl
  keeps Full number place e h = absurd (h (cc))
  keeps (Ended s) number place e h = let d : ◌≡◌ {A = ℕ} 0 1 = cc in absurd (omega arith)

  -- the answer and the trays give the other clauses
  contracted : (r : Answer) (left : Trays) → r ≡ answer_of (setting_of flags) o → left ≡ trays_after o lent → Contract branch flags lent r left
  unfolding answer trays_left outcome
  contracted r left a t =
      let twelve = twelve_exactly branch flags lent in
      record {
        answers = a;
        leaves = t;
        refusals_keep = λ number place e h. t ∙ keeps o number place (sym a ∙ e) h;
        full_exactly = (λ e. twelve.0 (sym a ∙ e), λ p. a ∙ twelve.1 p);
        full_zeroes = λ place e. t ∙ twelve_zeroes branch flags lent place (sym a ∙ e);
        proved_is_sound = λ p. demand_3 branch flags lent (subst Proved a p);
        late_exactly = subst (LateIsUnfinished (setting_of flags) (decode branch)) (sym a) (late_exactly_lem branch flags lent);
        open_is_finished = λ p. open_is_finished_lem branch flags lent (subst Open a p);
        open_has_model = λ c p. complete branch flags lent c (subst Open a p);
        exact_in_time = λ c f p. let e = exact branch flags lent c f (subst InTime a p) in (λ q. e.0 (subst Proved a q), λ q. subst Proved (sym a) (e.1 q));
      }

  -- refused by a check
  pub contract_refused : (number place : ℕ) → some (check number place true) ≡ refused branch flags (lengths_of lent) → Contract branch flags lent (refusal number place) lent
  unfolding outcome outcome_by answer_of trays_after
  contract_refused number place e =
      let d : Refused (check number place true) ≡ o = ap (outcome_by branch flags) e in
      contracted _ lent (ap (answer_of (setting_of flags)) d) (ap (λ (x : Outcome). trays_after x lent) d)

  -- accepted, and run
  contract_run : (r : Answer) (left : Trays) → refused branch flags (lengths_of lent) ≡ none →
      r ≡ answer_of (setting_of flags) (outcome_of_run (final (setting_of flags) (decode branch))) → left ≡ trays_after (outcome_of_run (final (setting_of flags) (decode branch))) lent → Contract branch flags lent r left
  unfolding outcome outcome_by
  contract_run r left e a t =
      let d : outcome_of_run (final (setting_of flags) (decode branch)) ≡ o = ap (outcome_by branch flags) (sym e) in
      contracted r left (a ∙ ap (answer_of (setting_of flags)) d) (t ∙ ap (λ (x : Outcome). trays_after x lent) d)

  module _ (a : Accepted branch flags (lengths_of lent)) where
    abbrev F : Setting
    F = setting_of flags

    abbrev rs : List Rec
    rs = decode branch

    abbrev MarkFits : Rec → Type 0
    MarkFits r = r.mark < 256

    marked : Each MarkFits rs
    unfolding rec_at
    marked = each_of MarkFits (made Unknown 0 0) rs (λ i l. omega (arith, (a.records i l).mark))

    run_ends : Ends (final F rs)
    run_ends e =
        let h = final_bounded branch flags (lengths_of lent) a e MarkFits (λ r k. omega (arith, k.mark)) marked in
        let b = h.sizes in
        record {
          worlds = each_of (λ (x : Node). x.world < 256) (new_node nobody nobody nobody) (final F rs).nodes (λ x l. omega (arith, (b.labels x l).world, low b.worlds (init_less F (final F rs).graph)));
          steps = bounded_steps MarkFits (λ r k. omega (arith, k.mark)) F (length rs) (final F rs) h e;
          formulas = bounded_formulas MarkFits (λ r k. omega (arith, k.mark)) F (length rs) (final F rs) h a.few e;
          marks = b.records;
          rows = b.squared.rows;
          columns = b.squared.each;
        }
      where
        low : (final F rs).graph.worlds ≤ world_limit → ((final F rs).graph.worlds ≡ 0) ⊎ ((initialize_graph_if_needed F (final F rs).graph).worlds ≡ (final F rs).graph.worlds) →
            (initialize_graph_if_needed F (final F rs).graph).worlds ≤ world_limit
        low h (inl d) = omega (arith, init_one F (final F rs).graph d)
        low h (inr d) = omega (arith, h, d)

    -- begun, run to its end, laid out
    pub runs : {r : Answer} {left : Trays} {G : Setting} {x y : Rust.State} → refused branch flags (lengths_of lent) ≡ none →
        G ≡ F →
        (length branch / record_length ≤ most_records → empty (marks rs) ≡ false → length (marks rs) ≤ most_marked → StateHeld G (start G rs) x) →
        (Reached G (start G rs) → StateHeld G (start G rs) x → StateHeld G (run enough_steps G (start G rs)) y) →
        (StateHeld F (final F rs) y → Ends (final F rs) → LongEnough (lengths_of lent) → (r ≡ answer_of F (outcome_of_run (final F rs))) × (left ≡ trays_after (outcome_of_run (final F rs)) lent)) →
        Contract branch flags lent r left
    unfolding final
    runs e l begin go finish =
        let ran = (rw l at go) (reached_start branch flags (lengths_of lent) e) ((rw l at begin) (omega (arith, length_decode branch, a.few)) a.marked a.few_marked) in
        let done = finish ran run_ends a.trays in
        contract_run _ _ e done.0 done.1
