-- The claims of specs/Claims, proved from the laws of crates/definition.
use mathlib.Core.Path.{◌≡◌, refl, ap, ◌∙◌, subst}
use mathlib.Core.Bool.{Bool, true, false, ◌||◌}
use mathlib.Core.List.{List}
use mathlib.Core.Logic.{◌⊎◌, inl, inr, ◌≢◌}
use Prim.Native.Nat.{ℕ, ◌<◌, ◌≤◌, ◌^◌}
use native.Mathlib.Omega.{arith}
use native.Mathlib.Nat.{lt_of_lt_of_le}
use lib.Dec.{leb}
use lib.Pow.{pow_mono}
use borrow.Author.Tests.{leb-true, ltb-true}
use lib.ListN.{length}
use Rattle.definition.specs.Limits.{most_identifiers, world_limit, graph_width}
use Rattle.definition.specs.Lists.{Each, empty}
use Rattle.definition.specs.Records.{Rec, decode}
use Rattle.definition.specs.Setting.{Setting, setting_of}
use Rattle.definition.specs.Checks.{Lengths}
use Rattle.definition.specs.Tree.{Node, Place, Left, Middle, Right, Root, Unplaced, childless, is_leaf, node_at, child_at}
use Rattle.definition.specs.Graph.{initialize_graph_if_needed}
use Rattle.definition.specs.Run.{State, ended, full, stops, unlimited_run, start, final}
use Rattle.definition.specs.Trays.{row_number, trays_of}
use Rattle.definition.specs.Fits.{RecordFits, Sized}
use Rattle.definition.specs.Claim.{Demand3}
use Rattle.definition.specs.Finished.{LateExactly, OpenIsFinished}
use Rattle.definition.specs.Completeness.{Complete, ExactInTime}
use Rattle.definition.proofs.Basics.Lists.{or_cases, each_map}
use Rattle.definition.proofs.Tree.Nodes.{ext_result}
use Rattle.definition.proofs.Soundness.Priest.{rule_is_priest}
use Rattle.definition.proofs.Soundness.Edges.{init_one, init_less}
use Rattle.definition.proofs.Run.Fullness
use Rattle.definition.proofs.Tree.Shape
use Rattle.definition.specs.TreeShape.{Spot, Treed, placed}
use Rattle.definition.proofs.Tree.Linking.{bare_room}
use Rattle.definition.proofs.Run.TreeKept.{reached_treed, reached_between}
use Rattle.definition.proofs.Run.Accepted.{Accepted, accepted}
use Rattle.definition.proofs.Call.Bounds
use Rattle.definition.proofs.Call.Fields
use Rattle.definition.proofs.Call.Outcomes
use Rattle.definition.proofs.Call.Late
use Rattle.definition.proofs.Run.Stepping.{not_full}
use Rattle.definition.proofs.Soundness.Theorem
use Rattle.definition.proofs.Completeness.Whole
use Rattle.definition.proofs.Completeness.Plain
use Rattle.soundness.specs.Claims.{RulesArePriests, Stops, StaysStopped, FullExactly, NotFullExactly, TwelveExactly, TwelveZeroes, QueueCounts, WaitsAtLimit, LateAtLimit, StepsGrow, PartsGrow, IsTree, TreesOfRun, TreesOfStep, StateFits, RunsFit, TraysKeep, TraysSized, RefusalsWriteNothing, Decides, HasAssignment}

pub demand_3 : Demand3
demand_3 = Theorem.demand_3

pub late_exactly_lem : LateExactly
late_exactly_lem = Late.late_exactly_lem

pub open_is_finished_lem : OpenIsFinished
open_is_finished_lem = Late.open_is_finished_lem

pub complete : Complete
complete = Whole.complete

pub exact : ExactInTime
exact = Whole.exact

pub decides : Decides
decides = Plain.decides

pub has_assignment : HasAssignment
has_assignment = Plain.has_assignment

pub rules_are_priests : RulesArePriests
rules_are_priests branch flags lent e n = rule_is_priest _ (Outcomes.run_linked branch flags lent (accepted branch flags lent e) n)

pub run_stops : Stops
unfolding stops ended full
run_stops F rs = go (or_cases (ended F z) (full z) (Fullness.final_stops F rs))
  where
    z : State
    z = final F rs

    go : (ended F z ≡ true) ⊎ (full z ≡ true) →
        (z.proved ≡ true) ⊎ ((empty z.waiting ≡ true) ⊎ ((world_limit ≤ z.graph.worlds) ⊎ (most_identifiers < length z.nodes)))
    go (inr q) = inr (inr (inr (ltb-true most_identifiers (length z.nodes) q)))
    go (inl q) = first (or_cases z.proved _ q)
      where
        second : (empty z.waiting ≡ true) ⊎ (leb world_limit z.graph.worlds ≡ true) → (empty z.waiting ≡ true) ⊎ ((world_limit ≤ z.graph.worlds) ⊎ (most_identifiers < length z.nodes))
        second (inl e) = inl e
        second (inr e) = inr (inl (leb-true world_limit z.graph.worlds e))

        first : (z.proved ≡ true) ⊎ ((empty z.waiting || leb world_limit z.graph.worlds) ≡ true) →
            (z.proved ≡ true) ⊎ ((empty z.waiting ≡ true) ⊎ ((world_limit ≤ z.graph.worlds) ⊎ (most_identifiers < length z.nodes)))
        first (inl e) = inl e
        first (inr e) = inr (second (or_cases (empty z.waiting) _ e))

pub stays_stopped : StaysStopped
stays_stopped = Fullness.final_more

pub full_exactly_lem : FullExactly
full_exactly_lem = Fullness.full_exactly_lem

pub not_full_exactly : NotFullExactly
not_full_exactly = Fullness.not_full_exact

pub twelve_exactly : TwelveExactly
twelve_exactly = Outcomes.twelve_exactly

pub twelve_zeroes : TwelveZeroes
twelve_zeroes = Outcomes.twelve_zeroes

pub queue_counts : QueueCounts
queue_counts = Fullness.run_counted

pub waits_at_limit : WaitsAtLimit
waits_at_limit = Late.waits_at_limit

pub late_at_limit : LateAtLimit
late_at_limit = Late.late_at_limit

pub steps_grow : StepsGrow
steps_grow = Fullness.step_grows

pub parts_grow : PartsGrow
parts_grow before after t q = ((ext_result before t q).longer, Fullness.part_grows before after t q)

placed_in : (p : Place) → p ≢ Unplaced → placed p ≡ true
unfolding placed
placed_in Root h = refl
placed_in Left h = refl
placed_in Middle h = refl
placed_in Right h = refl
placed_in Unplaced h = absurd (h refl)

placed_out : placed Unplaced ≡ false
unfolding placed
placed_out = refl

is_tree : (t : List Node) → Treed t → IsTree t
unfolding is_leaf
is_tree t r =
    record {
      root = (r.root, r.orphan);
      down = λ y p h. let c = r.below y p h in (c.parent, c.place);
      up = λ x h n. (r.above x (placed_in (node_at t x).place h) n).child;
      depth = r.depth;
      deeper = λ x h n. (r.above x (placed_in (node_at t x).place h) n).deeper;
      loose = λ x h.
          let k = r.loose x (rw h placed_out) in
          (ap (λ (s : Spot). s.parent) k, λ p. ap (λ (s : Spot). child_at p s.children) k ∙ bare_room p childless refl);
      distinct = Shape.leaves_distinct t r;
      few = Shape.leaves_few t r;
      unbounded = Shape.treed_unbounded t r;
    }

pub trees_of_run : TreesOfRun
trees_of_run F rs n e small = is_tree _ (reached_treed F rs (unlimited_run n F (start F rs)) (record { branch = e; ends = ended; bound = n; is = refl }) small)

pub trees_of_step : TreesOfStep
trees_of_step F rs n e x q before after d small =
    is_tree _ (reached_between F rs (unlimited_run n F (start F rs)) x q before after (record { branch = e; ends = ended; bound = n; is = refl }) d small).0

module _ (branch : List ℕ) (flags : ℕ) (lent : Lengths) (a : Accepted branch flags lent) (e : full (final (setting_of flags) (decode branch)) ≡ false) where
  abbrev F : Setting
  F = setting_of flags

  abbrev rs : List Rec
  rs = decode branch

  abbrev z : State
  z = final (setting_of flags) (decode branch)

  final_fits : Each RecordFits rs → StateFits z
  final_fits fit =
      let h = Outcomes.final_bounded branch flags lent a e RecordFits (λ r k. k) fit in
      let b = h.sizes in
      let t = Outcomes.final_numbered branch flags lent a e in
      record {
        identifiers = not_full z e;
        steps = Bounds.bounded_steps RecordFits (λ r k. k) F (length rs) z h e;
        formulas = Bounds.bounded_formulas RecordFits (λ r k. k) F (length rs) z h a.few e;
        worlds = b.worlds;
        nodes = λ x l.
            let k = b.labels x l in
            record {
              parent = Fields.parent_number z.nodes t.treed x;
              world = omega (arith, k.world, worlds_low b.worlds (init_less F z.graph));
              formula = k.formula;
              spawner = k.spawner;
              contrarian = t.marked x;
            };
        records = b.records;
        rows = each_map (λ (row : List Bool) (k : length row ≡ z.graph.worlds). row_fits row (omega (arith, k, b.worlds))) z.graph.rows b.squared.each;
      }
    where
      worlds_low : z.graph.worlds ≤ world_limit → (z.graph.worlds ≡ 0) ⊎ ((initialize_graph_if_needed F z.graph).worlds ≡ z.graph.worlds) → (initialize_graph_if_needed F z.graph).worlds ≤ world_limit
      worlds_low h (inl d) = omega (arith, init_one F z.graph d)
      worlds_low h (inr d) = omega (arith, h, d)

      row_fits : (row : List Bool) → length row ≤ graph_width → row_number row < 2 ^ graph_width
      row_fits row h = lt_of_lt_of_le (Outcomes.row_low row) (pow_mono h)

pub runs_fit : RunsFit
runs_fit branch flags lent s bytes d =
    let k = Outcomes.ended_of branch flags lent s d in
    subst StateFits k.2 (final_fits branch flags lent k.0 k.1 (Outcomes.records_fit branch flags lent bytes k.0))

pub trays_keep : TraysKeep
trays_keep = Outcomes.trays_kept_lem

pub trays_sized : TraysSized
trays_sized branch flags lent s d =
    let k = Outcomes.ended_of branch flags lent s d in
    subst (λ (v : State). Sized (trays_of v)) k.2 (Outcomes.final_sized branch flags lent k.0 k.1)

pub refusals_write_nothing : RefusalsWriteNothing
refusals_write_nothing = Outcomes.refused_keeps
