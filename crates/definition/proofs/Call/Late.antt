-- Late: at the limit of worlds a node always waits, since the step that makes the last world queues its formula; and of a run that is neither proved, late nor full nothing waits.
use mathlib.Core.Path.{◌≡◌, refl, sym, ◌∙◌, subst}
use mathlib.Core.Bool.{true, false, not, ◌&&◌, and-true}
use mathlib.Core.List.{List, [], ◌∷◌}
use mathlib.Core.Logic.{◌⊎◌, inl, inr, ◌↔◌}
use Prim.Native.Nat.{ℕ, ◌<◌, ◌≤◌}
use native.Mathlib.Omega.{arith}
use lib.Dec.{leb}
use borrow.Author.Tests.{leb-true, le-leb}
use lib.ListN.{length}
use Rattle.definition.specs.Limits.{world_limit}
use Rattle.definition.specs.Lists.{empty}
use Rattle.definition.specs.Records.{Rec, decode}
use Rattle.definition.specs.Setting.{Setting, setting_of}
use Rattle.definition.specs.Graph.{Graph, empty_graph, initialize_graph_if_needed}
use Rattle.definition.specs.Rules.{Rule, nothing, down, split, as_possible, as_necessary}
use Rattle.definition.specs.Queue.{Popped}
use Rattle.definition.specs.Run.{State, apply_here, apply_possibility, apply_necessity, apply_rule, apply, checked_for_contradictions, check_for_contradictions, appended, ended, full, stops, begun, start, unlimited_run, final}
use Rattle.definition.specs.Call.{Outcome, Refused, Full, Ended, outcome, answer_of, answer, lengths_of, late}
use Rattle.definition.specs.Finished.{Open, LateIsUnfinished, LateExactly, OpenIsFinished}
use Rattle.definition.proofs.Basics.Lists.{true_false, not_true, either, or_cases, and_left, and_right, and_both}
use Rattle.definition.proofs.Run.Stepping.{checked_both, not_ended, step_keeps, run_keeps}
use Rattle.definition.proofs.Run.Counting.{appended_queued, appended_grows}
use Rattle.definition.proofs.Run.Fullness.{final_stops}
use Rattle.definition.proofs.Soundness.Edges.{init_one, init_less, init_worlds}
use Rattle.definition.proofs.Call.Outcomes.{ended_of, answered}

-- ---- at the limit a node waits
-- a rule makes a node, or no world but the first
rule_forks : (F : Setting) (s : State) (x : ℕ) (more : List Rec) (r : Rule ℕ) → let z = apply_rule F s x more r in
    (z.graph.worlds ≤ (initialize_graph_if_needed F s.graph).worlds) ⊎ (0 < length z.nodes)
unfolding apply_rule apply_here apply_possibility apply_necessity
rule_forks F s x more nothing = inl (init_worlds F s.graph).1
rule_forks F s x more (down fs) = inl (init_worlds F s.graph).1
rule_forks F s x more (split fs gs) = inl (init_worlds F s.graph).1
rule_forks F s x more (as_possible f) = inr (omega arith)
rule_forks F s x more (as_necessary f) = inl (omega arith)

apply_forks : (F : Setting) (s : State) (x : ℕ) → let z = apply F s x in (z.graph.worlds ≤ (initialize_graph_if_needed F s.graph).worlds) ⊎ (0 < length z.nodes)
unfolding apply
apply_forks F s x = rule_forks F s x _ _

-- the first world does not reach the limit
first_low : (F : Setting) (g : Graph) → g.worlds < world_limit → (initialize_graph_if_needed F g).worlds < world_limit
first_low F g few = elim (init_less F g) [ inl e ↦ omega (arith, init_one F g e) | inr e ↦ omega (arith, e, few) ]

abbrev LimitWaits : State → Type 0
LimitWaits s = world_limit ≤ s.graph.worlds → empty s.waiting ≡ false

some_wait : (q : List ℕ) → 0 < length q → empty q ≡ false
some_wait [] h = absurd (omega arith)
some_wait (x ∷ q) h = refl

appended_waits : (F : Setting) (s : State) (p : Popped) → s.graph.worlds < world_limit → LimitWaits (appended F s p)
unfolding appended
appended_waits F s p few reached =
    some_wait (appended F s p).waiting (elim (apply_forks F s p.node) [
      | inl h ↦ absurd (omega (arith, h, reached, first_low F s.graph few))
      | inr h ↦ omega (arith, h, appended_queued F s p, appended_grows F s p)
    ])

checked_waits : (F : Setting) (s : State) → LimitWaits s → LimitWaits (check_for_contradictions F s)
unfolding checked_for_contradictions
checked_waits F s h = checked_both LimitWaits F s h h

pub waits_at_limit : (n : ℕ) (F : Setting) (rs : List Rec) → LimitWaits (unlimited_run n F (start F rs))
unfolding start begun empty_graph
waits_at_limit n F rs =
    run_keeps ended F LimitWaits (λ s e h. step_keeps F s LimitWaits (λ p k. appended_waits F s p (not_ended F s e).worlds) (checked_waits F) h) n (start F rs)
    (checked_waits F (begun rs) (λ reached. absurd (omega (arith, reached))))

-- ---- late
late_is : (F : Setting) (s : State) → (late F s ≡ true) ↔ ((world_limit ≤ s.graph.worlds) × (s.proved ≡ false) × (empty s.waiting ≡ false))
unfolding late
late_is F s =
    let limit = leb world_limit s.graph.worlds in
    let unproved = not s.proved in (
      λ e. let r = and_right limit _ e in (leb-true world_limit s.graph.worlds (and_left limit _ e), not_true s.proved (and_left unproved _ r), not_true (empty s.waiting) (and_right unproved _ r)),
      λ (l, p, q). and_both limit _ (le-leb world_limit s.graph.worlds l) (rw (p, q) refl),
    )

-- the third condition follows from the first
pub late_at_limit : (n : ℕ) (F : Setting) (rs : List Rec) → let s = unlimited_run n F (start F rs) in late F s ≡ (leb world_limit s.graph.worlds && not s.proved)
unfolding late
late_at_limit n F rs =
    let s = unlimited_run n F (start F rs) in
    elim (either (leb world_limit s.graph.worlds)) [
      | inl l ↦ rw (l, waits_at_limit n F rs (leb-true world_limit s.graph.worlds l)) (and-true (not s.proved))
      | inr l ↦ rw l refl
    ]

-- a run that has ended, is not full, and is neither proved nor late
pub nothing_waits : (F : Setting) (rs : List Rec) → (final F rs).proved ≡ false → late F (final F rs) ≡ false → full (final F rs) ≡ false → empty (final F rs).waiting ≡ true
unfolding stops ended
nothing_waits F rs unproved timely room =
    let z = final F rs in
    elim (either (empty z.waiting)) [
      | inl b ↦ b
      | inr b ↦ elim (or_cases (ended F z) (full z) (final_stops F rs)) [
        | inl q ↦ true_false (sym ((late_is F z).1 (leb-true world_limit z.graph.worlds (rw (unproved, b) at q), unproved, b)) ∙ timely)
        | inr q ↦ true_false (sym q ∙ room)
      ]
    ]

-- ---- the call
pub late_exactly_lem : LateExactly
unfolding answer answer_of
late_exactly_lem branch flags lent = go (outcome branch flags (lengths_of lent)) refl
  where
    go : (o : Outcome) → outcome branch flags (lengths_of lent) ≡ o → LateIsUnfinished (setting_of flags) (decode branch) (answer_of (setting_of flags) o)
    go (Refused c) e = tt
    go Full e = tt
    go (Ended s) e = subst (λ (s : State). LateIsUnfinished (setting_of flags) (decode branch) (answer_of (setting_of flags) (Ended s))) (ended_of branch flags (lengths_of lent) s e).2 (late_is (setting_of flags) (final (setting_of flags) (decode branch)))

pub open_is_finished_lem : OpenIsFinished
unfolding answer_of
open_is_finished_lem branch flags lent h = let (a, room, (unproved, timely)) = answered Open (λ n i q. q) branch flags lent h in nothing_waits (setting_of flags) (decode branch) unproved timely room
