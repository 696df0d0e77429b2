-- The run stops by itself, and "full" is told exactly: what only makes the definition total decides nothing.
use mathlib.Core.Path.{◌≡◌, refl, sym, ap, ◌∙◌}
use mathlib.Core.Bool.{Bool, true, false}
use mathlib.Core.List.{List, [], ◌∷◌, ◌++◌}
use mathlib.Core.Logic.{◌⊎◌, inl, inr, ⊎_elim, ◌↔◌}
use Prim.Native.Nat.{ℕ, suc, ◌<◌, ◌≤◌, ◌+◌, ◌-◌}
use native.Mathlib.Omega.{arith}
use borrow.Author.Tests.{lt-ltb, ltb-true}
use lib.ListN.{length}
use Rattle.definition.specs.Limits.{most_identifiers}
use Rattle.definition.specs.Records.{Rec, nobody, marks}
use Rattle.definition.specs.Setting.{Setting}
use Rattle.definition.specs.Tree.{Node}
use Rattle.definition.specs.Subtree.{Targeted, append_subtree, append_logic_rule_result}
use Rattle.definition.specs.Run.{State, step, ended, full, steps, stops, run, unlimited_run, start, Passes, final, enough_steps}
use Rattle.definition.proofs.Basics.Lists.{true_false, either, or_left, or_true, or_cases}
use Rattle.definition.proofs.Tree.Nodes.{ext_result}
use Rattle.definition.proofs.Run.Stepping.{checked_length, not_ended, not_stopped, not_full, step_keeps, steps_none, steps_next, steps_stop, steps_count, run_keeps}
use Rattle.definition.proofs.Run.Counting.{Counted, due, start_counted, start_length, appended_grows}

-- a step takes no identifier back
pub step_grows : (F : Setting) (s : State) → length s.nodes ≤ length (step F s).nodes
step_grows F s = step_keeps F s (λ (z : State). length s.nodes ≤ length z.nodes) (λ p k. omega (arith, appended_grows F s p)) (λ z h. omega (arith, h, checked_length F z)) (omega arith)

-- nor does a part of one: the first subtrees of a result, and then the others
result_append : (xs ys : List Targeted) (t : List Node) (q : List ℕ) →
    append_logic_rule_result t q (xs ++ ys) ≡ append_logic_rule_result (append_logic_rule_result t q xs).nodes (append_logic_rule_result t q xs).waiting ys
unfolding append_logic_rule_result
result_append [] ys t q = refl
result_append (x ∷ xs) ys t q = let p = append_subtree t q x.target x.subtree in result_append xs ys p.nodes p.waiting

pub part_grows : (xs ys : List Targeted) (t : List Node) (q : List ℕ) →
    length (append_logic_rule_result t q xs).nodes ≤ length (append_logic_rule_result t q (xs ++ ys)).nodes
part_grows xs ys t q = rw (result_append xs ys t q) (ext_result ys (append_logic_rule_result t q xs).nodes (append_logic_rule_result t q xs).waiting).longer

module _ (test : Setting → State → Bool) (F : Setting) where
  pub steps_grow : (n : ℕ) (s : State) → length s.nodes ≤ length (steps test n F s).nodes
  steps_grow n s = run_keeps test F (λ (z : State). length s.nodes ≤ length z.nodes) (λ z e h. omega (arith, h, step_grows F z)) n s (omega arith)

  -- a loop that ends no sooner goes on from where this one ends, after so many steps
  steps_through : (later : Setting → State → Bool) → ((s : State) → test F s ≡ false → later F s ≡ false) → (n : ℕ) (s : State) → let z = steps test n F s in
      (i : ℕ) × (i ≤ n) × ((k : ℕ) → i ≤ k → steps later k F s ≡ steps later (k - i) F z) × ((test F z ≡ true) ⊎ (i ≡ n))
  steps_through later sooner n s =
      steps_count test F (λ i z. (k : ℕ) → i ≤ k → steps later k F s ≡ steps later (k - i) F z)
      (λ i z e f k h.
      f k (omega arith) ∙ ap (λ (m : ℕ). steps later m F z) (omega (arith, h)) ∙ steps_next later F (k - suc i) z (sooner z e)) n s
      (λ k h. ap (λ (m : ℕ). steps later m F s) (omega arith))

  -- more steps change nothing where none is due
  steps_more : (n k : ℕ) (s : State) → n ≤ k → test F (steps test n F s) ≡ true → steps test k F s ≡ steps test n F s
  steps_more n k s h e = let (i, low, on, q) = steps_through test (λ z d. d) n s in on k (omega (arith, low, h)) ∙ steps_stop test F (k - i) (steps test n F s) e

  longer_grow : (n k : ℕ) (s : State) → n ≤ k → length (steps test n F s).nodes ≤ length (steps test k F s).nodes
  longer_grow n k s h =
      let (i, low, on, q) = steps_through test (λ z d. d) n s in
      omega (arith, ap (λ (z : State). length z.nodes) (on k (omega (arith, low, h))), steps_grow (k - i) (steps test n F s))

full_grows : (a b : State) → length a.nodes ≤ length b.nodes → full a ≡ true → full b ≡ true
unfolding full
full_grows a b h e = lt-ltb most_identifiers (length b.nodes) (omega (arith, ltb-true most_identifiers (length a.nodes) e))

-- while a run stops nowhere its steps are counted, so that it stops within most_identifiers and one: no step is due at the end
pub final_stops : (F : Setting) (rs : List Rec) → stops F (final F rs) ≡ true
unfolding final stops full Counted
final_stops F rs = ⊎_elim at_once by_count (either (full (start F rs)))
  where
    s : State
    s = start F rs

    -- a start that is full, as it is with more marked records than numbers name nodes
    at_once : full s ≡ true → stops F (run enough_steps F s) ≡ true
    at_once h = let e = or_true (ended F s) h in ap (stops F) (steps_stop stops F enough_steps s e) ∙ e

    by_count : full s ≡ false → stops F (run enough_steps F s) ≡ true
    by_count few =
        let z = run enough_steps F s in
        let (i, low, (c, e), q) = steps_count stops F (λ i (z : State). Counted z × (z.steps ≡ s.steps + i))
        (λ i z e h. let d = due F z (not_stopped F z e).0.waits h.0 in (d.0, omega (arith, d.1, h.1))) enough_steps s (start_counted F rs (omega (arith, not_full s few, start_length F rs)), omega arith) in
        elim q [ inl t ↦ t | inr d ↦ or_true (ended F z) (lt-ltb most_identifiers (length z.nodes) (omega (arith, c, e, d))) ]

pub final_more : (k : ℕ) (F : Setting) (rs : List Rec) → most_identifiers < k → run k F (start F rs) ≡ final F rs
unfolding final
final_more k F rs h = steps_more stops F enough_steps k (start F rs) (omega arith) (final_stops F rs)

-- the run and the paper's own loop are the same, or both are full
same_or_full : (n : ℕ) (F : Setting) (s : State) → (unlimited_run n F s ≡ run n F s) ⊎ ((full (run n F s) ≡ true) × (full (unlimited_run n F s) ≡ true))
unfolding stops
same_or_full n F s =
    let z = run n F s in
    let (i, low, on, q) = steps_through stops F ended (λ z e. or_left (ended F z) (full z) e) n s in
    let is = on n (omega (arith, low)) in
    elim q [
      | inl t ↦ elim (or_cases (ended F z) (full z) t) [
        | inl d ↦ inl (is ∙ steps_stop ended F (n - i) z d)
        | inr d ↦ inr (d, full_grows z (unlimited_run n F s) (omega (arith, ap (λ (z : State). length z.nodes) is, steps_grow ended F (n - i) z)) d)
      ]
      | inr d ↦ inl (is ∙ ap (λ (m : ℕ). unlimited_run m F z) (omega (arith, d)) ∙ steps_none ended F z)
    ]

-- a run that is not full is the paper's, however long that goes on
pub not_full_exact : (k : ℕ) (F : Setting) (rs : List Rec) → most_identifiers < k → full (final F rs) ≡ false → unlimited_run k F (start F rs) ≡ final F rs
not_full_exact k F rs h small = go (same_or_full k F (start F rs))
  where
    e : run k F (start F rs) ≡ final F rs
    e = final_more k F rs h

    go : (unlimited_run k F (start F rs) ≡ run k F (start F rs)) ⊎ ((full (run k F (start F rs)) ≡ true) × (full (unlimited_run k F (start F rs)) ≡ true)) →
        unlimited_run k F (start F rs) ≡ final F rs
    go (inl q) = q ∙ e
    go (inr q) = true_false (sym q.0 ∙ ap full e ∙ small)

full_passes : (F : Setting) (rs : List Rec) → full (final F rs) ≡ true → full (unlimited_run enough_steps F (start F rs)) ≡ true
unfolding final
full_passes F rs h = go (same_or_full enough_steps F (start F rs))
  where
    z : State
    z = unlimited_run enough_steps F (start F rs)

    go : (z ≡ run enough_steps F (start F rs)) ⊎ ((full (run enough_steps F (start F rs)) ≡ true) × (full z ≡ true)) → full z ≡ true
    go (inl q) = ap full q ∙ h
    go (inr q) = q.1

passes_full : (F : Setting) (rs : List Rec) (n : ℕ) → full (unlimited_run n F (start F rs)) ≡ true → full (final F rs) ≡ true
passes_full F rs n h = go (same_or_full k F (start F rs))
  where
    k : ℕ
    k = n + suc most_identifiers

    z : State
    z = unlimited_run k F (start F rs)

    on : full z ≡ true
    on = full_grows (unlimited_run n F (start F rs)) z (longer_grow ended F n k (start F rs) (omega arith)) h

    e : run k F (start F rs) ≡ final F rs
    e = final_more k F rs (omega arith)

    go : (z ≡ run k F (start F rs)) ⊎ ((full (run k F (start F rs)) ≡ true) × (full z ≡ true)) → full (final F rs) ≡ true
    go (inl q) = sym (ap full (q ∙ e)) ∙ on
    go (inr q) = sym (ap full e) ∙ q.0

-- "full" comes exactly where the paper's run passes most_identifiers
pub full_exactly_lem : (F : Setting) (rs : List Rec) → (full (final F rs) ≡ true) ↔ Passes F rs
unfolding full
full_exactly_lem F rs = (
  λ h. (suc most_identifiers, omega (arith, ltb-true most_identifiers (issued enough_steps) (full_passes F rs h))),
  λ p. passes_full F rs p.0 (lt-ltb most_identifiers (issued p.0) (omega (arith, p.1))),
)
  where
    issued : ℕ → ℕ
    issued n = length (unlimited_run n F (start F rs)).nodes

-- at every state of the paper's loop, taken and waiting nodes are as many as identifiers
pub run_counted : (n : ℕ) (F : Setting) (rs : List Rec) → length (marks rs) ≤ nobody → let s = unlimited_run n F (start F rs) in s.steps + length s.waiting ≡ length s.nodes
unfolding Counted
run_counted n F rs few = run_keeps ended F Counted (λ s e h. (due F s (not_ended F s e).waits h).0) n (start F rs) (start_counted F rs few)
