-- Induction over the run: what placing a rule's result and the check keep, a step keeps, and what each step that is due keeps, a run keeps. No other module takes a step or a run apart.
use mathlib.Core.Path.{◌≡◌, refl, ap}
use mathlib.Core.Bool.{Bool, true, false, cond}
use mathlib.Core.Option.{Option, none, some}
use mathlib.Core.Logic.{◌⊎◌, inl, inr}
use Prim.Native.Nat.{ℕ, zero, suc, ◌<◌, ◌≤◌}
use native.Mathlib.Omega.{arith}
use borrow.Author.Tests.{leb-false, ltb-false}
use lib.ListN.{length}
use Rattle.definition.specs.Limits.{most_identifiers, world_limit}
use Rattle.definition.specs.Lists.{empty}
use Rattle.definition.specs.Setting.{Setting}
use Rattle.definition.specs.Tree.{leaves}
use Rattle.definition.specs.Queue.{Popped, pop}
use Rattle.definition.specs.Contradiction.{pairs}
use Rattle.definition.specs.Run.{State, checked_for_contradictions, check_for_contradictions, appended, step_by, step, ended, full, steps, stops}
use Rattle.definition.proofs.Basics.Lists.{cond_both, or_left, or_right}
use Rattle.definition.proofs.Tree.Nodes.{length_marks}
use Rattle.definition.proofs.Run.Popping.{Taken, pop_taken, pop_filled}

-- ---- the check
-- skipped or not
pub checked_both : (P : State → Type 0) (F : Setting) (s : State) → P s → P (checked_for_contradictions s) → P (check_for_contradictions F s)
unfolding check_for_contradictions
checked_both P F s h k = cond_both P F.skip s (checked_for_contradictions s) h k

pub checked_is : (F : Setting) (s : State) → F.skip ≡ false → check_for_contradictions F s ≡ checked_for_contradictions s
unfolding check_for_contradictions
checked_is F s e = rw e

pub checked_length : (F : Setting) (s : State) → length (check_for_contradictions F s).nodes ≡ length s.nodes
unfolding checked_for_contradictions
checked_length F s =
    checked_both (λ (z : State). length z.nodes ≡ length s.nodes) F s refl (length_marks (pairs s.formulas s.nodes (leaves s.nodes)) s.nodes)

-- ---- where a step is due
pub record Due (s : State) : Type 0 where
  pub unproved : s.proved ≡ false
  pub waits : empty s.waiting ≡ false
  pub worlds : s.graph.worlds < world_limit

pub not_ended : (F : Setting) (s : State) → ended F s ≡ false → Due s
unfolding ended
not_ended F s e =
    let rest = or_right s.proved _ e in
    record { unproved = or_left s.proved _ e; waits = or_left (empty s.waiting) _ rest; worlds = leb-false world_limit s.graph.worlds (or_right (empty s.waiting) _ rest) }

pub not_stopped : (F : Setting) (s : State) → stops F s ≡ false → Due s × (full s ≡ false)
unfolding stops
not_stopped F s e = (not_ended F s (or_left (ended F s) (full s) e), or_right (ended F s) (full s) e)

pub not_full : (s : State) → full s ≡ false → length s.nodes ≤ most_identifiers
unfolding full
not_full s e = ltb-false most_identifiers (length s.nodes) e

-- ---- a step
module _ (F : Setting) (s : State) where
  pub step_is : (p : Popped) → pop F s.formulas s.nodes s.waiting ≡ some p → step F s ≡ check_for_contradictions F (appended F s p)
  unfolding step step_by
  step_is p e = ap (step_by F s) e

  -- nothing is taken, or the result of a node that waited is placed and checked
  pub step_either : (P : State → Type 0) → P s → ((p : Popped) → Taken s.waiting p → P (check_for_contradictions F (appended F s p))) → P (step F s)
  unfolding step step_by
  step_either P h f = go (pop F s.formulas s.nodes s.waiting) refl
    where
      go : (o : Option Popped) → pop F s.formulas s.nodes s.waiting ≡ o → P (step_by F s o)
      go none e = h
      go (some p) e = f p (pop_taken F s.formulas s.nodes s.waiting p e)

  -- what placing and the check keep; P may speak of s, as a relation of the state before and the state after
  pub step_keeps : (P : State → Type 0) → ((p : Popped) → Taken s.waiting p → P (appended F s p)) → ((z : State) → P z → P (check_for_contradictions F z)) → P s → P (step F s)
  step_keeps P placed checked h = step_either P h (λ p k. checked (appended F s p) (placed p k))

  -- where a node waits, one is taken
  pub step_due : empty s.waiting ≡ false → (p : Popped) × Taken s.waiting p × (step F s ≡ check_for_contradictions F (appended F s p))
  step_due e = let (p, d) = pop_filled F s.formulas s.nodes s.waiting e in (p, pop_taken F s.formulas s.nodes s.waiting p d, step_is p d)

-- ---- a run, whatever ends it
module _ (test : Setting → State → Bool) (F : Setting) where
  pub steps_none : (s : State) → steps test 0 F s ≡ s
  unfolding steps
  steps_none s = refl

  pub steps_next : (n : ℕ) (s : State) → test F s ≡ false → steps test (suc n) F s ≡ steps test n F (step F s)
  unfolding steps
  steps_next n s e = rw e

  pub steps_stop : (n : ℕ) (s : State) → test F s ≡ true → steps test n F s ≡ s
  unfolding steps
  steps_stop zero s e = refl
  steps_stop (suc n) s e = rw e

  -- the last step of several
  pub steps_last : (n : ℕ) (s : State) → steps test (suc n) F s ≡ steps test 1 F (steps test n F s)
  unfolding steps
  steps_last zero s = refl
  steps_last (suc n) s = go (test F s) refl (steps_last n (step F s))
    where
      go : (b : Bool) → test F s ≡ b → steps test (suc n) F (step F s) ≡ steps test 1 F (steps test n F (step F s)) → cond b s (steps test (suc n) F (step F s)) ≡ steps test 1 F (cond b s (steps test n F (step F s)))
      go true e h = rw e
      go false e h = h

  -- at most n steps: so many were made, each of them due, and they are n unless none is due now
  pub steps_count : (P : ℕ → State → Type 0) → ((i : ℕ) (s : State) → test F s ≡ false → P i s → P (suc i) (step F s)) → (n : ℕ) (s : State) → P 0 s →
      (i : ℕ) × (i ≤ n) × P i (steps test n F s) × ((test F (steps test n F s) ≡ true) ⊎ (i ≡ n))
  unfolding steps
  steps_count P f zero s h = (0, omega arith, h, inr refl)
  steps_count P f (suc n) s h = go (test F s) refl (λ e. steps_count (λ i. P (suc i)) (λ i. f (suc i)) n (step F s) (f 0 s e h))
    where
      rest : State
      rest = steps test n F (step F s)

      go : (b : Bool) → test F s ≡ b → (test F s ≡ false → (i : ℕ) × (i ≤ n) × P (suc i) rest × ((test F rest ≡ true) ⊎ (i ≡ n))) →
          (i : ℕ) × (i ≤ suc n) × P i (cond b s rest) × ((test F (cond b s rest) ≡ true) ⊎ (i ≡ suc n))
      go true e k = (0, omega arith, h, inl e)
      go false e k = let (i, low, p, q) = k e in (suc i, omega (arith, low), p, elim q [ inl t ↦ inl t | inr d ↦ inr (ap suc d) ])

  -- what each step that is due keeps
  pub run_keeps : (P : State → Type 0) → ((s : State) → test F s ≡ false → P s → P (step F s)) → (n : ℕ) (s : State) → P s → P (steps test n F s)
  run_keeps P f n s h = (steps_count (λ _. P) (λ _. f) n s h).2
