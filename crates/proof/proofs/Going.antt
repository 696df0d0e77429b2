-- The loop of steps: a state of the run, and what the run makes of it.
use mathlib.Core.Path.{◌≡◌, sym, ap, ◌∙◌, subst}
use mathlib.Core.Bool.{Bool, true, false}
use Prim.Native.Nat.{ℕ, suc, ◌≤◌, ◌<◌, ◌+◌, ◌-◌}
use native.Mathlib.Omega.{arith}
use Rattle.definition.specs.Setting.{Setting}
use Rattle.definition.specs.Run.{State, step, stops, run, enough_steps}
use Rattle.definition.proofs.Run.Stepping.{steps_none, steps_next, steps_stop}
use Rattle.definition.specs.Reached.{Reached}
use Rattle.definition.proofs.Engine.Reached.{reached_step}
use Rattle.proof.specs.declared.State as Rust
use Rattle.proof.specs.StateHeld.{StateHeld}

-- one step, where one is due
pub one_stays : (F : Setting) (s : State) → stops F s ≡ true → s ≡ run 1 F s
one_stays F s e = sym (steps_stop stops F 1 s e)

pub one_step : (F : Setting) (s : State) → stops F s ≡ false → step F s ≡ run 1 F s
one_step F s e = sym (steps_next stops F 0 s e ∙ steps_none stops F (step F s))

pub kept_as : {F : Setting} {s z : State} {x : Rust.State} → s ≡ z → StateHeld F s x → StateHeld F z x
kept_as {F = F} {x = x} e = subst (λ (z : State). StateHeld F z x) e

-- after n of one step more than there are identifiers
pub record Going (F : Setting) (s : State) (n : ℕ) (x : Rust.State) : Type 0 where
  pub now : State
  pub reached : Reached F now
  pub kept : StateHeld F now x
  pub ends : run (enough_steps - n) F now ≡ run enough_steps F s

module _ {F : Setting} {s : State} {n : ℕ} {x : Rust.State} where
  pub going_stops : (g : Going F s n x) {b : Bool} → b ≡ stops F g.now → b ≡ true → StateHeld F (run enough_steps F s) x
  going_stops g e t = kept_as (sym (steps_stop stops F (enough_steps - n) g.now (sym e ∙ t)) ∙ g.ends) g.kept

  pub going_ends : (g : Going F s n x) → enough_steps ≤ n → StateHeld F (run enough_steps F s) x
  going_ends g h =
      let e : enough_steps - n ≡ 0 = omega (arith, h) in
      kept_as (sym (steps_none stops F g.now) ∙ ap (λ (m : ℕ). run m F g.now) (sym e) ∙ g.ends) g.kept

  pub going_next : (g : Going F s n x) → n < enough_steps → stops F g.now ≡ false →
      {y : Rust.State} → StateHeld F (run 1 F g.now) y → Going F s (n + 1) y
  going_next g h e next =
      let d : enough_steps - n ≡ suc (enough_steps - (n + 1)) = omega (arith, h) in
      record {
        now = step F g.now;
        reached = reached_step F g.now e g.reached;
        kept = kept_as (sym (one_step F g.now e)) next;
        ends = sym (steps_next stops F (enough_steps - (n + 1)) g.now e) ∙ ap (λ (m : ℕ). run m F g.now) (sym d) ∙ g.ends;
      }
