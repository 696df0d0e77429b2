-- Every state of the run of an accepted branch: room for what a step makes, a tree, contradictions checked, necessities known by their spawners.
use mathlib.Core.Path.{◌≡◌, refl, sym, ap, ◌∙◌, subst}
use mathlib.Core.Bool.{false}
use mathlib.Core.List.{List}
use mathlib.Core.Option.{none}
use Prim.Native.Nat.{ℕ, suc}
use Rattle.definition.specs.Records.{decode}
use Rattle.definition.specs.Checks.{Lengths, refused}
use Rattle.definition.specs.Setting.{Setting, setting_of}
use Rattle.definition.specs.Run.{State, start, step, stops, run}
use Rattle.definition.specs.Reached.{Reached}
use Rattle.definition.proofs.Run.Accepted.{accepted}
use Rattle.definition.proofs.Run.Stepping.{steps_none, steps_next, steps_last, run_keeps}
use Rattle.definition.proofs.Call.Room.{Fit, fit_start, fit_step}
use Rattle.definition.proofs.Paths.Marks.{RunMarksRight, watch_start, watch_step}
use Rattle.definition.proofs.Paths.Spawners.{AllRooted, rooted_start, rooted_step}

-- ---- the run, step by step
-- one step, where one is due
pub one_step : (F : Setting) (s : State) → stops F s ≡ false → run 1 F s ≡ step F s
one_step F s e = steps_next stops F 0 s e ∙ steps_none stops F (step F s)

-- ---- what holds of every state
pub record Invariants (F : Setting) (s : State) : Type 0 where
  pub records : ℕ
  pub fit : Fit F records s
  pub watch : RunMarksRight F s
  pub rooted : AllRooted s

invariants_step : (F : Setting) (s : State) → stops F s ≡ false → Invariants F s → Invariants F (step F s)
invariants_step F s e i =
    record { records = i.records; fit = fit_step F i.records s e i.fit; watch = watch_step F i.records s i.fit e i.watch; rooted = rooted_step F i.records s i.fit e i.rooted }

pub reached_invariants : (F : Setting) (s : State) → Reached F s → Invariants F s
reached_invariants F s r =
    let rs = decode r.bytes in
    let a = accepted r.bytes r.flags r.lent r.accepted in
    subst (Invariants F) (sym r.is)
    (run_keeps stops F (Invariants F) (invariants_step F) r.count (start F rs)
    (record { records = _; fit = fit_start F rs a.few (λ i l. (a.records i l).links) a.marked; watch = watch_start F rs a.marked; rooted = rooted_start F rs }))

-- ---- the states themselves
pub reached_start : (bytes : List ℕ) (flags : ℕ) (lent : Lengths) → refused bytes flags lent ≡ none → Reached (setting_of flags) (start (setting_of flags) (decode bytes))
reached_start bytes flags lent e = record { bytes = bytes; flags = flags; lent = lent; accepted = e; setting = refl; count = 0; is = sym (steps_none stops (setting_of flags) (start (setting_of flags) (decode bytes))) }

reached_one : (F : Setting) (s : State) → Reached F s → Reached F (run 1 F s)
reached_one F s r =
    record {
      bytes = r.bytes;
      flags = r.flags;
      lent = r.lent;
      accepted = r.accepted;
      setting = r.setting;
      count = suc r.count;
      is = ap (run 1 F) r.is ∙ sym (steps_last stops F r.count (start F (decode r.bytes)));
    }

pub reached_step : (F : Setting) (s : State) → stops F s ≡ false → Reached F s → Reached F (step F s)
reached_step F s e r = subst (Reached F) (one_step F s e) (reached_one F s r)
