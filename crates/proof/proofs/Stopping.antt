-- When the run stops, by its counts.
use mathlib.Core.Path.{◌≡◌, refl, sym, ap, ◌∙◌}
use mathlib.Core.Logic.{◌≢◌}
use mathlib.Core.Bool.{Bool, true, false, ◌||◌, or-false}
use mathlib.Core.List.{List, [], ◌∷◌}
use Prim.Native.Nat.{ℕ, ◌≤◌, ◌<◌}
use native.Mathlib.Omega.{arith}
use lib.Dec.{eqb, leb}
use borrow.Author.Tests.{lt-ltb, le-ltb, ne_eqb}
use lib.ListN.{length}
use Rattle.definition.specs.Limits.{most_identifiers, world_limit}
use Rattle.definition.specs.Lists.{empty}
use Rattle.definition.specs.Setting.{Setting}
use Rattle.definition.specs.Run
use Rattle.definition.specs.Run.{State, ended, stops}
use Rattle.definition.proofs.Basics.Lists.{or_true}
use Rattle.arrays.specs.Listed.{Listed}
use Rattle.arrays.specs.Table.{tabled, too_many}
use Rattle.proof.specs.declared.State as Rust
use Rattle.proof.specs.StateHeld.{StateHeld, kept, full}

empty_count : (l : List ℕ) (n : ℕ) → length l ≡ n → empty l ≡ eqb n 0
empty_count [] n e = rw (← e) refl
empty_count (x ∷ l) n e = sym (ne_eqb n 0 (λ q. omega (arith, e, q)))

empty_long : (l : List ℕ) (n : ℕ) → most_identifiers < length l → most_identifiers < n → empty l ≡ eqb n 0
empty_long [] n h k = absurd (omega arith)
empty_long (x ∷ l) n h k = sym (ne_eqb n 0 (λ q. omega (arith, k, q)))

pub listed_empty : (l : List ℕ) (n : ℕ) (a : List ℕ) → Listed l n a → empty l ≡ eqb n 0
listed_empty l n a (tabled s b e q) = empty_count l n e
listed_empty l n a (too_many s b e) = empty_long l n e b

module _ {F : Setting} {s : State} {x : Rust.State} where
  pub stops_full : StateHeld F s x → most_identifiers < x.tableau.tree.len → true ≡ stops F s
  unfolding stops Run.full
  stops_full (kept k) h = absurd (omega (arith, k.room, k.count))
  stops_full (full a b) h = sym (or_true (ended F s) (lt-ltb most_identifiers (length s.nodes) b))

  pub stops_by : StateHeld F s x → x.tableau.tree.len ≤ most_identifiers → (x.proved || (eqb x.tableau.waiting.len 0 || leb world_limit x.tableau.graph.worlds)) ≡ stops F s
  unfolding stops Run.full ended
  stops_by (kept k) h =
      rw (le-ltb most_identifiers (length s.nodes) k.room, or-false (ended F s), k.proved, listed_empty s.waiting x.tableau.waiting.len x.tableau.waiting.entries k.waiting, k.graph.count) refl
  stops_by (full a b) h = absurd (omega arith)

  pub stops_proved : StateHeld F s x → x.tableau.tree.len ≤ most_identifiers → x.proved ≡ true → true ≡ stops F s
  stops_proved k h e = sym (ap (λ (b : Bool). b || (eqb x.tableau.waiting.len 0 || leb world_limit x.tableau.graph.worlds)) e) ∙ stops_by k h

  pub stops_idle : StateHeld F s x → x.tableau.tree.len ≤ most_identifiers → x.proved ≡ false → x.tableau.waiting.len ≡ 0 → true ≡ stops F s
  stops_idle k h e w =
      sym (ap (λ (b : Bool). b || (eqb x.tableau.waiting.len 0 || leb world_limit x.tableau.graph.worlds)) e ∙ ap (λ (n : ℕ). eqb n 0 || leb world_limit x.tableau.graph.worlds) w) ∙ stops_by k h

  pub stops_late : StateHeld F s x → x.tableau.tree.len ≤ most_identifiers → x.proved ≡ false → x.tableau.waiting.len ≢ 0 → leb world_limit x.tableau.graph.worlds ≡ stops F s
  stops_late k h e w =
      sym (ap (λ (b : Bool). b || (eqb x.tableau.waiting.len 0 || leb world_limit x.tableau.graph.worlds)) e ∙ ap (λ (b : Bool). b || leb world_limit x.tableau.graph.worlds) (ne_eqb x.tableau.waiting.len 0 w)) ∙ stops_by k h
