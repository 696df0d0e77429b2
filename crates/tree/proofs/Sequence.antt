-- The sequence of identifiers, with room and without.
use Prim.Native.Nat.{ℕ, suc, ◌+◌, ◌<◌, ◌≤◌}
use mathlib.Core.Path.{◌≡◌, refl, sym, ◌∙◌}
use mathlib.Core.Bool.{Bool, true, false}
use lib.Dec.{leb}
use native.Mathlib.Omega.{arith}
use native.Mathlib.Decide.{dec_le}
use borrow.Author.Tests.{le-leb, lt-leb}
use Rattle.definition.specs.Limits.{most_identifiers}
use Rattle.definition.specs.Records.{nobody}
use Rattle.tree.specs.Sequence.{id_at, count_after, Draws}

module _ (n : ℕ) {full : Bool} (e : full ≡ leb most_identifiers n) where
  pub id_none : full ≡ true → nobody ≡ id_at n
  unfolding id_at
  id_none h = rw (← e, h) refl

  pub id_next : full ≡ false → n ≡ id_at n
  unfolding id_at
  id_next h = rw (← e, h) refl

  pub count_full : full ≡ true → (suc most_identifiers) ≡ count_after n
  unfolding count_after
  count_full h = rw (← e, h) refl

  pub count_more : full ≡ false → n + 1 ≡ count_after n
  unfolding count_after
  count_more h = rw (← e, h) refl

pub id_fits : (n : ℕ) → n < most_identifiers → id_at n ≡ n
id_fits n h = sym (id_next n (sym (lt-leb most_identifiers n h)) refl)

-- an identifier that fits is the count before it
pub record Next (n m x : ℕ) : Type 0 where
  pub room : n < most_identifiers
  pub id : x ≡ n
  pub count : m ≡ n + 1

pub drawn_next : {n m x : ℕ} → Draws n m x → m ≤ most_identifiers → Next n m x
drawn_next {n} {m} {x} d h = elim (dec_le most_identifiers n) [
  | yes g ↦ absurd (omega (arith, h, d.count, count_full n (sym (le-leb most_identifiers n g)) refl))
  | no g ↦
      let e = sym (lt-leb most_identifiers n (omega (arith, g))) in
      record { room = omega (arith, g); id = d.id ∙ id_fits n (omega (arith, g)); count = d.count ∙ sym (count_more n e refl) }
]
