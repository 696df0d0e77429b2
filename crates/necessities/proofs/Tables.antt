-- Laws of one row of a table of bits.
use Prim.Native.Nat.{ℕ, ◌+◌, ◌*◌, ◌/◌, ◌≤◌, ◌<◌}
use mathlib.Core.Path.{◌≡◌, refl, sym, ap, ◌∙◌}
use mathlib.Core.Bool.{Bool, true, false, not, ◌&&◌, ◌||◌}
use mathlib.Core.List.{List, [], ◌∷◌, ◌++◌, append_assoc}
use mathlib.Core.Logic.{◌≢◌}
use native.Mathlib.Numerals.{add-one}
use native.Mathlib.Omega.{arith}
use lib.ListN.{length, get_or, take}
use lib.Seq.{take-suc}
use lib.Dec.{eqb, ltb}
use borrow.Author.Tests.{eqb-true, eqb-false, eq-eqb, ne_eqb, lt-ltb, le-ltb, ltb-true, ltb-false}
use Rattle.definition.specs.Limits.{most_identifiers}
use Rattle.limits.specs.Arrays.{leaf_words}
use Rattle.arrays.specs.Listed.{Listed}
use Rattle.arrays.proofs.Tabled.{tabled_count}
use Rattle.bits.specs.Bits.{bit_at, Bits}
use Rattle.definition.specs.Lists.{Each, elem}
use Rattle.definition.proofs.Basics.Lists.{each_get}
use Rattle.necessities.specs.Stored.{InRow}
use Rattle.necessities.specs.Change.{OtherRowsKept, Added}

pub elem_append : (y : ℕ) (l m : List ℕ) → elem y (l ++ m) ≡ (elem y l || elem y m)
elem_append y [] m = refl
elem_append y (x ∷ l) m = go (eqb y x) (elem_append y l m)
  where
    go : (b : Bool) → elem y (l ++ m) ≡ (elem y l || elem y m) → (b || elem y (l ++ m)) ≡ ((b || elem y l) || elem y m)
    go true e = refl
    go false e = e

pub or_last : (a b : Bool) → (a || (b || false)) ≡ (b || a)
or_last true true = refl
or_last true false = refl
or_last false true = refl
or_last false false = refl

-- a table has its own bits
bits_of : (a : List ℕ) → length a ≡ leaf_words → Bits (bit_at a) a
bits_of a h = record { long = h; same = λ i b. refl }

-- a row, by its numbers below `most_identifiers` and those above
in_row : (k : ℕ) (l a : List ℕ) → k < most_identifiers → length a ≡ leaf_words → ((y : ℕ) → y < most_identifiers → bit_at a (k * most_identifiers + y) ≡ elem y l) → ((y : ℕ) → most_identifiers ≤ y → elem y l ≡ false) → InRow k l a
in_row k l a r h low high = record { row = r; long = h; same = λ y. go y (ltb y most_identifiers) refl }
  where
    go : (y : ℕ) (t : Bool) → ltb y most_identifiers ≡ t → (ltb y most_identifiers && bit_at a (k * most_identifiers + y)) ≡ elem y l
    go y true e = rw e (low y (ltb-true y most_identifiers e))
    go y false e = rw e (sym (high y (ltb-false y most_identifiers e)))

module _ {k : ℕ} {l a : List ℕ} (r : InRow k l a) where
  row_low : (y : ℕ) → y < most_identifiers → bit_at a (k * most_identifiers + y) ≡ elem y l
  row_low y h = rw (lt-ltb y most_identifiers h) at (r.same y)

  row_high : (y : ℕ) → most_identifiers ≤ y → elem y l ≡ false
  row_high y h = sym (rw (le-ltb y most_identifiers h) at (r.same y))

  row_kept : (b : List ℕ) → length b ≡ leaf_words → ((y : ℕ) → y < most_identifiers → bit_at b (k * most_identifiers + y) ≡ bit_at a (k * most_identifiers + y)) → InRow k l b
  row_kept b h e = in_row k l b r.row h (λ y q. e y q ∙ row_low y q) row_high

-- ---- rows after changes
pub kept_then : {k : ℕ} {a b c : List ℕ} → OtherRowsKept k a b → OtherRowsKept k b c → OtherRowsKept k a c
kept_then p q = record { long = λ h. q.long (p.long h); others = λ j l e r. q.others j l e (p.others j l e r) }

pub added_then : {k : ℕ} {l m a b c : List ℕ} → Added k l a b → Added k m b c → Added k (l ++ m) a c
added_then {k} {l} {m} p q =
    record { kept = kept_then p.kept q.kept; here = λ old r. rw (← append_assoc old l m) (q.here (old ++ l) (p.here old r)) }

-- ---- one number more, which the callee's contract gives
module _ (k x : ℕ) (a b : List ℕ) (inside : k < most_identifiers) (small : x < most_identifiers)
    (insert : (p : ℕ → Bool) → Bits p a → Bits (λ j. eqb j (k * most_identifiers + x) || p j) b) where
  inserted : length a ≡ leaf_words → (j y : ℕ) → j < most_identifiers → y < most_identifiers → bit_at b (j * most_identifiers + y) ≡ (eqb (j * most_identifiers + y) (k * most_identifiers + x) || bit_at a (j * most_identifiers + y))
  inserted h j y r q = (insert (bit_at a) (bits_of a h)).same (j * most_identifiers + y) (omega arith)

  insert_kept : OtherRowsKept k a b
  insert_kept =
      record {
        long = λ h. (insert (bit_at a) (bits_of a h)).long;
        others = λ j l e r. row_kept r b (insert (bit_at a) (bits_of a r.long)).long (λ y q. other j y e r.row q r.long);
      }
    where
      other : (j y : ℕ) → j ≢ k → j < most_identifiers → y < most_identifiers → length a ≡ leaf_words → bit_at b (j * most_identifiers + y) ≡ bit_at a (j * most_identifiers + y)
      other j y e r q h = inserted h j y r q ∙ rw (ne_eqb (j * most_identifiers + y) (k * most_identifiers + x) (λ s. e (omega arith)))

  insert_added : Added k (x ∷ []) a b
  insert_added = record { kept = insert_kept; here = here }
    where
      same : (y : ℕ) (t : Bool) → eqb y x ≡ t → eqb (k * most_identifiers + y) (k * most_identifiers + x) ≡ eqb y x
      same y true e = rw e (eq-eqb (k * most_identifiers + y) (k * most_identifiers + x) (ap (λ (z : ℕ). k * most_identifiers + z) (eqb-true y x e)))
      same y false e = rw e (ne_eqb (k * most_identifiers + y) (k * most_identifiers + x) (λ s. eqb-false y x e (omega arith)))

      here : (old : List ℕ) → InRow k old a → InRow k (old ++ (x ∷ [])) b
      here old r =
          in_row k (old ++ (x ∷ [])) b inside (insert (bit_at a) (bits_of a r.long)).long
          (λ y q. inserted r.long k y inside q ∙ rw (same y (eqb y x) refl, row_low r y q) (sym (elem_append y old (x ∷ []) ∙ or_last (elem y old) (eqb y x))))
          (λ y q. elem_append y old (x ∷ []) ∙ rw (row_high r y q, ne_eqb y x (λ s. omega arith)))

-- the next of the listed numbers is put in, and none is left
pub insert_next : (k : ℕ) {l a b c w : List ℕ} (i x m : ℕ) → k < most_identifiers → i < m → Listed l m w → m ≤ most_identifiers → Each (λ y. y < most_identifiers) l → x ≡ get_or l i 0
    → ((p : ℕ → Bool) → Bits p b → Bits (λ j. eqb j (k * most_identifiers + x) || p j) c) → Added k (take i l) a b → Added k (take (i + 1) l) a c
insert_next k {l} {a} {b} {c} i x m r h p n small e insert d =
    let t : i < length l = omega (arith, tabled_count p n) in
    let q : x < most_identifiers = rw e (each_get (λ y. y < most_identifiers) l 0 small i (λ g. absurd (omega (arith, g, t)))) in
    rw (add-one, take-suc l i 0 t, ← e) (added_then d (insert_added k x b c r q insert))

-- ---- a row emptied
module _ (k : ℕ) (a b : List ℕ) (clear : (p : ℕ → Bool) → Bits p a → Bits (λ j. not (eqb (j / most_identifiers) k) && p j) b) where
  cleared : length a ≡ leaf_words → (j y : ℕ) → j < most_identifiers → y < most_identifiers → bit_at b (j * most_identifiers + y) ≡ (not (eqb ((j * most_identifiers + y) / most_identifiers) k) && bit_at a (j * most_identifiers + y))
  cleared h j y r q = (clear (bit_at a) (bits_of a h)).same (j * most_identifiers + y) (omega arith)

  pub clear_kept : OtherRowsKept k a b
  clear_kept =
      record {
        long = λ h. (clear (bit_at a) (bits_of a h)).long;
        others = λ j l e r. row_kept r b (clear (bit_at a) (bits_of a r.long)).long (λ y q. other j y e r.row q r.long);
      }
    where
      other : (j y : ℕ) → j ≢ k → j < most_identifiers → y < most_identifiers → length a ≡ leaf_words → bit_at b (j * most_identifiers + y) ≡ bit_at a (j * most_identifiers + y)
      other j y e r q h = cleared h j y r q ∙ rw (ne_eqb ((j * most_identifiers + y) / most_identifiers) k (λ s. e (omega arith)))

  pub clear_here : k < most_identifiers → length a ≡ leaf_words → InRow k [] b
  clear_here r h =
      in_row k [] b r (clear (bit_at a) (bits_of a h)).long
      (λ y q. cleared h k y r q ∙ rw (eq-eqb ((k * most_identifiers + y) / most_identifiers) k (omega arith)))
      (λ y q. refl)
