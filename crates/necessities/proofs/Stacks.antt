-- Laws of the stack of stored necessities.
use Prim.Native.Nat.{ℕ, zero, suc, ◌+◌, ◌-◌, ◌/◌, ◌<◌}
use mathlib.Core.Path.{◌≡◌, refl, ◌∙◌, subst}
use mathlib.Core.Bool.{Bool, not, ◌&&◌, ◌||◌}
use mathlib.Core.List.{List, [], ◌∷◌, ◌++◌, reverse}
use mathlib.Core.Logic.{◌⊎◌, ◌≢◌, inl, inr}
use native.Mathlib.Omega.{arith}
use lib.ListN.{length, get_or, set, take, drop, length-set, length-reverse, length-append, get_or-append}
use lib.Seq.{get_or-set_same, get_or-set_other}
use lib.Dec.{eqb}
use Rattle.std.proofs.lemmas.List.{get_or-reverse, get_or-take, length-take-le, length-drop}
use Rattle.definition.specs.Limits.{most_identifiers}
use Rattle.bits.specs.Bits.{bit_of, Bits}
use Rattle.bits.specs.Worlds.{worlds_in}
use Rattle.bits.specs.declared.WorldSet.{WorldSet}
use Rattle.definition.specs.Modality.{Necessity}
use Rattle.definition.proofs.Basics.Lists.{alike}
use Rattle.necessities.specs.declared.StoredNecessity.{StoredNecessity}
use Rattle.necessities.specs.Stored.{blank, Row}
use Rattle.necessities.specs.Change.{OtherRowsKept, Added}
use Rattle.necessities.specs.Stack.{Stack, fresh, visits}
use Rattle.necessities.proofs.Tables.{kept_then, clear_kept, clear_here}
use Rattle.necessities.proofs.Words.{word_zero, word_union}

-- ---- one necessity more, by the callees' contracts
module _ {ns : List Necessity} {count : ℕ} {rows : List StoredNecessity} {l l₁ l₂ xs : List ℕ} (z : Stack ns count rows l) (h : count < most_identifiers)
    (cleared : (p : ℕ → Bool) → Bits p l → Bits (λ j. not (eqb (j / most_identifiers) count) && p j) l₁) (filled : Added count xs l₁ l₂) (s : StoredNecessity) (row : s.leaf_row ≡ count) (none : s.visited.0 ≡ 0) where
  abbrev stored : List StoredNecessity
  stored = set rows count s

  kept : OtherRowsKept count l l₂
  kept = kept_then (clear_kept count l l₁ cleared) filled.kept

  same : (k : ℕ) → k ≢ count → get_or stored k blank ≡ get_or rows k blank
  same k e = get_or-set_other rows count k s blank e

  here : get_or stored count blank ≡ s
  here = get_or-set_same rows count s blank (omega (arith, z.long))

  row_here : Row (fresh s.formula.0 s.world.0 s.spawner.0 xs) count stored l₂
  unfolding fresh
  row_here = record { low = h; is = rw here (record { formula = refl; world = refl; spawner = refl; visited = rw none word_zero; leaves = rw row (filled.here [] (clear_here count l l₁ cleared h z.leaves_long)) }) }

  row_below : {n : Necessity} (k : ℕ) → k < count → Row n k rows l → Row n k stored l₂
  row_below {n} k low r =
      let s = r.is in record {
        low = r.low;
        is = rw (same k (λ e. omega arith)) (record { formula = s.formula; world = s.world; spawner = s.spawner; visited = s.visited; leaves = kept.others _ n.leaves (λ e. omega (arith, z.used k low)) s.leaves });
      }

  used : (k : ℕ) → k < count + 1 → (get_or stored k blank).leaf_row < count + 1
  used k b = go (alike k count)
    where
      go : (k ≡ count) ⊎ (k ≢ count) → (get_or stored k blank).leaf_row < count + 1
      go (inl e) = rw (e, here, row) (omega arith)
      go (inr e) = rw (same k e) (omega (arith, z.used k (omega arith)))

  pub stack_store : Stack (fresh s.formula.0 s.world.0 s.spawner.0 xs ∷ ns) (count + 1) stored l₂
  stack_store =
      record {
        room = omega arith;
        counted = omega (arith, z.counted);
        stored = at;
        used = used;
        long = length-set rows count s ∙ z.long;
        leaves_long = kept.long z.leaves_long;
      }
    where
      at : (none : Necessity) (i k : ℕ) → i + k + 1 ≡ count + 1 → Row (get_or (fresh s.formula.0 s.world.0 s.spawner.0 xs ∷ ns) i none) k stored l₂
      at none zero k e = subst (λ (m : ℕ). Row (fresh s.formula.0 s.world.0 s.spawner.0 xs) m stored l₂) (omega arith) row_here
      at none (suc i) k e = row_below k (omega arith) (z.stored none i k (omega arith))

-- ---- more worlds visited
module _ {ns : List Necessity} {count : ℕ} {rows : List StoredNecessity} {l : List ℕ} (i k : ℕ) (none : Necessity) (more both : WorldSet) (z : Stack ns count rows l) (at : i + k + 1 ≡ count)
    (put : (y : ℕ) → bit_of both.0 y ≡ (bit_of (get_or rows k blank).visited.0 y || bit_of more.0 y)) where
  abbrev visited : Necessity
  visited = visits (get_or ns i none) (worlds_in more.0)

  abbrev old : StoredNecessity
  old = get_or rows k blank

  abbrev changed : StoredNecessity
  changed = record { formula = old.formula; world = old.world; spawner = old.spawner; leaf_row = old.leaf_row; visited = both }

  changed_here : get_or (set rows k changed) k blank ≡ changed
  changed_here = get_or-set_same rows k changed blank (omega (arith, z.room, z.long))

  other : (j : ℕ) → j ≢ k → get_or (set rows k changed) j blank ≡ get_or rows j blank
  other j e = get_or-set_other rows k j changed blank e

  row_visits : Row visited k (set rows k changed) l
  unfolding visits
  row_visits =
      let r = z.stored none i k at in
      record { low = r.low; is = rw changed_here (record { formula = r.is.formula; world = r.is.world; spawner = r.is.spawner; visited = word_union r.is.visited more.0 both.0 put; leaves = r.is.leaves }) }

  pub stack_visit : Stack (set ns i visited) count (set rows k changed) l
  stack_visit =
      record {
        room = z.room;
        counted = length-set ns i visited ∙ z.counted;
        stored = λ else j m e. go else j m e (alike j i);
        used = λ m h. used m h (alike m k);
        long = length-set rows k changed ∙ z.long;
        leaves_long = z.leaves_long;
      }
    where
      go : (else : Necessity) (j m : ℕ) → j + m + 1 ≡ count → (j ≡ i) ⊎ (j ≢ i) → Row (get_or (set ns i visited) j else) m (set rows k changed) l
      go else j m e (inl q) =
          let r : m ≡ k = omega arith in
          rw (q, r, get_or-set_same ns i visited else (omega (arith, z.counted))) row_visits
      go else j m e (inr q) =
          let r = z.stored else j m e in
          rw (get_or-set_other ns i j visited else q) (record { low = r.low; is = rw (other m (λ d. q (omega (arith, d)))) r.is })

      used : (m : ℕ) → m < count → (m ≡ k) ⊎ (m ≢ k) → (get_or (set rows k changed) m blank).leaf_row < count
      used m h (inl q) = rw (q, changed_here) (z.used k (omega arith))
      used m h (inr q) = rw (other m q) (z.used m h)

-- ---- the stack turned round: the first rows, and what is beyond them
module _ {ns : List Necessity} {count : ℕ} {rows : List StoredNecessity} {l : List ℕ} (z : Stack ns count rows l) where
  abbrev turned : List StoredNecessity
  turned = reverse (take count rows) ++ drop count rows

  first : length (take count rows) ≡ count
  first = length-take-le count rows (omega (arith, z.long, z.room))

  mirrored : (i k : ℕ) → i + k + 1 ≡ count → get_or turned k blank ≡ get_or rows i blank
  mirrored i k e =
      let d : length (take count rows) - 1 - k ≡ i = omega (arith, first) in
      rw (
        get_or-append (reverse (take count rows)) (drop count rows) blank k (omega (arith, length-reverse (take count rows), first)),
        get_or-reverse (take count rows) k blank (omega (arith, first)),
        d,
      ) (get_or-take count rows i blank (omega arith))

  -- any rows of which the first are those in the other order, whatever is beyond them
  pub stack_mirrored : {other : List StoredNecessity} → length other ≡ length rows → ((i k : ℕ) → i + k + 1 ≡ count → get_or other k blank ≡ get_or rows i blank) → Stack (reverse ns) count other l
  stack_mirrored {other} long turns =
      record {
        room = z.room;
        counted = length-reverse ns ∙ z.counted;
        stored = stored;
        used = λ k h. rw (turns (count - 1 - k) k (omega arith)) (z.used (count - 1 - k) (omega arith));
        long = long ∙ z.long;
        leaves_long = z.leaves_long;
      }
    where
      stored : (none : Necessity) (i k : ℕ) → i + k + 1 ≡ count → Row (get_or (reverse ns) i none) k other l
      stored none i k e =
          let r = z.stored none k i (omega arith) in
          let d : length ns - 1 - i ≡ k = omega (arith, z.counted) in
          rw (get_or-reverse ns i none (omega (arith, z.counted)), d) (record { low = omega (arith, z.room); is = rw (turns i k e) r.is })

  pub stack_turn : {new : List StoredNecessity} → new ≡ reverse (take count rows) → Stack (reverse ns) count (new ++ drop count rows) l
  stack_turn e =
      rw e
      (stack_mirrored (omega (arith, length-append (reverse (take count rows)) (drop count rows), length-reverse (take count rows), first, length-drop count rows, z.long, z.room)) mirrored)
