-- Reads and pushes of records in a table.
use Prim.Native.Nat.{ℕ, ◌<◌, ◌≤◌}
use mathlib.Core.Path.{◌≡◌, sym, ap, ◌∙◌, subst}
use mathlib.Core.List.{List, [], ◌∷◌, ◌++◌, map, map-append}
use native.Mathlib.Omega.{arith}
use lib.ListN.{length, get_or, length-map, get_or-eq_default}
use Rattle.std.proofs.lemmas.List.{get_or-map}
use Rattle.arrays.specs.Table.{Tabled}
use Rattle.arrays.specs.Table as table
use Rattle.arrays.proofs.Tabled.{tabled_at, tabled_counts, tabled_count, tabled_fits, tabled_many, tabled_exceeds}
use Rattle.definition.specs.Limits.{most_formulas}
use Rattle.definition.specs.Records.{Rec, number_of, kind_of, rec_at}
use Rattle.formula.specs.declared.Record.{Record}
use Rattle.formula.specs.Recorded.{missing, stored, blank, rec_of, Recorded}

-- ---- the count is within the table if and only if the records are
pub recorded_count : {rs : List Rec} {n : ℕ} {a : List Record} → Recorded rs n a → n ≤ most_formulas → length rs ≡ n
recorded_count {rs} p h = sym (length-map rs stored) ∙ tabled_count p.held h

pub recorded_fits : {rs : List Rec} {n : ℕ} {a : List Record} → Recorded rs n a → length rs ≤ most_formulas → n ≤ most_formulas
recorded_fits {rs} p h = tabled_fits p.held (omega (arith, h, length-map rs stored))

pub recorded_many : {rs : List Rec} {n : ℕ} {a : List Record} → Recorded rs n a → most_formulas < n → most_formulas < length rs
recorded_many {rs} p h = omega (arith, tabled_many p.held h, length-map rs stored)

-- a table of too many records is one of any too many
pub recorded_over : {rs ss : List Rec} {n : ℕ} {a : List Record} → most_formulas < length rs → most_formulas < length ss → Recorded rs n a → Recorded ss n a
recorded_over {rs} {ss} h g p =
    record { held = table.too_many (tabled_counts p.held) (tabled_exceeds p.held (omega (arith, h, length-map rs stored))) (omega (arith, g, length-map ss stored)) }

-- ---- reads
pub rec_at_far : (rs : List Rec) (i : ℕ) → length rs ≤ i → rec_at rs i ≡ missing
unfolding rec_at
rec_at_far rs i h = get_or-eq_default rs missing h

pub read_far : {rs : List Rec} {n : ℕ} {a : List Record} (i : ℕ) → Recorded rs n a → n ≤ most_formulas → n ≤ i → stored missing ≡ stored (rec_at rs i)
read_far {rs} i p h g = ap stored (sym (rec_at_far rs i (omega (arith, recorded_count p h))))

pub read_at : {rs : List Rec} {n : ℕ} {a : List Record} (i : ℕ) (d : Record) → Recorded rs n a → n ≤ most_formulas → i < n → get_or a i d ≡ stored (rec_at rs i)
unfolding rec_at
read_at {rs} i d p h g = tabled_at p.held h i d g ∙ get_or-map stored rs i missing d (omega (arith, recorded_count p h))

-- ---- pushes
pub push_at : {rs : List Rec} {n m : ℕ} {a b : List Record} (x : Record) (k : ℕ) → k ≡ number_of (kind_of x.kind)
    → ((l : List Record) → Tabled most_formulas blank l n a → Tabled most_formulas blank (l ++ (record x { kind = k } ∷ [])) m b)
    → Recorded rs n a → Recorded (rs ++ (rec_of x ∷ [])) m b
push_at {rs} {n} {m} {a} {b} x k d f p =
    record { held = subst (λ (l : List Record). Tabled most_formulas blank l m b) (ap (λ (i : ℕ). map stored rs ++ (record x { kind = i } ∷ [])) d ∙ sym (map-append stored rs (rec_of x ∷ []))) (f (map stored rs) p.held) }
