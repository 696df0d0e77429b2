-- The loop over the records of a branch.
use Prim.Native.Nat.{ℕ, ◌+◌, ◌*◌, ◌/◌, ◌<◌, ◌≤◌}
use mathlib.Core.Path.{◌≡◌, refl, sym, ap, ◌∙◌}
use mathlib.Core.List.{List, [], ◌∷◌, ◌++◌}
use mathlib.Core.Option.{none, some}
use native.Mathlib.Omega.{arith}
use lib.ListN.{length, take, length-append}
use lib.Seq.{length-take-le}
use Rattle.definition.specs.Limits.{record_length, most_records, most_size}
use Rattle.definition.specs.Records.{Rec, record_at, decode}
use Rattle.definition.specs.Checks.{Check, expanded_size, checks_of_record, record_checks, first_of}
use Rattle.definition.proofs.Run.Accepted.{none_passed, small}
use Rattle.formula.specs.declared.Record.{Record}
use Rattle.formula.specs.Recorded.{rec_of}
use Rattle.checks.proofs.Chunks.{decode_next, decode_none}
use Rattle.checks.proofs.Found.{found_before, found_after}

-- a record that passed is no larger than the limit
pub record_small : (x : Record) (i size : ℕ) → none ≡ first_of (checks_of_record i size (rec_of x)) → size ≤ most_size
record_small x i size e = small i size (rec_of x) (none_passed (checks_of_record i size (rec_of x)) (sym e))

-- where a record is left, there is room for its size; what is left after it
pub begun : (rest xs more bytes sizes : List ℕ) {n : ℕ} → rest ≡ xs ++ more → length xs ≡ record_length → record_length * n + length rest ≡ length bytes → length sizes ≡ most_records
    → length bytes / record_length ≤ most_records → (n < length sizes) × (length (take n sizes) ≡ n) × (record_length * (n + 1) + length more ≡ length bytes)
begun rest xs more bytes sizes {n} e six room long most =
    let all : length rest ≡ record_length + length more = omega (arith, ap length e, length-append xs more, six) in
    let few : n < length sizes = omega (arith, all, room, long, most) in
    (few, length-take-le n sizes (omega (arith, few)), omega (arith, all, room))

-- no check applies to the records so far, which have these sizes; `rest` has the bytes of those that are left
pub record Reading (bytes sizes rest : List ℕ) : Type 0 where
  pub left : first_of (record_checks sizes (decode rest)) ≡ first_of (record_checks [] (decode bytes))

module _ {bytes sizes rest : List ℕ} (p : Reading bytes sizes rest) where
  pub reading_end : length rest < record_length → none ≡ first_of (record_checks [] (decode bytes))
  unfolding record_checks
  reading_end h = ap (λ (rs : List Rec). first_of (record_checks sizes rs)) (sym (decode_none rest h)) ∙ p.left

  module _ (xs more : List ℕ) (e : rest ≡ xs ++ more) (six : length xs ≡ record_length) (x : Record) (ex : rec_of x ≡ record_at xs 0)
      (i size : ℕ) (ei : i ≡ length sizes) (es : size ≡ expanded_size sizes (rec_of x)) where
    -- the checks of this record, and those of the records after it
    abbrev later : List Check
    later = record_checks (sizes ++ (size ∷ [])) (decode more)

    left_now : first_of (checks_of_record i size (rec_of x) ++ later) ≡ first_of (record_checks [] (decode bytes))
    unfolding record_checks
    left_now =
        let here : record_checks sizes (rec_of x ∷ decode more) ≡ checks_of_record i size (rec_of x) ++ later = rw (ei, es) refl in
        ap first_of (sym here)
        ∙ ap (λ (rs : List Rec). first_of (record_checks sizes rs)) (sym (decode_next xs more six e ex))
        ∙ p.left

    pub reading_refused : {k : Check} → some k ≡ first_of (checks_of_record i size (rec_of x)) → some k ≡ first_of (record_checks [] (decode bytes))
    reading_refused f = found_before (checks_of_record i size (rec_of x)) later f ∙ left_now

    pub reading_next : {after : List ℕ} → none ≡ first_of (checks_of_record i size (rec_of x)) → after ≡ sizes ++ (size ∷ []) → Reading bytes after more
    reading_next f m = record { left = rw m (found_after (checks_of_record i size (rec_of x)) later f ∙ left_now) }
