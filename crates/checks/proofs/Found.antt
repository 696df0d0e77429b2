-- The first check that applies, of parts that are joined.
use mathlib.Core.Path.{◌≡◌, sym, ap, ◌∙◌}
use mathlib.Core.List.{List, [], ◌++◌}
use mathlib.Core.Option.{Option, none, some}
use Prim.Native.Nat.{ℕ, ◌≤◌, ◌/◌}
use lib.ListN.{length}
use Rattle.definition.specs.Limits.{record_length, most_records}
use Rattle.definition.specs.Lists.{or_else}
use Rattle.definition.specs.Records.{decode}
use Rattle.definition.specs.Checks.{Check, Lengths, sheet_checks, flag_checks, tray_checks, record_checks, mark_checks, checks, first_of, refused}
use Rattle.definition.proofs.Basics.Lists.{find_append}
use Rattle.definition.proofs.Run.Accepted.{none_passed, sheet_passed}

-- ---- two parts joined: what is found in the one, or else in the other
module _ (cs ds : List Check) where
  pub found_before : {k : Check} → some k ≡ first_of cs → some k ≡ first_of (cs ++ ds)
  found_before e = ap (λ (q : Option Check). or_else q (first_of ds)) e ∙ sym (find_append (λ (c : Check). c.applies) cs ds)

  pub found_after : none ≡ first_of cs → first_of ds ≡ first_of (cs ++ ds)
  found_after e = ap (λ (q : Option Check). or_else q (first_of ds)) e ∙ sym (find_append (λ (c : Check). c.applies) cs ds)

-- ---- the whole: each part in its order, where none before it applies
module _ (bytes : List ℕ) (flags : ℕ) (lent : Lengths) where
  abbrev sheet : List Check
  sheet = sheet_checks (length bytes)

  abbrev records : List Check
  records = record_checks [] (decode bytes)

  abbrev marked : List Check
  marked = mark_checks (decode bytes)

  pub refused_sheet : {k : Check} → some k ≡ first_of sheet → some k ≡ refused bytes flags lent
  unfolding refused checks
  refused_sheet = found_before sheet (flag_checks flags ++ (tray_checks lent ++ (records ++ marked)))

  module _ (s : none ≡ first_of sheet) where
    -- no more records than the sizes have room for
    pub few_records : length bytes / record_length ≤ most_records
    few_records = sheet_passed (length bytes) (none_passed sheet (sym s))

    past_sheet : first_of (flag_checks flags ++ (tray_checks lent ++ (records ++ marked))) ≡ refused bytes flags lent
    unfolding refused checks
    past_sheet = found_after sheet (flag_checks flags ++ (tray_checks lent ++ (records ++ marked))) s

    pub refused_flags : {k : Check} → some k ≡ first_of (flag_checks flags) → some k ≡ refused bytes flags lent
    refused_flags e = found_before (flag_checks flags) (tray_checks lent ++ (records ++ marked)) e ∙ past_sheet

    module _ (f : none ≡ first_of (flag_checks flags)) where
      past_flags : first_of (tray_checks lent ++ (records ++ marked)) ≡ refused bytes flags lent
      past_flags = found_after (flag_checks flags) (tray_checks lent ++ (records ++ marked)) f ∙ past_sheet

      pub refused_trays : {k : Check} → some k ≡ first_of (tray_checks lent) → some k ≡ refused bytes flags lent
      refused_trays e = found_before (tray_checks lent) (records ++ marked) e ∙ past_flags

      module _ (t : none ≡ first_of (tray_checks lent)) where
        past_trays : first_of (records ++ marked) ≡ refused bytes flags lent
        past_trays = found_after (tray_checks lent) (records ++ marked) t ∙ past_flags

        pub refused_record : {k : Check} → some k ≡ first_of records → some k ≡ refused bytes flags lent
        refused_record e = found_before records marked e ∙ past_trays

        pub refused_marks : none ≡ first_of records → {o : Option Check} → o ≡ first_of marked → o ≡ refused bytes flags lent
        refused_marks r e = e ∙ found_after records marked r ∙ past_trays
