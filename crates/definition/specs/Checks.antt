-- The refusals before the run, in parts, each a function of just what it looks at; `checks` joins them in the paper's order. "Full" is the run's, and stands in Call.
use Rattle.std.specs.Prelude.{Bool, ◌&&◌, ◌||◌, not, List, [], ◌∷◌, ◌++◌, map, ℕ, suc, ◌≤◌, ◌/◌, ◌%◌, eqb, ltb, leb, length, get_or}
use Rattle.std.proofs.Math.Option.{Option}
use Rattle.definition.specs.Limits.{record_length, most_records, most_size, most_flags, most_marked, node_tray_length, formula_tray_length, edge_tray_length}
use Rattle.definition.specs.RefusalNumbers.{partial_record, no_record, too_many_records, unknown_flag, tray_too_short, unknown_kind, bad_mark_or_field, forward_link, formula_too_large, no_marked_record, too_many_marked}
use Rattle.definition.specs.Lists.{any, find, empty, sum}
use Rattle.definition.specs.Records.{Rec, decode, links, number_of, marks}

-- the lengths of the three trays lent
pub record Lengths : Type 0 where
  pub nodes : ℕ
  pub formulas : ℕ
  pub edges : ℕ

-- no tray is "below its length"
pub record LongEnough (lent : Lengths) : Type 0 where
  pub nodes : node_tray_length ≤ lent.nodes
  pub formulas : formula_tray_length ≤ lent.formulas
  pub edges : edge_tray_length ≤ lent.edges

-- one check: whether it applies, its number in the table, and "its record number (0 outside 6 to 9)"
pub record Check : Type 0 where
  pub applies : Bool
  pub number : ℕ
  pub place : ℕ

abbrev pub check : ℕ → ℕ → Bool → Check
check n i b = record { applies = b; number = n; place = i }

-- "a tray below its length"
unfoldable pub is_short : Lengths → Bool
is_short lent = ltb lent.nodes node_tray_length || (ltb lent.formulas formula_tray_length || ltb lent.edges edge_tray_length)

-- "A record's expanded size counts every connective and atom of its written-out tree": by the sizes of the records before it
unfoldable pub expanded_size : List ℕ → Rec → ℕ
expanded_size sizes r = suc (sum (map (λ l. get_or sizes l 0) (links r)))

-- a field that the table says is zero is not
unfoldable pub non_zero_field : Rec → Bool
non_zero_field r = ltb (length (links r)) 2 && not (eqb r.right 0)

-- ---- the parts
-- the sheet's length in bytes: torn, blank, overlong
abbrev pub sheet_checks : ℕ → List Check
sheet_checks n =
    check partial_record 0 (not (eqb (n % record_length) 0))
    ∷ check no_record 0 (eqb n 0)
    ∷ check too_many_records 0 (ltb most_records (n / record_length))
    ∷ []

-- the flags: bad tick
abbrev pub flag_checks : ℕ → List Check
flag_checks flags = check unknown_flag 0 (ltb most_flags flags) ∷ []

-- the trays lent: short tray
abbrev pub tray_checks : Lengths → List Check
tray_checks lent = check tray_too_short 0 (is_short lent) ∷ []

-- record i, of this expanded size: unknown stain, stray mark, forward link, oversize
abbrev pub checks_of_record : ℕ → ℕ → Rec → List Check
checks_of_record i size r =
    check unknown_kind i (ltb 8 (number_of r.kind))
    ∷ check bad_mark_or_field i (ltb 1 r.mark || non_zero_field r)
    ∷ check forward_link i (any (leb i) (links r))
    ∷ check formula_too_large i (ltb most_size size)
    ∷ []

-- "record by record 6 to 9": `sizes` are those of the records before, whose count is the record's number
unfoldable pub record_checks : List ℕ → List Rec → List Check
record_checks sizes [] = []
record_checks sizes (r ∷ rs) =
    let size = expanded_size sizes r in
    checks_of_record (length sizes) size r ++ record_checks (sizes ++ (size ∷ [])) rs

-- the marked records: unmarked, crowded
abbrev pub mark_checks : List Rec → List Check
mark_checks rs = check no_marked_record 0 (empty (marks rs)) ∷ check too_many_marked 0 (ltb most_marked (length (marks rs))) ∷ []

-- ---- the whole
-- "Checks go 1 to 5, then record by record 6 to 9, then 10, 11"
unfoldable pub checks : List ℕ → ℕ → Lengths → List Check
checks bytes flags lent =
    let rs = decode bytes in
    sheet_checks (length bytes) ++ (flag_checks flags ++ (tray_checks lent ++ (record_checks [] rs ++ mark_checks rs)))

-- "the first that applies is returned"
abbrev pub first_of : List Check → Option Check
first_of = find (λ (c : Check). c.applies)

unfoldable pub refused : List ℕ → ℕ → Lengths → Option Check
refused bytes flags lent = first_of (checks bytes flags lent)
