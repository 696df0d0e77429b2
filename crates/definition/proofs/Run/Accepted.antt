-- What the checks leave, part by part: a branch that no check refuses.
use mathlib.Core.Path.{◌≡◌, refl, ◌∙◌, subst}
use mathlib.Core.Bool.{Bool, true, false, cond}
use mathlib.Core.List.{List, [], ◌∷◌, ◌++◌}
use mathlib.Core.Option.{none, some}
use Prim.Native.Nat.{ℕ, zero, suc, ◌<◌, ◌≤◌, ◌+◌, ◌/◌}
use native.Mathlib.Omega.{arith}
use native.Mathlib.Nat.{add-zero}
use lib.Dec.{eqb, ltb, leb}
use borrow.Author.Tests.{le-ltb, ltb-true, ltb-false, leb-false}
use lib.ListN.{length, length-append, length-map}
use Rattle.definition.specs.Limits.{record_length, most_records, most_size, most_flags, most_marked, node_tray_length, formula_tray_length, edge_tray_length}
use Rattle.definition.specs.RefusalNumbers.{too_many_records, unknown_flag, tray_too_short, unknown_kind, bad_mark_or_field, forward_link, formula_too_large, no_marked_record, too_many_marked, too_many_identifiers}
use Rattle.definition.specs.Lists.{Each, any, all, empty, below}
use Rattle.definition.specs.Records.{Rec, number_of, links, record_at, decode, rec_at, marks}
use Rattle.definition.specs.Checks.{Lengths, LongEnough, Check, is_short, expanded_size, non_zero_field, sheet_checks, flag_checks, tray_checks, checks_of_record, record_checks, mark_checks, checks, first_of, refused}
use Rattle.definition.proofs.Basics.Lists.{or_left, or_right, cond_both, each_map, all_each, each_append, each_left, each_right, find_each, find_none}
use Rattle.definition.proofs.Basics.Identifiers.{length_from}

-- ---- checks that passed, by their numbers
-- no check of the list applies
abbrev pub Passed : List Check → Type 0
Passed = Each (λ (c : Check). c.applies ≡ false)

pub none_passed : (cs : List Check) → first_of cs ≡ none → Passed cs
none_passed = find_none (λ (c : Check). c.applies)

-- two parts joined
pub passed_both : (cs ds : List Check) → Passed (cs ++ ds) → Passed cs × Passed ds
passed_both cs ds h = (each_left (λ (c : Check). c.applies ≡ false) cs ds h, each_right (λ (c : Check). c.applies ≡ false) cs ds h)

-- whether the check of this number applies, the first that has it; computed where the list is known
abbrev pub applies_by : ℕ → List Check → Bool
applies_by n [] = false
applies_by n (c ∷ cs) =
    let rest = applies_by n cs in
    cond (eqb c.number n) c.applies rest

passed : (n : ℕ) (cs : List Check) → Passed cs → applies_by n cs ≡ false
passed n [] h = refl
passed n (c ∷ cs) h = cond_both (λ b. b ≡ false) (eqb c.number n) c.applies (applies_by n cs) h.0 (passed n cs h.1)

-- ---- what each part leaves
pub sheet_passed : (n : ℕ) → Passed (sheet_checks n) → n / record_length ≤ most_records
sheet_passed n h = ltb-false most_records (n / record_length) (passed too_many_records (sheet_checks n) h)

flags_passed : (flags : ℕ) → Passed (flag_checks flags) → flags ≤ most_flags
flags_passed flags h = ltb-false most_flags flags (passed unknown_flag (flag_checks flags) h)

trays_passed : (lent : Lengths) → Passed (tray_checks lent) → LongEnough lent
unfolding is_short
trays_passed lent h =
    let long = passed tray_too_short (tray_checks lent) h in
    let rest = or_right (ltb lent.nodes node_tray_length) _ long in
    record {
      nodes = omega (arith, ltb-false lent.nodes node_tray_length (or_left (ltb lent.nodes node_tray_length) _ long));
      formulas = omega (arith, ltb-false lent.formulas formula_tray_length (or_left (ltb lent.formulas formula_tray_length) _ rest));
      edges = omega (arith, ltb-false lent.edges edge_tray_length (or_right (ltb lent.formulas formula_tray_length) _ rest));
    }

any_false : {A : Type 0} (p : A → Bool) (xs : List A) → any p xs ≡ false → Each (λ x. p x ≡ false) xs
any_false p [] e = tt
any_false p (x ∷ xs) e = (or_left (p x) (any p xs) e, any_false p xs (or_right (p x) (any p xs) e))

-- record i has a kind, a mark and links to earlier records
pub record Proper (i : ℕ) (r : Rec) : Type 0 where
  pub kind : number_of r.kind ≤ 8
  pub mark : r.mark ≤ 1
  pub links : Each (λ l. l < i) (links r)

module _ (i size : ℕ) (r : Rec) (h : Passed (checks_of_record i size r)) where
  record_passed : (n : ℕ) → applies_by n (checks_of_record i size r) ≡ false
  record_passed n = passed n (checks_of_record i size r) h

  proper : Proper i r
  proper =
      record {
        kind = ltb-false 8 (number_of r.kind) (record_passed unknown_kind);
        mark = ltb-false 1 r.mark (or_left (ltb 1 r.mark) (non_zero_field r) (record_passed bad_mark_or_field));
        links = each_map (λ l (e : leb i l ≡ false). leb-false i l e) (links r) (any_false (leb i) (links r) (record_passed forward_link));
      }

  pub small : size ≤ most_size
  small = ltb-false most_size size (record_passed formula_too_large)

records_passed : (rs : List Rec) (sizes : List ℕ) → Passed (record_checks sizes rs) → (j : ℕ) → j < length rs → Proper (length sizes + j) (rec_at rs j)
unfolding record_checks rec_at
records_passed [] sizes h j k = absurd (omega arith)
records_passed (r ∷ rs) sizes h zero k =
    let size = expanded_size sizes r in
    let (here, later) = passed_both (checks_of_record (length sizes) size r) (record_checks (sizes ++ (size ∷ [])) rs) h in
    rw add-zero (proper (length sizes) size r here)
records_passed (r ∷ rs) sizes h (suc j) k =
    let size = expanded_size sizes r in
    let (here, later) = passed_both (checks_of_record (length sizes) size r) (record_checks (sizes ++ (size ∷ [])) rs) h in
    subst (λ (m : ℕ). Proper m (rec_at rs j)) (omega (arith, length-append sizes (size ∷ []))) (records_passed rs (sizes ++ (size ∷ [])) later j (omega arith))

module _ (rs : List Rec) (h : Passed (mark_checks rs)) where
  some_marked : empty (marks rs) ≡ false
  some_marked = passed no_marked_record (mark_checks rs) h

  few_marked_lem : length (marks rs) ≤ most_marked
  few_marked_lem = ltb-false most_marked (length (marks rs)) (passed too_many_marked (mark_checks rs) h)

pub length_decode : (bytes : List ℕ) → length (decode bytes) ≡ length bytes / record_length
unfolding decode
length_decode bytes = length-map (below (length bytes / record_length)) (record_at bytes) ∙ length_from (length bytes / record_length) 0

-- ---- the whole
pub record Accepted (bytes : List ℕ) (flags : ℕ) (lent : Lengths) : Type 0 where
  pub few : length (decode bytes) ≤ most_records
  pub flagged : flags ≤ most_flags
  pub trays : LongEnough lent
  pub records : (i : ℕ) → i < length (decode bytes) → Proper i (rec_at (decode bytes) i)
  pub marked : empty (marks (decode bytes)) ≡ false
  pub few_marked : length (marks (decode bytes)) ≤ most_marked

pub accepted : (bytes : List ℕ) (flags : ℕ) (lent : Lengths) → refused bytes flags lent ≡ none → Accepted bytes flags lent
unfolding refused checks
accepted bytes flags lent e =
    let rs = decode bytes in
    let ofRecords = record_checks [] rs ++ mark_checks rs in
    let (sheet, h) = passed_both (sheet_checks (length bytes)) (flag_checks flags ++ (tray_checks lent ++ ofRecords)) (none_passed (checks bytes flags lent) e) in
    let (flag, k) = passed_both (flag_checks flags) (tray_checks lent ++ ofRecords) h in
    let (tray, l) = passed_both (tray_checks lent) ofRecords k in
    let (each, mark) = passed_both (record_checks [] rs) (mark_checks rs) l in
    record {
      few = omega (arith, length_decode bytes, sheet_passed (length bytes) sheet);
      flagged = flags_passed flags flag;
      trays = trays_passed lent tray;
      records = λ i b. subst (λ (m : ℕ). Proper m (rec_at rs i)) (omega arith) (records_passed rs [] each i b);
      marked = some_marked rs mark;
      few_marked = few_marked_lem rs mark;
    }

-- ---- of the lengths only "short tray" knows: all trays that are long enough are refused alike
long_passes : (lent : Lengths) → LongEnough lent → is_short lent ≡ false
unfolding is_short
long_passes lent h =
    let nodes = le-ltb lent.nodes node_tray_length (omega (arith, h.nodes)) in
    let formulas = le-ltb lent.formulas formula_tray_length (omega (arith, h.formulas)) in
    let edges = le-ltb lent.edges edge_tray_length (omega (arith, h.edges)) in
    rw (nodes, formulas, edges) refl

pub long_alike : (bytes : List ℕ) (flags : ℕ) (a b : Lengths) → LongEnough a → LongEnough b → refused bytes flags a ≡ refused bytes flags b
unfolding refused checks
long_alike bytes flags a b h k = rw (long_passes a h, long_passes b k) refl

-- ---- the checks before the run have the numbers before that of "full"
abbrev Earlier : Check → Type 0
Earlier c = c.number < too_many_identifiers

-- computed where the list is known
earlier : (cs : List Check) → all (λ (c : Check). ltb c.number too_many_identifiers) cs ≡ true → Each Earlier cs
earlier cs e =
    each_map (λ (c : Check) (h : ltb c.number too_many_identifiers ≡ true). ltb-true c.number too_many_identifiers h) cs
    (all_each (λ (c : Check). ltb c.number too_many_identifiers) cs e)

records_earlier : (sizes : List ℕ) (rs : List Rec) → Each Earlier (record_checks sizes rs)
unfolding record_checks
records_earlier sizes [] = tt
records_earlier sizes (r ∷ rs) =
    let size = expanded_size sizes r in
    each_append Earlier (checks_of_record (length sizes) size r) (record_checks (sizes ++ (size ∷ [])) rs) (earlier (checks_of_record (length sizes) size r) refl) (records_earlier (sizes ++ (size ∷ [])) rs)

pub refused_earlier : (bytes : List ℕ) (flags : ℕ) (lent : Lengths) (c : Check) → refused bytes flags lent ≡ some c → c.number < too_many_identifiers
unfolding refused checks
refused_earlier bytes flags lent =
    let rs = decode bytes in
    let before = sheet_checks (length bytes) ++ (flag_checks flags ++ tray_checks lent) in
    find_each Earlier (λ (d : Check). d.applies) (checks bytes flags lent)
    (each_append Earlier before (record_checks [] rs ++ mark_checks rs) (earlier before refl)
    (each_append Earlier (record_checks [] rs) (mark_checks rs) (records_earlier [] rs) (earlier (mark_checks rs) refl)))
