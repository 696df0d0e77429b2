-- What differs between a line and what the call answers and leaves.
use Rattle.std.specs.Prelude.{Bool, true, false, cond, ◌&&◌, List, ℕ, Option, Some, None, Result, Ok, Err, ◌+◌, min, eqb, leb, ltb, length, get_or, drop, replicate}
use Rattle.std.specs.Option.{option_eq}
use Rattle.definition.specs.Limits.{node_tray_length, formula_tray_length, edge_tray_length}
use Rattle.definition.specs.RefusalNumbers.{too_many_identifiers}
use Rattle.definition.specs.Trays.{Trays}
use Rattle.definition.specs.Call.{Answer, refusal, verdict, answer, trays_left}
use Rattle.cases.specs.Bytes.{start_of, end_of, number_of, hex_after, written, decoded}
use Rattle.cases.specs.Lent.{nodes_agree, formulas_agree, edges_agree, are_zero}
use Rattle.cases.specs.Text.{digest_of, text_of}
use Rattle.cases.specs.declared.compare.Difference.{Difference}
use Rattle.cases.specs.declared.compare.Difference.TheVariants as D
use Rattle.cases.specs.declared.compare.Expected.{Expected}
use Rattle.cases.specs.declared.digest.Digest.{Digest}

-- nothing differs, or what does
abbrev pub Compared : Type 0
Compared = Result Unit Difference

abbrev pub agrees : Compared
agrees = Ok tt

-- ---- the line
-- the branch, word 1: at most 2,048 bytes
unfoldable pub branch_of : List ℕ → List ℕ
branch_of line = let from = start_of line 1 in decoded line from (min 2048 (written line from (end_of line from)))

-- the two numbers of a digest
unfoldable pub digest_in : Option ℕ → Option ℕ → Option Digest
digest_in None second = None
digest_in (Some first) None = None
digest_in (Some first) (Some second) = Some (record { first = first; second = second })

-- the first letter of word 2, the counts, words 3 to 5, and the two numbers of the digest, word 6; nothing of a line with fewer words
unfoldable pub expected_of : List ℕ → Expected
expected_of line =
    let at = start_of line 6 in
    cond (leb (length line) at)
    (record { letter = None; identifiers = None; worlds = None; steps = None; digest = None })
    (record {
      letter = Some (get_or line (start_of line 2) 0);
      identifiers = number_of line 3;
      worlds = number_of line 4;
      steps = number_of line 5;
      digest = digest_in (hex_after 8 0 (drop at line)) (hex_after 8 0 (drop (at + 8) line));
    })

-- ---- a verdict
abbrev pub same_digest : Digest → Digest → Bool
same_digest d e = eqb d.first e.first && eqb d.second e.second

-- p, l, o: the first letter of what is proved, late or open; none of what would be both
unfoldable pub verdict_letter : Bool → Bool → Option ℕ
verdict_letter true true = None
verdict_letter true false = Some 112
verdict_letter false true = Some 108
verdict_letter false false = Some 111

unfoldable pub counts_differ : Expected → ℕ → ℕ → ℕ → Compared
counts_differ e identifiers worlds steps =
    cond (option_eq eqb e.identifiers (Some identifiers)) (cond (option_eq eqb e.worlds (Some worlds)) (cond (option_eq eqb e.steps (Some steps)) agrees (Err D.Steps)) (Err D.Worlds)) (Err D.Identifiers)

unfoldable pub digest_differs : Expected → ℕ → Trays → Compared
digest_differs e identifiers t = cond (option_eq same_digest e.digest (Some (digest_of (text_of t.nodes t.formulas t.edges identifiers)))) agrees (Err D.Digest)

-- the bytes that no digest sees, then the digest
unfoldable pub trays_differ : Expected → List ℕ → ℕ → ℕ → ℕ → Trays → Compared
trays_differ e branch identifiers formulas worlds t =
    cond (nodes_agree t.nodes identifiers && (formulas_agree t.formulas branch formulas && edges_agree t.edges worlds)) (digest_differs e identifiers t) (Err D.Trays)

-- the letter, then the counts
unfoldable pub verdict_differs : Expected → Bool → Bool → ℕ → ℕ → ℕ → Compared
verdict_differs e proved late identifiers worlds steps =
    cond (option_eq eqb e.letter (verdict_letter proved late)) (counts_differ e identifiers worlds steps) (Err D.Verdict)

-- the second where nothing differs in the first
unfoldable pub or_else : Compared → Compared → Compared
or_else (Ok u) c = c
or_else (Err d) c = Err d

-- ---- a refusal
-- f: the run was full, and the trays are zeros
unfoldable pub full_differs : Expected → ℕ → Trays → Compared
full_differs e number t =
    cond (option_eq eqb e.letter (Some 102) && eqb number too_many_identifiers) (cond (are_zero t.nodes t.formulas t.edges) agrees (Err D.Trays)) (Err D.Verdict)

-- ---- the call
unfoldable pub answer_differs : Expected → List ℕ → Answer → Trays → Compared
answer_differs e branch (refusal number place) t = full_differs e number t
answer_differs e branch (verdict v) t =
    or_else
    (verdict_differs e v.proved v.late v.identifiers v.worlds v.steps)
    (trays_differ e branch v.identifiers v.formulas v.worlds t)

-- so many bytes are lent beyond a tray, and one number beyond the edges
abbrev pub margin : ℕ
margin = 6

-- longer than asked, and every bit of them is 1
unfoldable pub lent_trays : Trays
lent_trays = record { nodes = replicate (node_tray_length + margin) 255; formulas = replicate (formula_tray_length + margin) 255; edges = replicate (edge_tray_length + 1) 4294967295 }

unfoldable pub call_differs : Expected → List ℕ → ℕ → Compared
call_differs e branch flags = answer_differs e branch (answer branch flags lent_trays) (trays_left branch flags lent_trays)

-- the call with flags that are there and below 256
unfoldable pub flagged_differs : Option ℕ → Expected → List ℕ → Compared
flagged_differs None e branch = Err D.Form
flagged_differs (Some flags) e branch = cond (ltb 255 flags) (Err D.Form) (call_differs e branch flags)

-- the flags are word 0
unfoldable pub difference_of : List ℕ → Compared
difference_of line = flagged_differs (number_of line 0) (expected_of line) (branch_of line)
