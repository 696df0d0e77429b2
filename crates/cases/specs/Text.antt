-- The text T of a run, and its digest (docs/ORACLE.md).
use Rattle.std.specs.Prelude.{ℕ, zero, suc, ◌+◌, ◌*◌, ◌/◌, ◌%◌, ◌^◌, min, ◌≡◌, Bool, cond, ◌||◌, List, [], ◌∷◌, ◌++◌, eqb, leb, ltb, length, get_or}
use Rattle.definition.specs.Limits.{record_length, most_identifiers, node_length, most_formulas, edge_tray_length}
use Rattle.definition.specs.Lists.{below, concat_map}
use Rattle.slices.specs.Text.{decimal_of, line_of_words}
use Rattle.cases.specs.Bytes.{two_at}
use Rattle.cases.specs.declared.digest.Digest.{Digest}

-- ---- the digest
-- h = (h * 257 + b) mod M for each byte b, for both M
unfoldable pub fed : Digest → List ℕ → Digest
fed d [] = d
fed d (b ∷ bs) = fed (record { first = (d.first * 257 + b) % 2147483647; second = (d.second * 257 + b) % 2147483629 }) bs

unfoldable pub digest_of : List ℕ → Digest
digest_of = fed (record { first = 0; second = 0 })

-- ---- numbers
-- `-` for none
unfoldable pub number_or_none : ℕ → List ℕ
number_or_none n = cond (eqb n 65535) (45 ∷ []) (decimal_of n)

-- ---- formulas
-- N C D I B S P L for the kinds 1 to 8
unfoldable pub letter_of : ℕ → ℕ
letter_of kind = get_or (63 ∷ 78 ∷ 67 ∷ 68 ∷ 73 ∷ 66 ∷ 83 ∷ 80 ∷ 76 ∷ []) kind 63

-- all kinds but And, Or, Imply, BiImply, StrictImply
unfoldable pub has_one : ℕ → Bool
has_one kind = ltb kind 2 || ltb 6 kind

-- A<n>, or the letter
unfoldable pub name_of : ℕ → ℕ → List ℕ
name_of kind left = cond (eqb kind 0) (65 ∷ decimal_of left) (letter_of kind ∷ [])

-- the rest of a record's text, from a link on; `?` if the link is not to an earlier record
unfoldable pub linked : ℕ → ℕ → List ℕ → List ℕ
linked f link rest = cond (ltb link f) rest (63 ∷ [])

-- the record of formula f, where the texts of the earlier formulas are given: A<n>, N(p) or C(p,q)
unfoldable pub record_by : (ℕ → List ℕ) → ℕ → ℕ → ℕ → ℕ → List ℕ
record_by text f kind left right =
    name_of kind left
    ++ cond (eqb kind 0) []
    (linked f left (40 ∷ (text left ++ cond (has_one kind) (41 ∷ []) (linked f right (44 ∷ (text right ++ (41 ∷ [])))))))

-- kind and links in the record of formula f
pub record LinksAt (tray : List ℕ) (f kind left right : ℕ) : Type 0 where
  pub kind_at : kind ≡ get_or tray (record_length * f) 0
  pub left_at : left ≡ two_at tray (record_length * f + 2)
  pub right_at : right ≡ two_at tray (record_length * f + 4)

-- `?` if there is no such record; the first argument bounds the depth, which is at most f since links go down
unfoldable pub formula_within : ℕ → List ℕ → ℕ → List ℕ
formula_within zero tray f = 63 ∷ []
formula_within (suc k) tray f =
    cond (leb most_formulas f) (63 ∷ [])
    (record_by (formula_within k tray) f (get_or tray (record_length * f) 0) (two_at tray (record_length * f + 2)) (two_at tray (record_length * f + 4)))

unfoldable pub formula_text : List ℕ → ℕ → List ℕ
formula_text tray f = formula_within (suc f) tray f

-- `#` for a comment
unfoldable pub formula_or_comment : List ℕ → ℕ → List ℕ
formula_or_comment tray f = cond (eqb f 65535) (35 ∷ []) (formula_text tray f)

-- ---- nodes
-- PARENT PLACE WORLD FORMULA SPAWNER CONTRARIAN of the record at a position; nothing beyond the tray
unfoldable pub node_line : List ℕ → List ℕ → ℕ → List ℕ
node_line nodes formulas at =
    cond (leb (length nodes) at) []
    (line_of_words (number_or_none (two_at nodes at)) (
    decimal_of (get_or nodes (at + 2) 0) ∷ decimal_of (get_or nodes (at + 3) 0) ∷ formula_or_comment formulas (two_at nodes (at + 4))
    ∷ number_or_none (two_at nodes (at + 6)) ∷ number_or_none (two_at nodes (at + 8)) ∷ []))

unfoldable pub node_lines : List ℕ → List ℕ → ℕ → List ℕ
node_lines nodes formulas identifiers = concat_map (λ i. node_line nodes formulas (node_length * i)) (below (min identifiers most_identifiers))

-- ---- edges
-- FROM>TO, if the lowest bit is set
unfoldable pub edge_line : ℕ → ℕ → ℕ → List ℕ
edge_line u v bits = cond (eqb (bits % 2) 1) (decimal_of u ++ (62 ∷ (decimal_of v ++ (10 ∷ [])))) []

-- bit v of the number says that u reaches v
unfoldable pub edges_from : ℕ → ℕ → List ℕ
edges_from u bits = concat_map (λ v. edge_line u v (bits / 2 ^ v)) (below 32)

unfoldable pub edge_lines : List ℕ → List ℕ
edge_lines edges = concat_map (λ u. edges_from u (get_or edges u 0)) (below (min edge_tray_length (length edges)))

unfoldable pub text_of : List ℕ → List ℕ → List ℕ → ℕ → List ℕ
text_of nodes formulas edges identifiers = node_lines nodes formulas identifiers ++ edge_lines edges
