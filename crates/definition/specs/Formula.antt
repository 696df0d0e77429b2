-- "The formulas of the branch are the marked records, each written out by its links."
use Rattle.std.specs.Prelude.{List, [], ◌∷◌, ◌++◌, map, ℕ, get_or}
use Rattle.definition.specs.Records.{Kind, Atomic, Non, And, Or, Imply, BiImply, StrictImply, Possible, Necessary, Unknown, Comment, Rec, marks}

pub data Form : Type 0 where
  atom : ℕ → Form
  non : Form → Form
  and or imply bi_imply strict_imply : Form → Form → Form
  possible necessary : Form → Form

-- the formula of a kind, by its first field and what its two links say; records of no kind are refused
unfoldable pub form_by : Kind → ℕ → Form → Form → Form
form_by Atomic a p q = atom a
form_by Non a p q = non p
form_by And a p q = and p q
form_by Or a p q = or p q
form_by Imply a p q = imply p q
form_by BiImply a p q = bi_imply p q
form_by StrictImply a p q = strict_imply p q
form_by Possible a p q = possible p
form_by Necessary a p q = necessary p
form_by Unknown a p q = atom 0
form_by Comment a p q = atom 0

-- one record, by the formulas of the records before it
unfoldable pub written : List Form → Rec → Form
written fs r = form_by r.kind r.left (get_or fs r.left (atom 0)) (get_or fs r.right (atom 0))

unfoldable pub forms_after : List Form → List Rec → List Form
forms_after fs [] = fs
forms_after fs (r ∷ rs) = forms_after (fs ++ (written fs r ∷ [])) rs

abbrev pub forms : List Rec → List Form
forms = forms_after []

-- the formula of a record number
abbrev pub form_at : List Rec → ℕ → Form
form_at rs i = get_or (forms rs) i (atom 0)

-- "The formulas of the branch are the marked records, each written out by its links"
abbrev pub branch_of : List Rec → List Form
branch_of rs = map (form_at rs) (marks rs)
