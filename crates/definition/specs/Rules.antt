-- "Rules": Priest's table on formulas, and the rule chosen on records.
use Rattle.std.specs.Prelude.{List, [], ◌∷◌, map, ℕ, suc, length}
use Rattle.definition.specs.Records.{Kind, Atomic, Non, And, Or, Imply, BiImply, StrictImply, Possible, Necessary, Unknown, Comment, Rec, made, rec_at, formula_of}
use Rattle.definition.specs.Formula.{Form, atom, non, and, or, imply, bi_imply, strict_imply, possible, necessary}

-- what a rule puts on the paths through its node: nothing; formulas at this world, one below the other; a left and a right chain of them;
-- a formula at a new world that this one reaches; a formula at every world that this one reaches
pub data Rule (A : Type 0) : Type 0 where
  nothing : Rule A
  down : List A → Rule A
  split : List A → List A → Rule A
  as_possible : A → Rule A
  as_necessary : A → Rule A

-- Priest, An Introduction to Non-Classical Logic: the rules of denied formulas (1.4, 2.4; strict implication as Necessary of Imply, 4.5)
unfoldable pub priest_non : Form → Rule Form
priest_non (atom a) = nothing
priest_non (non p) = down (p ∷ [])
priest_non (and p q) = split (non p ∷ []) (non q ∷ [])
priest_non (or p q) = down (non p ∷ non q ∷ [])
priest_non (imply p q) = down (p ∷ non q ∷ [])
priest_non (bi_imply p q) = split (p ∷ non q ∷ []) (non p ∷ q ∷ [])
priest_non (strict_imply p q) = as_possible (non (imply p q))
priest_non (possible p) = down (necessary (non p) ∷ [])
priest_non (necessary p) = down (possible (non p) ∷ [])

-- and the rules of formulas that are said
unfoldable pub priest : Form → Rule Form
priest (atom a) = nothing
priest (non p) = priest_non p
priest (and p q) = down (p ∷ q ∷ [])
priest (or p q) = split (p ∷ []) (q ∷ [])
priest (imply p q) = split (non p ∷ []) (q ∷ [])
priest (bi_imply p q) = split (p ∷ q ∷ []) (non p ∷ non q ∷ [])
priest (strict_imply p q) = as_necessary (imply p q)
priest (possible p) = as_possible p
priest (necessary p) = as_necessary p

-- a rule on record numbers, with the records that it makes, "in the order the rules build them"
pub record Expansion : Type 0 where
  pub made : List Rec
  pub rule : Rule ℕ

abbrev pub makes : List Rec → Rule ℕ → Expansion
makes more r = record { made = more; rule = r }

-- Non of a record of this kind with the fields p and q; m is the number of the next record made
unfoldable pub non_expansion : Kind → ℕ → ℕ → ℕ → Expansion
non_expansion Atomic m p q = makes [] nothing
non_expansion Non m p q = makes [] (down (p ∷ []))
non_expansion And m p q = makes (made Non p 0 ∷ made Non q 0 ∷ []) (split (m ∷ []) (suc m ∷ []))
non_expansion Or m p q = makes (made Non q 0 ∷ made Non p 0 ∷ []) (down (suc m ∷ m ∷ []))
non_expansion Imply m p q = makes (made Non q 0 ∷ []) (down (p ∷ m ∷ []))
non_expansion BiImply m p q = makes (made Non q 0 ∷ made Non p 0 ∷ []) (split (p ∷ m ∷ []) (suc m ∷ q ∷ []))
non_expansion StrictImply m p q = makes (made Imply p q ∷ made Non m 0 ∷ []) (as_possible (suc m))
non_expansion Possible m p q = makes (made Non p 0 ∷ made Necessary m 0 ∷ []) (down (suc m ∷ []))
non_expansion Necessary m p q = makes (made Non p 0 ∷ made Possible m 0 ∷ []) (down (suc m ∷ []))
non_expansion Unknown m p q = makes [] nothing
non_expansion Comment m p q = makes [] nothing

-- "The rule is chosen by the outer kind and, under Non, the inner kind": the inner record is that of p
unfoldable pub expansion_by : Kind → ℕ → ℕ → ℕ → Rec → Expansion
expansion_by Atomic m p q inner = makes [] nothing
expansion_by Non m p q inner = non_expansion inner.kind m inner.left inner.right
expansion_by And m p q inner = makes [] (down (p ∷ q ∷ []))
expansion_by Or m p q inner = makes [] (split (p ∷ []) (q ∷ []))
expansion_by Imply m p q inner = makes (made Non p 0 ∷ []) (split (m ∷ []) (q ∷ []))
expansion_by BiImply m p q inner = makes (made Non q 0 ∷ made Non p 0 ∷ []) (split (p ∷ q ∷ []) (suc m ∷ m ∷ []))
expansion_by StrictImply m p q inner = makes (made Imply p q ∷ []) (as_necessary m)
expansion_by Possible m p q inner = makes [] (as_possible p)
expansion_by Necessary m p q inner = makes [] (as_necessary p)
expansion_by Unknown m p q inner = makes [] nothing
expansion_by Comment m p q inner = makes [] nothing

-- the rule of a node's formula
unfoldable pub expansion : List Rec → ℕ → Expansion
expansion rs f =
    let r = formula_of rs f in
    expansion_by r.kind (length rs) r.left r.right (rec_at rs r.left)

-- a rule on record numbers, written out
unfoldable pub written_rule : (ℕ → Form) → Rule ℕ → Rule Form
written_rule form nothing = nothing
written_rule form (down fs) = down (map form fs)
written_rule form (split fs gs) = split (map form fs) (map form gs)
written_rule form (as_possible f) = as_possible (form f)
written_rule form (as_necessary f) = as_necessary (form f)
