-- A formula's text by the links of its record.
use Prim.Native.Nat.{ℕ, zero, suc, ◌≤◌, ◌<◌}
use mathlib.Core.Path.{◌≡◌, refl, sym, ap, ◌∙◌}
use mathlib.Core.Bool.{Bool, true, false, cond}
use mathlib.Core.List.{List, [], ◌∷◌, ◌++◌}
use native.Mathlib.Omega.{arith}
use lib.Dec.{eqb, leb, ltb}
use lib.ListN.{get_or-eq_default}
use borrow.Author.Tests.{ltb-true, le-leb, lt-leb}
use Rattle.definition.specs.Limits.{most_formulas}
use Rattle.cases.specs.Text.{letter_of, has_one, name_of, LinksAt, linked, record_by, formula_within, formula_text}

-- ---- kinds
-- none of the kinds 0 to 8
pub no_letter : (kind : ℕ) → 9 ≤ kind → 63 ≡ letter_of kind
unfolding letter_of
no_letter kind above = sym (get_or-eq_default (63 ∷ 78 ∷ 67 ∷ 68 ∷ 73 ∷ 66 ∷ 83 ∷ 80 ∷ 76 ∷ []) 63 {n = kind} above)

-- ---- the depth
linked_same : (f link : ℕ) (xs ys : List ℕ) → (link < f → xs ≡ ys) → linked f link xs ≡ linked f link ys
unfolding linked
linked_same f link xs ys e = go (ltb link f) (λ q. e (ltb-true link f q))
  where
    go : (b : Bool) → (b ≡ true → xs ≡ ys) → cond b xs (63 ∷ []) ≡ cond b ys (63 ∷ [])
    go true g = g refl
    go false g = refl

record_same : (s t : ℕ → List ℕ) (f kind left right : ℕ) → ((g : ℕ) → g < f → s g ≡ t g) → record_by s f kind left right ≡ record_by t f kind left right
unfolding record_by
record_same s t f kind left right e =
    ap (λ (x : List ℕ). name_of kind left ++ cond (eqb kind 0) [] x)
    (linked_same f left _ _ (λ h.
    ap (λ (x : List ℕ). 40 ∷ (x ++ cond (has_one kind) (41 ∷ []) (linked f right (44 ∷ (s right ++ (41 ∷ [])))))) (e left h)
    ∙ ap (λ (x : List ℕ). 40 ∷ (t left ++ cond (has_one kind) (41 ∷ []) x))
    (linked_same f right _ _ (λ g. ap (λ (x : List ℕ). 44 ∷ (x ++ (41 ∷ []))) (e right g)))))

within_more : (k j : ℕ) (tray : List ℕ) (f : ℕ) → f < k → f < j → formula_within k tray f ≡ formula_within j tray f
unfolding formula_within
within_more zero j tray f h g = absurd (omega arith)
within_more (suc k) zero tray f h g = absurd (omega arith)
within_more (suc k) (suc j) tray f h g =
    ap (λ (x : List ℕ). cond (leb most_formulas f) (63 ∷ []) x)
    (record_same (formula_within k tray) (formula_within j tray) f _ _ _ (λ i l. within_more k j tray i (omega arith) (omega arith)))

-- ---- the text of formula f
pub no_record : (tray : List ℕ) (f : ℕ) → most_formulas ≤ f → formula_text tray f ≡ 63 ∷ []
unfolding formula_text formula_within
no_record tray f h = rw (le-leb most_formulas f h)

pub text_by : (tray : List ℕ) (f : ℕ) {kind left right : ℕ} → f < most_formulas → LinksAt tray f kind left right → formula_text tray f ≡ record_by (formula_text tray) f kind left right
unfolding formula_text formula_within
text_by tray f known l =
    rw (lt-leb most_formulas f known, l.kind_at, l.left_at, l.right_at)
    (record_same (formula_within f tray) (λ g. formula_within (suc g) tray g) f _ _ _ (λ g h. within_more f (suc g) tray g h (omega arith)))
