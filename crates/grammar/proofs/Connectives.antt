-- The records of a formula by its outermost connective: the kind of a sign and of a joint, one induction over all formulas, and a formula's own record.
use mathlib.Core.Path.{◌≡◌, refl, sym, ap, subst, ◌∙◌}
use mathlib.Core.Bool.{cond}
use mathlib.Core.List.{List, [], ◌∷◌, ◌++◌}
use Prim.Native.Nat.{ℕ, ◌+◌, ◌-◌, ◌≤◌, ◌<◌}
use native.Mathlib.Omega.{arith}
use lib.Dec.{ltb}
use lib.ListN.{length, length-append}
use borrow.Author.Tests.{lt-ltb, le-ltb}
use Rattle.definition.specs.Lists.{Each}
use Rattle.definition.specs.Records.{Kind, Atomic, Non, And, Or, Imply, BiImply, StrictImply, Possible, Necessary, kind_of, number_of, Rec}
use Rattle.definition.specs.Formula.{Form, atom, non, and, or, imply, bi_imply, strict_imply, possible, necessary, form_by}
use Rattle.definition.proofs.Basics.Lists.{each_append}
use Rattle.grammar.specs.Tokens.{Sign, Tilde, Box, Diamond, Joint, Ampersand, Bar, Arrow, Double, Both, signed, joined, level, loosest, Side, leftward, rightward, side}
use Rattle.grammar.specs.Lines.{rec, over, between, records_of}

unfoldable pub sign_of : Sign → Kind
sign_of Tilde = Non
sign_of Box = Necessary
sign_of Diamond = Possible

pub sign_records : (s : Sign) (p : Form) (m n : ℕ) → records_of (signed s p) m n ≡ over (sign_of s) (records_of p 0) m n
unfolding records_of signed sign_of
sign_records Tilde p m n = refl
sign_records Box p m n = refl
sign_records Diamond p m n = refl

unfoldable pub joint_of : Joint → Kind
joint_of Ampersand = And
joint_of Bar = Or
joint_of Arrow = Imply
joint_of Double = StrictImply
joint_of Both = BiImply

pub joint_records : (j : Joint) (p q : Form) (m n : ℕ) → records_of (joined j p q) m n ≡ between (joint_of j) (records_of p 0) (records_of q 0) m n
unfolding records_of joined joint_of
joint_records Ampersand p q m n = refl
joint_records Bar p q m n = refl
joint_records Arrow p q m n = refl
joint_records Double p q m n = refl
joint_records Both p q m n = refl

-- joints of one level group to one side
abbrev side_of : ℕ → Side
side_of n = cond (ltb n 3) leftward rightward

side_of_lem : (j : Joint) → side j ≡ side_of (level j)
unfolding side level
side_of_lem Ampersand = refl
side_of_lem Bar = refl
side_of_lem Arrow = refl
side_of_lem Double = refl
side_of_lem Both = refl

pub side_left : (j : Joint) → level j ≤ 2 → side j ≡ leftward
side_left j h = side_of_lem j ∙ rw (lt-ltb (level j) 3 (omega arith))

pub side_right : (j : Joint) → 2 < level j → side j ≡ rightward
side_right j h = side_of_lem j ∙ rw (le-ltb (level j) 3 (omega arith))

pub one_side : (i j : Joint) (n : ℕ) → level i ≡ n → level j ≡ n → side i ≡ leftward → side j ≡ rightward → ⊥
one_side i j n p q a b =
    let e : leftward ≡ rightward = sym a ∙ side_of_lem i ∙ ap side_of (p ∙ sym q) ∙ sym (side_of_lem j) ∙ b in
    let z : ◌≡◌ {A = ℕ} 0 1 = cc in
    omega arith

-- the levels of joints
pub level_between : (j : Joint) → (1 ≤ level j) × (level j ≤ loosest)
unfolding level
level_between Ampersand = (omega arith, omega arith)
level_between Bar = (omega arith, omega arith)
level_between Arrow = (omega arith, omega arith)
level_between Double = (omega arith, omega arith)
level_between Both = (omega arith, omega arith)

-- q is the kind k over p: its records, what they say, and that the kind is one of the table's
pub record Over (k : Kind) (p q : Form) : Type 0 where
  pub known : kind_of (number_of k) ≡ k
  pub records : (m n : ℕ) → records_of q m n ≡ over k (records_of p 0) m n
  pub says : (a : ℕ) (y : Form) → form_by k a p y ≡ q

-- q is the kind k between p and r
pub record Between (k : Kind) (p r q : Form) : Type 0 where
  pub known : kind_of (number_of k) ≡ k
  pub records : (m n : ℕ) → records_of q m n ≡ between k (records_of p 0) (records_of r 0) m n
  pub says : (a : ℕ) → form_by k a p r ≡ q

-- what holds of atoms, and of each formula if of its parts, holds of all
module _ (P : Form → Type 0) (of-atom : (a : ℕ) → P (atom a)) (of-over : (k : Kind) (p q : Form) → Over k p q → P p → P q)
    (of-between : (k : Kind) (p r q : Form) → Between k p r q → P p → P r → P q) where
  pub by_kinds : (q : Form) → P q
  unfolding kind_of number_of records_of form_by
  by_kinds (atom a) = of-atom a
  by_kinds (non p) = of-over Non p (non p) (record { known = refl; records = λ m n. refl; says = λ a y. refl }) (by_kinds p)
  by_kinds (and p r) = of-between And p r (and p r) (record { known = refl; records = λ m n. refl; says = λ a. refl }) (by_kinds p) (by_kinds r)
  by_kinds (or p r) = of-between Or p r (or p r) (record { known = refl; records = λ m n. refl; says = λ a. refl }) (by_kinds p) (by_kinds r)
  by_kinds (imply p r) = of-between Imply p r (imply p r) (record { known = refl; records = λ m n. refl; says = λ a. refl }) (by_kinds p) (by_kinds r)
  by_kinds (bi_imply p r) = of-between BiImply p r (bi_imply p r) (record { known = refl; records = λ m n. refl; says = λ a. refl }) (by_kinds p) (by_kinds r)
  by_kinds (strict_imply p r) = of-between StrictImply p r (strict_imply p r) (record { known = refl; records = λ m n. refl; says = λ a. refl }) (by_kinds p) (by_kinds r)
  by_kinds (possible p) = of-over Possible p (possible p) (record { known = refl; records = λ m n. refl; says = λ a y. refl }) (by_kinds p)
  by_kinds (necessary p) = of-over Necessary p (necessary p) (record { known = refl; records = λ m n. refl; says = λ a y. refl }) (by_kinds p)

-- a formula's own record is its last, and it alone has the mark
pub record Own (p : Form) (n : ℕ) : Type 0 where
  pub below : List Rec
  pub kind : Kind
  pub left : ℕ
  pub right : ℕ
  pub is : (m : ℕ) → records_of p m n ≡ below ++ (rec m kind left right ∷ [])

pub own : (p : Form) (n : ℕ) → Own p n
unfolding records_of
own =
    by_kinds (λ p. (n : ℕ) → Own p n) (λ a n. record { below = []; kind = Atomic; left = a; right = 0; is = λ m. refl })
    (λ k p q x h n. record { below = records_of p 0 n; kind = k; left = n + length (records_of p 0 n) - 1; right = 0; is = λ m. x.records m n })
    (λ k p r q x h g n. let middle = n + length (records_of p 0 n) in
    record { below = records_of p 0 n ++ records_of r 0 middle; kind = k; left = middle - 1; right = middle + length (records_of r 0 middle) - 1; is = λ m. x.records m n })

-- the mark changes no count
pub length_marked : (p : Form) (m n : ℕ) → length (records_of p m n) ≡ length (records_of p 0 n)
length_marked p m n =
    let s = own p n in
    omega (arith, ap length (s.is m), ap length (s.is 0), length-append s.below (rec m s.kind s.left s.right ∷ []), length-append s.below (rec 0 s.kind s.left s.right ∷ []))

-- a record of one of the table's kinds
abbrev pub Known : Rec → Type 0
Known r = kind_of (number_of r.kind) ≡ r.kind

-- the records of a formula without a mark
abbrev pub Plain : Rec → Type 0
Plain r = Known r × (r.mark ≡ 0)

pub all_plain : (p : Form) (n : ℕ) → Each Plain (records_of p 0 n)
unfolding kind_of number_of records_of
all_plain =
    by_kinds (λ p. (n : ℕ) → Each Plain (records_of p 0 n)) (λ a n. ((refl, refl), tt))
    (λ k p q x h n. subst (Each Plain) (sym (x.records 0 n)) (each_append Plain (records_of p 0 n) _ (h n) ((x.known, refl), tt)))
    (λ k p r q x h g n. let middle = n + length (records_of p 0 n) in
    subst (Each Plain) (sym (x.records 0 n)) (each_append Plain (records_of p 0 n ++ records_of r 0 middle) _ (each_append Plain (records_of p 0 n) (records_of r 0 middle) (h n) (g middle)) ((x.known, refl), tt)))
