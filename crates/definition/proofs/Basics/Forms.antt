-- The formula of a record is written from the formulas of its links, and records that are appended change no formula.
use mathlib.Core.Path.{◌≡◌, refl, sym, ap, ◌∙◌, subst}
use mathlib.Core.List.{List, [], ◌∷◌, ◌++◌, append-nil, append_assoc}
use mathlib.Core.Logic.{⊎_elim}
use Prim.Native.Nat.{ℕ, zero, suc, ◌<◌, ◌+◌, ◌-◌}
use native.Mathlib.Omega.{arith}
use native.Mathlib.Nat.{add-zero, add-suc, suc-add}
use lib.Dec.{ltb}
use borrow.Author.Tests.{ltb-true, ltb-false}
use lib.ListN.{length, get_or, take, drop, length-append, get_or-append}
use lib.Seq.{get_or_at, get_or-append-add, length-take-le, split_at}
use Rattle.definition.specs.Lists.{Each}
use Rattle.definition.specs.Records.{Kind, Atomic, Non, And, Or, Imply, BiImply, StrictImply, Possible, Necessary, Unknown, Comment, Rec, number_of, arity, links, made, rec_at}
use Rattle.definition.specs.Formula.{Form, atom, form_by, written, forms_after, forms, form_at}
use Rattle.definition.proofs.Basics.Lists.{either, each_map}

-- the links of a record are below i
abbrev pub Linked : ℕ → Rec → Type 0
Linked i r = Each (λ l. l < i) (links r)

abbrev pub WellFormed : List Rec → Type 0
WellFormed rs = (i : ℕ) → i < length rs → Linked i (rec_at rs i)

-- the formulas that are there stay in front, and each record adds one
after : (rs : List Rec) (fs : List Form) → (gs : List Form) × (forms_after fs rs ≡ fs ++ gs) × (length gs ≡ length rs)
unfolding forms_after
after [] fs = ([], sym (append-nil fs), refl)
after (r ∷ rs) fs =
    let k = after rs (fs ++ (written fs r ∷ [])) in
    (written fs r ∷ k.0, k.1 ∙ append_assoc fs (written fs r ∷ []) k.0, ap suc k.2)

length_forms : (rs : List Rec) → length (forms rs) ≡ length rs
length_forms rs = ap length (after rs []).1 ∙ (after rs []).2

after_append : (rs more : List Rec) (fs : List Form) → forms_after fs (rs ++ more) ≡ forms_after (forms_after fs rs) more
unfolding forms_after
after_append [] more fs = refl
after_append (r ∷ rs) more fs = after_append rs more (fs ++ (written fs r ∷ []))

-- appended records change no formula
pub form_append : (rs more : List Rec) (i : ℕ) → i < length rs → form_at (rs ++ more) i ≡ form_at rs i
form_append rs more i h =
    let k = after more (forms rs) in
    rw (after_append rs more [], k.1) (get_or-append (forms rs) k.0 (atom 0) i (omega (arith, length_forms rs)))

-- the formula of the first record appended
pub made_first : (rs : List Rec) (r : Rec) (more : List Rec) → form_at (rs ++ (r ∷ more)) (length rs) ≡ written (forms rs) r
unfolding after
made_first rs r more =
    rw (after_append rs (r ∷ more) [], (after (r ∷ more) (forms rs)).1) (get_or_at (forms rs) (written (forms rs) r) _ (atom 0) (length rs) (length_forms rs))

-- a record reads only the links that its kind has
form_by_lem : (k : Kind) (a b : ℕ) (fs gs : List Form) →
    Each (λ l. get_or fs l (atom 0) ≡ get_or gs l (atom 0)) (take (arity k) (a ∷ b ∷ [])) →
    form_by k a (get_or fs a (atom 0)) (get_or fs b (atom 0)) ≡ form_by k a (get_or gs a (atom 0)) (get_or gs b (atom 0))
unfolding form_by arity number_of
form_by_lem Atomic a b fs gs h = refl
form_by_lem Non a b fs gs h = cc
form_by_lem And a b fs gs h = cc
form_by_lem Or a b fs gs h = cc
form_by_lem Imply a b fs gs h = cc
form_by_lem BiImply a b fs gs h = cc
form_by_lem StrictImply a b fs gs h = cc
form_by_lem Possible a b fs gs h = cc
form_by_lem Necessary a b fs gs h = cc
form_by_lem Unknown a b fs gs h = refl
form_by_lem Comment a b fs gs h = refl

-- the formula of a record
pub form_at_lem : (rs : List Rec) → WellFormed rs → (i : ℕ) → i < length rs → form_at rs i ≡ written (forms rs) (rec_at rs i)
unfolding written rec_at
form_at_lem rs wf i h =
    let r = rec_at rs i in
    let before = take i rs in
    let n : length before ≡ i = length-take-le i rs (omega arith) in
    let all : rs ≡ before ++ (r ∷ drop (suc i) rs) = split_at rs i (made Unknown 0 0) h in
    ap (λ (xs : List Rec). form_at xs i) all
    ∙ subst (λ (j : ℕ). form_at (before ++ (r ∷ drop (suc i) rs)) j ≡ written (forms before) r) n (made_first before r (drop (suc i) rs))
    ∙ form_by_lem r.kind r.left r.right (forms before) (forms rs)
    (each_map (λ l (k : l < i). sym (ap (λ (xs : List Rec). form_at xs l) all ∙ form_append before (r ∷ drop (suc i) rs) l (omega (arith, n)))) (links r) (wf i h))

-- P of each record and its number, counted from n
abbrev pub Numbered : (ℕ → Rec → Type 0) → ℕ → List Rec → Type 0
Numbered P n [] = Unit {0}
Numbered P n (r ∷ rs) = P n r × Numbered P (suc n) rs

pub numbered_of : (P : ℕ → Rec → Type 0) (rs : List Rec) (n : ℕ) → ((j : ℕ) → j < length rs → P (n + j) (rec_at rs j)) → Numbered P n rs
unfolding rec_at
numbered_of P [] n h = tt
numbered_of P (r ∷ rs) n h = (rw add-zero at (h 0 (omega arith)), numbered_of P rs (suc n) (λ j k. rw suc-add (rw add-suc at (h (suc j) (omega arith)))))

numbered_at : (P : ℕ → Rec → Type 0) (rs : List Rec) (n j : ℕ) → Numbered P n rs → j < length rs → P (n + j) (rec_at rs j)
unfolding rec_at
numbered_at P [] n j l h = absurd (omega arith)
numbered_at P (r ∷ rs) n zero l h = rw add-zero l.0
numbered_at P (r ∷ rs) n (suc j) l h = rw (add-suc, ← suc-add) (numbered_at P rs (suc n) j l.1 (omega arith))

-- records whose links are below their own number
pub wf_append : (more rs : List Rec) → WellFormed rs → Numbered Linked (length rs) more → WellFormed (rs ++ more)
unfolding rec_at
wf_append more rs wf l i h =
    let j = i - length rs in
    ⊎_elim (λ q. let k = ltb-true i (length rs) q in rw (get_or-append rs more (made Unknown 0 0) i k) (wf i k))
    (λ q. let e : i ≡ length rs + j = omega (arith, ltb-false i (length rs) q) in
    rw (e, get_or-append-add rs more j (made Unknown 0 0)) (numbered_at Linked more (length rs) j l (omega (arith, length-append rs more, e)))) (either (ltb i (length rs)))
