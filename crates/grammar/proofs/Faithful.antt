-- The branch that the records of a text are is the list of its formulas.
use mathlib.Core.Path.{◌≡◌, refl, sym, ap, subst, ◌∙◌}
use mathlib.Core.Bool.{Bool, true, false, cond}
use mathlib.Core.List.{List, [], ◌∷◌, ◌++◌, map, append_assoc}
use Prim.Native.Nat.{ℕ, suc, ◌+◌, ◌-◌, ◌≤◌}
use native.Mathlib.Omega.{arith}
use lib.Dec.{eqb}
use lib.ListN.{length, length-append}
use Rattle.definition.specs.Lists.{Each}
use Rattle.definition.specs.Records.{Kind, Rec, marks_from}
use Rattle.definition.specs.Formula.{Form, form_by, written, form_at, branch_of}
use Rattle.definition.proofs.Basics.Lists.{each_left}
use Rattle.definition.proofs.Basics.Forms.{form_append, made_first}
use Rattle.grammar.specs.Lines.{rec, records_of, lines_from}
use Rattle.grammar.proofs.Connectives.{Over, Between, by_kinds, own, Plain, all_plain}

-- the number of the last of some records, which stand behind n others
abbrev last : ℕ → List Rec → ℕ
last n rs = n + length rs - 1

some_records : (p : Form) (m n : ℕ) → 1 ≤ length (records_of p m n)
some_records p m n = let s = own p n in omega (arith, ap length (s.is m), length-append s.below (rec m s.kind s.left s.right ∷ []))

-- the formula of a record behind some, by those of its links
said : (before rs : List Rec) (r : Rec) (n : ℕ) → length before ≡ n → form_at (before ++ (rs ++ (r ∷ []))) (last n (rs ++ (r ∷ []))) ≡ form_by r.kind r.left (form_at (before ++ rs) r.left) (form_at (before ++ rs) r.right)
unfolding written
said before rs r n e =
    let i : last n (rs ++ (r ∷ [])) ≡ length (before ++ rs) = omega (arith, length-append rs (r ∷ []), length-append before rs) in
    ap (λ (v : List Rec). form_at v (last n (rs ++ (r ∷ [])))) (sym (append_assoc before rs (r ∷ []))) ∙ ap (form_at ((before ++ rs) ++ (r ∷ []))) i ∙ made_first (before ++ rs) r []

-- a formula's own record says it, whatever records stand before
Says : Form → Type 0
Says p = (m n : ℕ) (before : List Rec) → length before ≡ n → form_at (before ++ records_of p m n) (last n (records_of p m n)) ≡ p

says_over : (k : Kind) (p q : Form) → Over k p q → Says p → Says q
unfolding Says
says_over k p q x h m n before e =
    let ps : List Rec = records_of p 0 n in
    let r : Rec = rec m k (last n ps) 0 in
    ap (λ (v : List Rec). form_at (before ++ v) (last n v)) (x.records m n)
    ∙ said before ps r n e
    ∙ ap (λ (y : Form). form_by k (last n ps) y (form_at (before ++ ps) 0)) (h 0 n before e)
    ∙ x.says (last n ps) (form_at (before ++ ps) 0)

says_between : (k : Kind) (p r q : Form) → Between k p r q → Says p → Says r → Says q
unfolding Says
says_between k p r q x h g m n before e =
    let ps : List Rec = records_of p 0 n in
    let middle : ℕ = n + length ps in
    let rs : List Rec = records_of r 0 middle in
    let a : ℕ = last n ps in
    let b : ℕ = last middle rs in
    let l : length (before ++ ps) ≡ middle = omega (arith, length-append before ps) in
    let y : form_at (before ++ (ps ++ rs)) a ≡ p = ap (λ (v : List Rec). form_at v a) (sym (append_assoc before ps rs)) ∙ form_append (before ++ ps) rs a (omega (arith, some_records p 0 n)) ∙ h 0 n before e in
    let z : form_at (before ++ (ps ++ rs)) b ≡ r = ap (λ (v : List Rec). form_at v b) (sym (append_assoc before ps rs)) ∙ g 0 middle (before ++ ps) l in
    ap (λ (v : List Rec). form_at (before ++ v) (last n v)) (x.records m n)
    ∙ said before (ps ++ rs) (rec m k a b) n e
    ∙ ap (λ (f : Form). form_by k a f (form_at (before ++ (ps ++ rs)) b)) y
    ∙ ap (form_by k a p) z
    ∙ x.says a

says : (p : Form) → Says p
unfolding Says records_of form_by
says = by_kinds Says (λ a m n before e. said before [] (rec m _ a 0) n e) says_over says_between

-- the marks
marks_append : (i : ℕ) (xs ys : List Rec) → marks_from i (xs ++ ys) ≡ marks_from i xs ++ marks_from (i + length xs) ys
unfolding marks_from
marks_append i [] ys = ap (λ (k : ℕ). marks_from k ys) (omega arith)
marks_append i (x ∷ xs) ys = go (eqb x.mark 1) (marks_append (suc i) xs ys ∙ ap (λ (k : ℕ). marks_from (suc i) xs ++ marks_from k ys) (omega arith))
  where
    go : (b : Bool) → marks_from (suc i) (xs ++ ys) ≡ marks_from (suc i) xs ++ marks_from (i + suc (length xs)) ys →
        cond b (i ∷ marks_from (suc i) (xs ++ ys)) (marks_from (suc i) (xs ++ ys)) ≡ cond b (i ∷ marks_from (suc i) xs) (marks_from (suc i) xs) ++ marks_from (i + suc (length xs)) ys
    go true e = ap (λ (v : List ℕ). i ∷ v) e
    go false e = e

no_marks : (rs : List Rec) → Each Plain rs → (i : ℕ) → marks_from i rs ≡ []
unfolding marks_from
no_marks [] h i = refl
no_marks (r ∷ rs) ((_, e), h) i = rw e (no_marks rs h (suc i))

one_mark : (p : Form) (n i : ℕ) → marks_from i (records_of p 1 n) ≡ last i (records_of p 1 n) ∷ []
unfolding marks_from
one_mark p n i =
    let s = own p n in
    let r : ℕ → Rec = λ m. rec m s.kind s.left s.right in
    let unmarked : marks_from i s.below ≡ [] = no_marks s.below (each_left Plain s.below (r 0 ∷ []) (subst (Each Plain) (s.is 0) (all_plain p n))) i in
    let k : i + length s.below ≡ last i (records_of p 1 n) = omega (arith, ap length (s.is 1), length-append s.below (r 1 ∷ [])) in
    ap (marks_from i) (s.is 1)
    ∙ marks_append i s.below (r 1 ∷ [])
    ∙ ap (λ (v : List ℕ). v ++ ((i + length s.below) ∷ [])) unmarked
    ∙ ap (λ (j : ℕ). j ∷ []) k

lines_say : (ps : List Form) (n : ℕ) (before : List Rec) → length before ≡ n → map (form_at (before ++ lines_from n ps)) (marks_from n (lines_from n ps)) ≡ ps
unfolding lines_from marks_from Says
lines_say [] n before e = refl
lines_say (p ∷ ps) n before e =
    let rs : List Rec = records_of p 1 n in
    let k : ℕ = n + length rs in
    let more : List Rec = lines_from k ps in
    let l : length (before ++ rs) ≡ k = omega (arith, length-append before rs) in
    let here : form_at ((before ++ rs) ++ more) (last n rs) ≡ p = form_append (before ++ rs) more (last n rs) (omega (arith, some_records p 1 n)) ∙ says p 1 n before e in
    let marked : marks_from n (rs ++ more) ≡ last n rs ∷ marks_from k more = marks_append n rs more ∙ ap (λ (v : List ℕ). v ++ marks_from k more) (one_mark p n n) in
    ap (λ (v : List Rec). map (form_at v) (marks_from n (rs ++ more))) (sym (append_assoc before rs more))
    ∙ ap (map (form_at ((before ++ rs) ++ more))) marked
    ∙ ap (λ (y : Form). y ∷ map (form_at ((before ++ rs) ++ more)) (marks_from k more)) here
    ∙ ap (λ (v : List Form). p ∷ v) (lines_say ps k (before ++ rs) l)

pub faithful : (ps : List Form) → branch_of (lines_from 0 ps) ≡ ps
faithful ps = lines_say ps 0 [] refl
