-- What is taken out of the queue: one of those that wait, where any does, and the others go on waiting.
use mathlib.Core.Path.{◌≡◌, refl, ap}
use mathlib.Core.Bool.{Bool, true, false, cond}
use mathlib.Core.List.{List, [], ◌∷◌, ◌++◌, append_assoc}
use mathlib.Core.Option.{Option, none, some}
use mathlib.Core.Logic.{◌≢◌}
use Prim.Native.Nat.{ℕ, zero, suc, ◌<◌}
use native.Mathlib.Omega.{arith}
use lib.Dec.{eqb, ltb}
use borrow.Author.Tests.{eqb-false, ltb-true}
use lib.ListN.{length, get_or, length-append}
use Rattle.definition.specs.Lists.{Each, all, empty, or_else}
use Rattle.definition.specs.Records.{Rec, Non, is, number_of, rec_at, formula_of}
use Rattle.definition.specs.Setting.{Setting}
use Rattle.definition.specs.Tree.{Node, node_at}
use Rattle.definition.specs.Queue.{class_count, classes, priorities, priorities_of_non, priority_of, get_node_priority, Popped, pop_first, pop_class, pop}
use Rattle.definition.proofs.Basics.Lists.{true_false, and_left, and_right, cond_both, each_append, each_left, each_right, each_among, among_from}

-- p was taken out of q
pub record Taken (q : List ℕ) (p : Popped) : Type 0 where
  pub before : List ℕ
  pub after : List ℕ
  pub was : q ≡ before ++ (p.node ∷ after)
  pub left : p.others ≡ before ++ after

abbrev IfTaken : List ℕ → Option Popped → Type 0
IfTaken q none = Unit {0}
IfTaken q (some p) = Taken q p

first_taken : (p : ℕ → Bool) (xs before : List ℕ) → IfTaken (before ++ xs) (pop_first p before xs)
unfolding pop_first
first_taken p [] before = tt
first_taken p (x ∷ xs) before =
    cond_both (IfTaken (before ++ (x ∷ xs))) (p x) (some (record { node = x; others = before ++ xs })) _ (record { before = before; after = xs; was = refl; left = refl })
    (rw (append_assoc before (x ∷ []) xs) at (first_taken p xs (before ++ (x ∷ []))))

class_taken : (F : Setting) (rs : List Rec) (t : List Node) (q cs : List ℕ) → IfTaken q (pop_class F rs t q cs)
unfolding pop_class
class_taken F rs t q [] = tt
class_taken F rs t q (c ∷ cs) =
    (elim (pop_first (λ x. eqb (get_node_priority F rs t x) c) [] q) as (λ o. IfTaken q o → IfTaken q (or_else o (pop_class F rs t q cs))) [ none ↦ λ h. class_taken F rs t q cs | some p ↦ λ h. h ]) (first_taken _ q [])

pub pop_taken : (F : Setting) (rs : List Rec) (t : List Node) (q : List ℕ) (p : Popped) → pop F rs t q ≡ some p → Taken q p
unfolding pop
pop_taken F rs t q p e = rw e at (class_taken F rs t q classes)

-- so what held of each that waited holds of it, and of the others
module _ (P : ℕ → Type 0) where
  pub taken_each : (q : List ℕ) (p : Popped) → Taken q p → Each P q → P p.node × Each P p.others
  taken_each q p k h =
      let e = rw k.was at h in
      let r = each_right P k.before (p.node ∷ k.after) e in
      (r.0, rw k.left (each_append P k.before k.after (each_left P k.before _ e) r.1))

pub taken_fewer : (q : List ℕ) (p : Popped) → Taken q p → suc (length p.others) ≡ length q
taken_fewer q p k = omega (arith, ap length k.was, ap length k.left, length-append k.before (p.node ∷ k.after), length-append k.before k.after)

-- every class is one of them: one computed test of each table
low : (ns : List ℕ) → all (λ n. ltb n class_count) ns ≡ true → (i : ℕ) → get_or ns i 0 < class_count
low [] h i = omega arith
low (n ∷ ns) h zero = ltb-true n class_count (and_left (ltb n class_count) _ h)
low (n ∷ ns) h (suc i) = low ns (and_right (ltb n class_count) _ h) i

priority_low : (F : Setting) (rs : List Rec) (r : Rec) → priority_of F rs r < class_count
unfolding priority_of
priority_low F rs r =
    cond_both (λ n. n < class_count) (is Non r) (get_or priorities_of_non (number_of (rec_at rs r.left).kind) 0) (get_or priorities (number_of r.kind) 0)
    (low priorities_of_non refl (number_of (rec_at rs r.left).kind)) (low priorities refl (number_of r.kind))

first_none : (p : ℕ → Bool) (x : ℕ) (xs before : List ℕ) → pop_first p before (x ∷ xs) ≡ none → p x ≡ false
unfolding pop_first
first_none p x xs before e = go (p x) refl e
  where
    go : (b : Bool) → p x ≡ b → cond b (some (record { node = x; others = before ++ xs })) (pop_first p (before ++ (x ∷ [])) xs) ≡ none → p x ≡ false
    go true q d = let z : ◌≡◌ {A = ℕ} 0 1 = cc in absurd (omega arith)
    go false q d = q

else_none : (a b : Option Popped) → or_else a b ≡ none → (a ≡ none) × (b ≡ none)
else_none none b e = (refl, e)
else_none (some p) b e = let z : ◌≡◌ {A = ℕ} 0 1 = cc in absurd (omega arith)

-- a node that is not taken is of none of the classes
class_none : (F : Setting) (rs : List Rec) (t : List Node) (x : ℕ) (xs cs : List ℕ) → pop_class F rs t (x ∷ xs) cs ≡ none → Each (λ c. get_node_priority F rs t x ≢ c) cs
unfolding pop_class
class_none F rs t x xs [] e = tt
class_none F rs t x xs (c ∷ cs) e =
    let (here, later) = else_none _ _ e in
    (eqb-false (get_node_priority F rs t x) c (first_none (λ y. eqb (get_node_priority F rs t y) c) x xs [] here), class_none F rs t x xs cs later)

-- where a node waits, one is taken
pop_some : (F : Setting) (rs : List Rec) (t : List Node) (x : ℕ) (xs : List ℕ) → pop F rs t (x ∷ xs) ≡ none → ⊥
unfolding pop get_node_priority
pop_some F rs t x xs e =
    let low = priority_low F rs (formula_of rs (node_at t x).formula) in
    each_among (λ c. get_node_priority F rs t x ≢ c) (get_node_priority F rs t x) classes (class_none F rs t x xs classes e) (among_from class_count 0 (get_node_priority F rs t x) (omega arith) (omega (arith, low))) refl

pub pop_filled : (F : Setting) (rs : List Rec) (t : List Node) (q : List ℕ) → empty q ≡ false → (p : Popped) × (pop F rs t q ≡ some p)
pop_filled F rs t [] e = true_false e
pop_filled F rs t (x ∷ xs) e = go (pop F rs t (x ∷ xs)) refl
  where
    go : (o : Option Popped) → pop F rs t (x ∷ xs) ≡ o → (p : Popped) × (pop F rs t (x ∷ xs) ≡ some p)
    go none d = absurd (pop_some F rs t x xs d)
    go (some p) d = (p, d)
