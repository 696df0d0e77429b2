-- What a step places waits, and so do the others that waited. Of the queue nothing is used but that a waiting node is taken.
use mathlib.Core.Path.{◌≡◌}
use mathlib.Core.List.{List, ◌∷◌, ◌++◌, []}
use mathlib.Core.Logic.{◌⊎◌, inl, inr, ⊎_map}
use Prim.Native.Nat.{ℕ, ◌<◌, ◌≤◌, ◌+◌}
use native.Mathlib.Omega.{arith}
use lib.Dec.{ltb}
use borrow.Author.Tests.{ltb-true, ltb-false}
use lib.ListN.{length, length-append}
use Rattle.definition.specs.Lists.{filter, below}
use Rattle.definition.specs.Setting.{Setting}
use Rattle.definition.specs.Tree.{Node, leaves}
use Rattle.definition.specs.Subtree.{Subtree, Targeted, flat, turned, numbered, append_subtree_on_leaf, push_subtree, append_copies, append_on, takes, append_subtree, append_logic_rule_result}
use Rattle.definition.specs.Queue.{Popped}
use Rattle.definition.specs.Run.{State, apply, appended}
use Rattle.definition.proofs.Basics.Lists.{either, alike, Among, some_append_left, some_append_right, some_cases, some_or, each_map, each_append, below_each}
use Rattle.definition.proofs.Tree.Nodes.{length_leaf}
use Rattle.definition.proofs.Basics.Identifiers.{Ids, IssuedBetween, ids_numbered, ids_turned, length_from, distinct_append, apart_by, rising_distinct, pigeonhole, apply_issued}
use Rattle.definition.proofs.Run.Popping.{Taken}
use Rattle.definition.proofs.Run.TreeKept.{with_copy, copy_length}

-- x is one of the waiting
abbrev pub Waits : List ℕ → ℕ → Type 0
Waits q x = Among x q

-- who waited is taken, or goes on waiting
pub taken_or : (q : List ℕ) (p : Popped) → Taken q p → (x : ℕ) → Waits q x → (p.node ≡ x) ⊎ Waits p.others x
taken_or q p t x h =
    rw t.left (elim (some_cases (λ y. y ≡ x) t.before (p.node ∷ t.after) (rw t.was at h)) [
      | inl k ↦ inr (some_append_left _ t.before t.after k)
      | inr k ↦ ⊎_map (λ e. e) (some_append_right _ t.before t.after) k
    ])

-- each identifier of the interval stands in the subtree
ids_listed : (lo hi : ℕ) (s : Subtree) → Ids lo hi s → (z : ℕ) → lo ≤ z → z < hi → Among z (flat s)
ids_listed lo hi s i z l h =
    elim (some_or (λ y. y ≡ z) (λ y. alike y z) (flat s)) [
      | inl k ↦ k
      | inr k ↦
          let xs = z ∷ flat s in
          let d = distinct_append (below lo) xs (rising_distinct lo 0) (k, i.distinct)
          (apart_by (below lo) xs (λ x y (a : x < lo) (b : lo ≤ y) e. omega arith) (below_each lo) (l, each_map (λ y w. w.0) (flat s) i.within)) in
          let b = each_append (λ x. x < hi) (below lo) xs (each_map (λ x (a : x < lo). omega arith) (below lo) (below_each lo)) (h, each_map (λ y w. w.1) (flat s) i.within) in
          absurd (omega (arith, pigeonhole hi (below lo ++ xs) d b, length-append (below lo) xs, length_from lo 0))
    ]

-- z waits, or is an identifier from lo below hi
abbrev Due : List ℕ → ℕ → ℕ → ℕ → Type 0
Due q lo hi z = Waits q z ⊎ ((lo ≤ z) × (z < hi))

due_split : (q : List ℕ) (lo mid hi z : ℕ) → Due q lo hi z → Due q lo mid z ⊎ ((mid ≤ z) × (z < hi))
due_split q lo mid hi z (inl h) = inl (inl h)
due_split q lo mid hi z (inr h) = elim (either (ltb z mid)) [ inl e ↦ inl (inr (h.0, ltb-true z mid e)) | inr e ↦ inr (ltb-false z mid e, h.1) ]

push_waits : (q : List ℕ) (lo hi : ℕ) (s : Subtree) → Ids lo hi s → (z : ℕ) → Due q lo hi z → Waits (push_subtree q s) z
unfolding push_subtree
push_waits q lo hi s i z (inl h) = some_append_left (λ y. y ≡ z) q _ h
push_waits q lo hi s i z (inr h) = some_append_right (λ y. y ≡ z) q _ (ids_listed lo hi (turned s) (ids_turned lo hi s i) z h.0 h.1)

copies_waits : (ls : List ℕ) (t : List Node) (q : List ℕ) (s : Subtree) (z : ℕ) → Due q (length t) (length (append_copies t q ls s).nodes) z → Waits (append_copies t q ls s).waiting z
unfolding append_copies
copies_waits [] t q s z (inl h) = h
copies_waits [] t q s z (inr h) = absurd (omega arith)
copies_waits (y ∷ ls) t q s z h =
    let n = length t in let m = n + length (flat s) in
    copies_waits ls (with_copy t y s) (push_subtree q (numbered n s)) s z
    (⊎_map (push_waits q n m (numbered n s) (ids_numbered n s) z) (λ k. (omega (arith, copy_length t y s), k.1)) (due_split q n m _ z h))

on_waits : (ls : List ℕ) (t : List Node) (q : List ℕ) (s : Subtree) (z : ℕ) → Due (push_subtree q s) (length t) (length (append_on t q ls s).nodes) z → Waits (append_on t q ls s).waiting z
unfolding append_on
on_waits [] t q s z (inl h) = h
on_waits [] t q s z (inr h) = absurd (omega arith)
on_waits (y ∷ ls) t q s z h = copies_waits ls (append_subtree_on_leaf t y s) (push_subtree q s) s z (rw (length_leaf t y s) h)

result_waits : (rs : List Targeted) (t : List Node) (q : List ℕ) (lo hi : ℕ) → IssuedBetween lo hi rs → (z : ℕ) → Due q lo hi z ⊎ ((length t ≤ z) × (z < length (append_logic_rule_result t q rs).nodes)) →
    Waits (append_logic_rule_result t q rs).waiting z
unfolding append_logic_rule_result append_subtree
result_waits [] t q lo hi i z (inl (inl h)) = h
result_waits [] t q lo hi i z (inl (inr h)) = absurd (omega arith)
result_waits [] t q lo hi i z (inr h) = absurd (omega arith)
result_waits (a ∷ rs) t q lo hi i z h =
    let s = a.subtree in let ls = filter (takes t a.target) (leaves t) in let p = append_on t q ls s in
    result_waits rs p.nodes p.waiting i.0 hi i.2 z (elim h [
      | inl k ↦ inl (⊎_map (λ d. on_waits ls t q s z (inl (push_waits q lo i.0 s i.1 z d))) (λ d. d) (due_split q lo i.0 hi z k))
      | inr k ↦ ⊎_map (λ d. inl (on_waits ls t q s z d)) (λ d. d) (due_split (push_subtree q s) (length t) (length p.nodes) _ z (inr k))
    ])

-- after a step every new node waits, and so do the others
pub appended_waits : (F : Setting) (s : State) (p : Popped) (z : ℕ) → Waits p.others z ⊎ ((length s.nodes ≤ z) × (z < length (appended F s p).nodes)) → Waits (appended F s p).waiting z
unfolding appended
appended_waits F s p z h =
    let r = apply F s p.node in let n = length s.nodes in let m = n + length r.nodes in
    result_waits r.subtrees (s.nodes ++ r.nodes) p.others n m (apply_issued F s p.node) z
    (⊎_map (λ d. d) (λ d. (omega (arith, length-append s.nodes r.nodes), d.1)) (due_split p.others n m _ z h))
