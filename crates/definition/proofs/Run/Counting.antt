-- Each identifier waits or was taken by a step: steps and waiting nodes together are as many as identifiers.
use mathlib.Core.Path.{◌≡◌, refl, ap, ◌∙◌}
use mathlib.Core.Bool.{false}
use mathlib.Core.List.{List, [], ◌∷◌, ◌++◌, map}
use Prim.Native.Nat.{ℕ, suc, ◌<◌, ◌≤◌, ◌+◌}
use native.Mathlib.Omega.{arith}
use lib.ListN.{length, length-append, length-map, length-reverse}
use Rattle.definition.specs.Lists.{Each, empty, below, filter}
use Rattle.definition.specs.Records.{Rec, nobody, marks}
use Rattle.definition.specs.Setting.{Setting}
use Rattle.definition.specs.Tree.{Node, leaves}
use Rattle.definition.specs.Subtree.{Subtree, Targeted, flat, turned, numbered, copied, push_subtree, append_subtree_on_leaf, append_copies, append_on, takes, append_subtree, append_logic_rule_result}
use Rattle.definition.specs.Queue.{Popped}
use Rattle.definition.specs.Contradiction.{pairs}
use Rattle.definition.specs.Run.{State, apply, checked_for_contradictions, check_for_contradictions, appended, step, rooted, branch_nodes, begun, start}
use Rattle.definition.proofs.Basics.Lists.{each_map, each_append, each_reverse, below_each}
use Rattle.definition.proofs.Tree.Nodes.{length_leaf, length_marks, ext_subtree, ext_result}
use Rattle.definition.proofs.Basics.Identifiers.{ids_numbered, IssuedBetween, issued_le, flat_numbered, length_from, length_turned, each_turned, apply_issued}
use Rattle.definition.proofs.Run.Queueing.{length_rooted, begun_waiting, length_branch}
use Rattle.definition.proofs.Run.Popping.{Taken, taken_each, taken_fewer}
use Rattle.definition.proofs.Run.Stepping.{checked_both, checked_length, step_keeps, step_due}

length_push : (q : List ℕ) (s : Subtree) → length (push_subtree q s) ≡ length q + length (flat s)
unfolding push_subtree
length_push q s = length-append q (flat (turned s)) ∙ ap (λ (n : ℕ). length q + n) (length_turned s)

length_numbered : (n : ℕ) (s : Subtree) → length (flat (numbered n s)) ≡ length (flat s)
length_numbered n s = ap length (flat_numbered n s) ∙ length_from (length (flat s)) n

-- what a placing adds to the tree, it adds to the queue
copies_count : (ls : List ℕ) (t : List Node) (q : List ℕ) (s : Subtree) →
    length (append_copies t q ls s).nodes + length q ≡ length t + length (append_copies t q ls s).waiting
unfolding append_copies
copies_count [] t q s = refl
copies_count (y ∷ ls) t q s =
    let c = numbered (length t) s in
    let u = t ++ map (copied t) (flat s) in
    omega (
      arith,
      copies_count ls (append_subtree_on_leaf u y c) (push_subtree q c) s,
      length_leaf u y c,
      length-append t (map (copied t) (flat s)),
      length-map (flat s) (copied t),
      length_push q c,
      length_numbered (length t) s,
    )

on_count : (ls : List ℕ) (t : List Node) (q : List ℕ) (s : Subtree) →
    length (append_on t q ls s).nodes + (length q + length (flat s)) ≡ length t + length (append_on t q ls s).waiting
unfolding append_on
on_count [] t q s = omega (arith, length_push q s)
on_count (y ∷ ls) t q s =
    omega (arith, copies_count ls (append_subtree_on_leaf t y s) (push_subtree q s) s, length_leaf t y s, length_push q s)

result_count : (rs : List Targeted) (t : List Node) (q : List ℕ) (lo hi : ℕ) → IssuedBetween lo hi rs →
    length (append_logic_rule_result t q rs).nodes + (length q + hi) ≡ length t + (length (append_logic_rule_result t q rs).waiting + lo)
unfolding append_logic_rule_result append_subtree
result_count [] t q lo hi i = omega (arith, i)
result_count (r ∷ rs) t q lo hi i =
    let p = append_subtree t q r.target r.subtree in
    omega (
      arith,
      result_count rs p.nodes p.waiting i.0 hi i.2,
      on_count (filter (takes t r.target) (leaves t)) t q r.subtree,
      i.1.count,
    )

-- what waits is a node of the tree
abbrev pub Known : List Node → List ℕ → Type 0
Known t q = Each (λ x. x < length t) q

known_longer : (t t' : List Node) (q : List ℕ) → length t ≤ length t' → Known t q → Known t' q
known_longer t t' q h k = each_map (λ x (l : x < length t). omega arith) q k

known_push : (t : List Node) (q : List ℕ) (s : Subtree) → Known t q → Known t (flat s) → Known t (push_subtree q s)
unfolding push_subtree
known_push t q s h k = each_append (λ x. x < length t) q (flat (turned s)) h (each_turned (λ x. x < length t) s k)

known_copies : (ls : List ℕ) (t : List Node) (q : List ℕ) (s : Subtree) → Known t q → Known (append_copies t q ls s).nodes (append_copies t q ls s).waiting
unfolding append_copies
known_copies [] t q s h = h
known_copies (y ∷ ls) t q s h =
    let c = numbered (length t) s in
    let u = t ++ map (copied t) (flat s) in
    let v = append_subtree_on_leaf u y c in
    let n : length v ≡ length t + length (flat s) = omega (arith, length_leaf u y c, length-append t (map (copied t) (flat s)), length-map (flat s) (copied t)) in
    known_copies ls v (push_subtree q c) s
    (known_push v q c (known_longer t v q (omega (arith, n)) h)
    (each_map (λ x (k : (length t ≤ x) × (x < length t + length (flat s))). omega (arith, k.1, n)) (flat c) (ids_numbered (length t) s).within))

known_on : (ls : List ℕ) (t : List Node) (q : List ℕ) (s : Subtree) → Known t q → Known t (flat s) → Known (append_on t q ls s).nodes (append_on t q ls s).waiting
unfolding append_on
known_on [] t q s h k = known_push t q s h k
known_on (y ∷ ls) t q s h k =
    let u = append_subtree_on_leaf t y s in
    known_copies ls u (push_subtree q s) s (known_longer t u (push_subtree q s) (omega (arith, length_leaf t y s)) (known_push t q s h k))

known_result : (rs : List Targeted) (t : List Node) (q : List ℕ) (lo hi : ℕ) → IssuedBetween lo hi rs → hi ≤ length t → Known t q →
    Known (append_logic_rule_result t q rs).nodes (append_logic_rule_result t q rs).waiting
unfolding append_logic_rule_result append_subtree
known_result [] t q lo hi i h k = k
known_result (r ∷ rs) t q lo hi i h k =
    let p = append_subtree t q r.target r.subtree in
    known_result rs p.nodes p.waiting i.0 hi i.2 (omega (arith, h, (ext_subtree t q r.target r.subtree).longer))
    (known_on (filter (takes t r.target) (leaves t)) t q r.subtree k
    (each_map (λ x (l : (lo ≤ x) × (x < i.0)). omega (arith, l.1, h, issued_le i.0 hi rs i.2)) (flat r.subtree) i.1.within))

-- each identifier waits, or was taken by a step
unfoldable pub Counted : State → Type 0
Counted s = s.steps + length s.waiting ≡ length s.nodes

checked_counted : (F : Setting) (s : State) → Counted s → Counted (check_for_contradictions F s)
unfolding Counted checked_for_contradictions
checked_counted F s h =
    checked_both Counted F s h (omega (arith, h, length_marks (pairs s.formulas s.nodes (leaves s.nodes)) s.nodes))

checked_steps : (F : Setting) (s : State) → (check_for_contradictions F s).steps ≡ s.steps
unfolding checked_for_contradictions
checked_steps F s = checked_both (λ (z : State). z.steps ≡ s.steps) F s refl refl

-- what a step adds to the tree it adds to the queue
pub appended_queued : (F : Setting) (s : State) (taken : Popped) → length s.nodes + length (appended F s taken).waiting ≡ length taken.others + length (appended F s taken).nodes
unfolding appended
appended_queued F s taken =
    let r = apply F s taken.node in
    let n = length s.nodes in
    omega (
      arith,
      result_count r.subtrees (s.nodes ++ r.nodes) taken.others n (n + length r.nodes) (apply_issued F s taken.node),
      length-append s.nodes r.nodes,
    )

pub appended_counted : (F : Setting) (s : State) (taken : Popped) → suc (length taken.others) ≡ length s.waiting → Counted s → Counted (appended F s taken)
unfolding appended Counted
appended_counted F s taken e h = omega (arith, e, h, appended_queued F s taken)

-- and that is at least what its rule made
pub appended_grows : (F : Setting) (s : State) (p : Popped) → length s.nodes + length (apply F s p.node).nodes ≤ length (appended F s p).nodes
unfolding appended
appended_grows F s p =
    let r = apply F s p.node in
    omega (arith, length-append s.nodes r.nodes, (ext_result r.subtrees (s.nodes ++ r.nodes) p.others).longer)

appended_steps : (F : Setting) (s : State) (taken : Popped) → (appended F s taken).steps ≡ suc s.steps
unfolding appended
appended_steps F s taken = refl

-- a step that takes a node is counted
pub due : (F : Setting) (s : State) → empty s.waiting ≡ false → Counted s → Counted (step F s) × ((step F s).steps ≡ suc s.steps)
due F s e h =
    let (p, k, is) = step_due F s e in
    rw is (checked_counted F (appended F s p) (appended_counted F s p (taken_fewer s.waiting p k) h), checked_steps F (appended F s p) ∙ appended_steps F s p)

-- what waits stays known
abbrev Waiting : State → Type 0
Waiting z = Known z.nodes z.waiting

known_checked : (F : Setting) (s : State) → Waiting s → Waiting (check_for_contradictions F s)
unfolding checked_for_contradictions
known_checked F s h = checked_both Waiting F s h (rw (length_marks (pairs s.formulas s.nodes (leaves s.nodes)) s.nodes) h)

known_appended : (F : Setting) (s : State) (p : Popped) → Taken s.waiting p → Waiting s → Waiting (appended F s p)
unfolding appended
known_appended F s p k h =
    let r = apply F s p.node in
    let n = length s.nodes in
    let t = s.nodes ++ r.nodes in
    let e = length-append s.nodes r.nodes in
    known_result r.subtrees t p.others n (n + length r.nodes) (apply_issued F s p.node) (omega (arith, e))
    (known_longer s.nodes t p.others (omega (arith, e)) (taken_each (λ x. x < n) s.waiting p k h).1)

pub known_step : (F : Setting) (s : State) → Known s.nodes s.waiting → Known (step F s).nodes (step F s).waiting
known_step F s h = step_keeps F s Waiting (λ p k. known_appended F s p k h) (known_checked F) h

-- and so is the node that a step takes
pub known_taken : (s : State) (p : Popped) → Known s.nodes s.waiting → Taken s.waiting p → p.node < length s.nodes
known_taken s p h k = (taken_each (λ x. x < length s.nodes) s.waiting p k h).0

-- of as many marked records as numbers name nodes
pub known_start : (F : Setting) (rs : List Rec) → length (marks rs) ≤ nobody → Known (start F rs).nodes (start F rs).waiting
unfolding start begun
known_start F rs few =
    let ns = branch_nodes rs in
    known_checked F (begun rs) (rw (begun_waiting rs (omega (arith, few, length_branch rs))) (each_reverse (λ x. x < length (rooted ns)) (below (length ns)) (each_map (λ x (l : x < length ns). omega (arith, l, length_rooted ns)) (below (length ns)) (below_each (length ns)))))

begun_counted : (rs : List Rec) → length (marks rs) ≤ nobody → Counted (begun rs)
unfolding begun Counted
begun_counted rs few =
    let ns = branch_nodes rs in
    omega (arith, ap (length {A = ℕ}) (begun_waiting rs (omega (arith, few, length_branch rs))), length-reverse (below (length ns)), length_from (length ns) 0, length_rooted ns)

pub start_counted : (F : Setting) (rs : List Rec) → length (marks rs) ≤ nobody → Counted (start F rs)
unfolding start
start_counted F rs few = checked_counted F (begun rs) (begun_counted rs few)

pub start_length : (F : Setting) (rs : List Rec) → length (start F rs).nodes ≡ length (marks rs)
unfolding start begun
start_length F rs = checked_length F (begun rs) ∙ length_rooted (branch_nodes rs) ∙ length_branch rs
