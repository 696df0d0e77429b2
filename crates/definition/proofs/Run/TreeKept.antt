-- Placing a result, marking and the steps of a run keep the tree a tree.
use mathlib.Core.Path.{◌≡◌, refl, sym, ap, ◌∙◌, subst, fun_ext}
use mathlib.Core.Bool.{Bool, false}
use mathlib.Core.List.{List, [], ◌∷◌, ◌++◌, map, append-nil}
use mathlib.Core.Logic.{◌≢◌}
use mathlib.Core.Option.{Option}
use Prim.Native.Nat.{ℕ, zero, suc, ◌<◌, ◌≤◌, ◌+◌}
use native.Mathlib.Omega.{arith}
use lib.ListN.{length, length-append, length-map, get_or-eq_default}
use Rattle.definition.specs.Limits.{most_identifiers}
use Rattle.definition.specs.Lists.{Each, Distinct, filter, up_from, empty}
use Rattle.definition.specs.Records.{Rec, marks, nobody}
use Rattle.definition.specs.Setting.{Setting}
use Rattle.definition.specs.Tree.{Place, Root, Middle, Node, childless, is_leaf, new_node, node_at, placed_below, link_chain, leaves, child_at}
use Rattle.definition.specs.Rules.{Rule}
use Rattle.definition.specs.Contradiction.{Pair, mark_all}
use Rattle.definition.specs.Queue.{Popped}
use Rattle.definition.specs.Run.{State, apply_here, apply_rule, apply, checked_for_contradictions, check_for_contradictions, appended, step, steps, rooted, branch_nodes, begun, start}
use Rattle.definition.specs.Subtree.{Subtree, Targeted, with_middle, flat, numbered, copied, append_subtree_on_leaf, push_subtree, append_copies, append_on, takes, append_subtree, append_logic_rule_result}
use Rattle.definition.proofs.Basics.Lists.{true_false, each_map, each_both, each_any, each_of_map, filter_keeps, up_from_each}
use Rattle.definition.proofs.Tree.Nodes.{mark_keeps, length_marks, length_chain, length_leaf, node_append, ext_copies, ext_subtree, ext_result, blank}
use Rattle.definition.proofs.Basics.Identifiers.{rising_distinct, IssuedBetween, distinct_filter, ids_numbered, issued_le, issued_front, rule_issued, apply_issued}
use Rattle.definition.proofs.Run.Stepping.{checked_both, step_keeps, run_keeps}
use Rattle.definition.proofs.Tree.NewNodes.{here_each, rule_each, apply_each}
use Rattle.definition.specs.TreeShape.{Spot, spot, spots, nowhere, placed, In, Out, Child, Parent, Tree, Treed, Bare, TreedThroughout}
use Rattle.definition.proofs.Tree.Shape.{in_range, in_out, leaves_bare, leaves_distinct, Unbounded, treed_unbounded}
use Rattle.definition.proofs.Tree.Linking.{Free, leaf_other, bare_room, hang_treed}

-- t' has no fewer nodes than t, and is a tree if t is one, as long as its identifiers stay below nobody
pub record Keeps (t t' : List Node) : Type 0 where
  pub longer : length t ≤ length t'
  pub treed : Treed t → length t' ≤ nobody → Treed t'

keeps_refl : (t : List Node) → Keeps t t
keeps_refl t = record { longer = omega arith; treed = λ r few. r }

keeps_trans : (a b c : List Node) → Keeps a b → Keeps b c → Keeps a c
keeps_trans a b c f g =
    record { longer = omega (arith, f.longer, g.longer); treed = λ r few. g.treed (f.treed r (omega (arith, few, g.longer))) few }

-- a node that is not in the tree
abbrev pub New : Node → Type 0
New n = spot n ≡ nowhere

new_spots : (ns : List Node) → Each New ns → (z : ℕ) → spots ns z ≡ nowhere
new_spots [] h z = refl
new_spots (n ∷ ns) h zero = h.0
new_spots (n ∷ ns) h (suc z) = new_spots ns h.1 z

pub append_spots : (t ns : List Node) → Each New ns → spots (t ++ ns) ≡ spots t
append_spots t ns h = fun_ext (go t)
  where
    go : (u : List Node) (z : ℕ) → spots (u ++ ns) z ≡ spots u z
    go [] z = new_spots ns h z
    go (n ∷ u) zero = refl
    go (n ∷ u) (suc z) = go u z

pub append_out : (t ns : List Node) → Each New ns → (z : ℕ) → length t ≤ z → Out (spots (t ++ ns)) z
unfolding placed
append_out t ns h z l = ap (λ (g : ℕ → Spot). placed (g z).place) (append_spots t ns h) ∙ ap (λ (n : Node). placed n.place) (get_or-eq_default t blank {n = z} l)

pub map_new : {A : Type 0} (f : A → Node) → ((x : A) → New (f x)) → (xs : List A) → Each New (map f xs)
map_new f k xs = each_of_map New f xs (each_any (λ x. New (f x)) k xs)

pub bare_keeps : (t u : List Node) (l : ℕ) → node_at u l ≡ node_at t l → Bare (spots t) l → Bare (spots u) l
bare_keeps t u l e b = rw e b

-- t with a copy of s on the leaf y
abbrev pub with_copy : List Node → ℕ → Subtree → List Node
with_copy t y s = append_subtree_on_leaf (t ++ map (copied t) (flat s)) y (numbered (length t) s)

pub copy_length : (t : List Node) (y : ℕ) (s : Subtree) → length (with_copy t y s) ≡ length t + length (flat s)
copy_length t y s = let ns = map (copied t) (flat s) in omega (arith, length_leaf (t ++ ns) y (numbered (length t) s), length-append t ns, length-map (flat s) (copied t))

pub copy_other : (t : List Node) (y : ℕ) (s : Subtree) (z : ℕ) → z < length t → z ≢ y → node_at (with_copy t y s) z ≡ node_at t z
copy_other t y s z h a =
    let c = numbered (length t) s in
    leaf_other (t ++ map (copied t) (flat s)) y c z a
    (each_map {Q = λ x. z ≢ x} (λ x (w : (length t ≤ x) × (x < length t + length (flat s))) (q : z ≡ x). omega (arith, w.0, q)) (flat c) (ids_numbered (length t) s).within)
    ∙ node_append t (map (copied t) (flat s)) z h

pub copy_treed : (t : List Node) (y : ℕ) (s : Subtree) → Treed t → Bare (spots t) y → length (with_copy t y s) ≤ nobody → Treed (with_copy t y s)
copy_treed t y s r b few =
    let c = numbered (length t) s in
    let ns = map (copied t) (flat s) in
    let new = map_new (copied t) (λ x. refl) (flat s) in
    let ids = ids_numbered (length t) s in
    let len = copy_length t y s in
    hang_treed (t ++ ns) y c (subst Tree (sym (append_spots t ns new)) r) (subst (λ (g : ℕ → Spot). Bare g y) (sym (append_spots t ns new)) b)
    (each_map {Q = Free (t ++ ns)} (λ x (w : (length t ≤ x) × (x < length t + length (flat s))).
    (append_out t ns new x w.0, omega (arith, w.1, length-append t ns, length-map (flat s) (copied t)), λ e. omega (arith, w.1, len, few, e))) (flat c) ids.within)
    ids.distinct

-- copies on leaves: they are distinct, so that each further one still has no child. The nodes that were there stay, but for the leaves
copies_treed : (ls : List ℕ) (t : List Node) (q : List ℕ) (s : Subtree) → Treed t → Each (Bare (spots t)) ls → Distinct ls → length (append_copies t q ls s).nodes ≤ nobody →
    Treed (append_copies t q ls s).nodes × ((z : ℕ) → z < length t → Each (λ l. z ≢ l) ls → node_at (append_copies t q ls s).nodes z ≡ node_at t z)
unfolding append_copies
copies_treed [] t q s r b d few = (r, λ z h k. refl)
copies_treed (y ∷ ls) t q s r b d few =
    let u = with_copy t y s in
    let w = push_subtree q (numbered (length t) s) in
    let more = copies_treed ls u w s (copy_treed t y s r b.0 (omega (arith, (ext_copies ls u w s).longer, few)))
    (each_both {R = Bare (spots u)} (λ l (c : Bare (spots t) l) (e : l ≢ y). bare_keeps t u l (copy_other t y s l (in_range t l c.0) e) c) ls b.1 d.0) d.1 few in
    (more.0, λ z h k. more.1 z (omega (arith, h, copy_length t y s)) k.1 ∙ copy_other t y s z h k.0)

on_treed : (ls : List ℕ) (t : List Node) (q : List ℕ) (s : Subtree) → Treed t → Each (Bare (spots t)) ls → Distinct ls → Each (Free t) (flat s) → Distinct (flat s) →
    length (append_on t q ls s).nodes ≤ nobody → Treed (append_on t q ls s).nodes ×
    ((z : ℕ) → z < length t → Each (λ l. z ≢ l) ls → Each (λ c. z ≢ c) (flat s) → node_at (append_on t q ls s).nodes z ≡ node_at t z)
unfolding append_on
on_treed [] t q s r b d f k few = (r, λ z h m w. refl)
on_treed (y ∷ ls) t q s r b d f k few =
    let u = append_subtree_on_leaf t y s in
    let stay : (l : ℕ) → Bare (spots t) l → l ≢ y → Bare (spots u) l = λ l c e. bare_keeps t u l
    (leaf_other t y s l e (each_map {Q = λ x. l ≢ x} (λ x (g : Free t x). in_out (spots t) l x c.0 g.0) (flat s) f)) c in
    let more = copies_treed ls u (push_subtree q s) s (hang_treed t y s r b.0 f k) (each_both stay ls b.1 d.0) d.1 few in
    (more.0, λ z h m w. more.1 z (omega (arith, h, length_leaf t y s)) m.1 ∙ leaf_other t y s z m.0 w)

-- a subtree on each path that takes it; the other free nodes stay
pub subtree_treed : (t : List Node) (q : List ℕ) (target : ℕ) (s : Subtree) → Treed t → Each (Free t) (flat s) → Distinct (flat s) →
    length (append_subtree t q target s).nodes ≤ nobody → Treed (append_subtree t q target s).nodes ×
    ((z : ℕ) → Out (spots t) z → z < length t → Each (λ c. z ≢ c) (flat s) → node_at (append_subtree t q target s).nodes z ≡ node_at t z)
unfolding append_subtree
subtree_treed t q target s r f d few =
    let ls = leaves t in
    let p = takes t target in
    let b = leaves_bare t r in
    let all = on_treed (filter p ls) t q s r (filter_keeps (Bare (spots t)) p ls b) (distinct_filter p ls (leaves_distinct t r)) f d few in
    (all.0, λ z o h. all.1 z h (filter_keeps (λ l. z ≢ l) p ls (each_map {Q = λ l. z ≢ l} (λ l (c : Bare (spots t) l) (e : z ≡ l). in_out (spots t) l z c.0 o (sym e)) ls b)))

-- subtrees one after the other, whose identifiers are those of free nodes
result_treed : (rs : List Targeted) (t : List Node) (q : List ℕ) (lo hi : ℕ) → Treed t → IssuedBetween lo hi rs → ((z : ℕ) → lo ≤ z → z < hi → Out (spots t) z) → hi ≤ length t →
    length (append_logic_rule_result t q rs).nodes ≤ nobody → Treed (append_logic_rule_result t q rs).nodes
unfolding append_logic_rule_result
result_treed [] t q lo hi r i o l few = r
result_treed (a ∷ rs) t q lo hi r i o l few =
    let s = a.subtree in
    let mid = i.0 in
    let ids = i.1 in
    let p = append_subtree t q a.target s in
    let near = issued_le mid hi rs i.2 in
    let far : length p.nodes ≤ nobody = omega (arith, (ext_result rs p.nodes p.waiting).longer, few) in
    let long = (ext_subtree t q a.target s).longer in
    let one = subtree_treed t q a.target s r
    (each_map {Q = Free t} (λ z (w : (lo ≤ z) × (z < mid)). (o z w.0 (omega (arith, w.1, near)), omega (arith, w.1, near, l), λ e. omega (arith, w.1, near, l, long, far, e))) (flat s) ids.within)
    ids.distinct far in
    result_treed rs p.nodes p.waiting mid hi one.0 i.2
    (λ z g h.
    let out = o z (omega (arith, g, ids.count)) h in
    ap (λ (n : Node). placed n.place) (one.1 z out (omega (arith, h, l))
    (each_map {Q = λ c. z ≢ c} (λ c (w : (lo ≤ c) × (c < mid)) (e : z ≡ c). omega (arith, w.1, g, e)) (flat s) ids.within)) ∙ out)
    (omega (arith, l, long)) few

-- placing some of the subtrees that new nodes form
result_keeps : (t ns : List Node) (q : List ℕ) (before after : List Targeted) → Each New ns → IssuedBetween (length t) (length t + length ns) (before ++ after) →
    Keeps t (append_logic_rule_result (t ++ ns) q before).nodes
result_keeps t ns q before after new h =
    let i = issued_front (length t) (length t + length ns) before after h in
    record {
      longer = omega (arith, length-append t ns, (ext_result before (t ++ ns) q).longer);
      treed = λ r few. result_treed before (t ++ ns) q (length t) i.0 (subst Tree (sym (append_spots t ns new)) r) i.1
          (λ z l k. append_out t ns new z l) (omega (arith, i.2, length-append t ns)) few;
    }

-- nodes that are not in the tree leave it a tree
pub new_treed : (t ns : List Node) → Each New ns → Treed t → Treed (t ++ ns)
new_treed t ns new r = subst Tree (sym (append_spots t ns new)) r

steady_by : (rs : List Targeted) (t : List Node) (q : List ℕ) → ((before after : List Targeted) → rs ≡ before ++ after → length (append_logic_rule_result t q before).nodes ≤ most_identifiers →
    Treed (append_logic_rule_result t q before).nodes) → TreedThroughout t q rs
unfolding append_logic_rule_result
steady_by [] t q f = tt
steady_by (a ∷ rs) t q f =
    let p = append_subtree t q a.target a.subtree in
    (f [] (a ∷ rs) refl, steady_by rs p.nodes p.waiting (λ before after e. f (a ∷ before) after (ap (λ (xs : List Targeted). a ∷ xs) e)))

result_steady : (t ns : List Node) (q : List ℕ) (rs : List Targeted) → Each New ns → IssuedBetween (length t) (length t + length ns) rs → Treed t → TreedThroughout (t ++ ns) q rs
result_steady t ns q rs new h r =
    steady_by rs (t ++ ns) q (λ before after e few. (result_keeps t ns q before after new (subst (IssuedBetween (length t) (length t + length ns)) e h)).treed r (omega (arith, few)))

-- where a rule's result is placed
pub rule_steady : (F : Setting) (s : State) (x : ℕ) (more : List Rec) (c : Rule ℕ) (q : List ℕ) → Treed s.nodes → TreedThroughout (s.nodes ++ (apply_rule F s x more c).nodes) q (apply_rule F s x more c).subtrees
rule_steady F s x more c q r = result_steady s.nodes (apply_rule F s x more c).nodes q (apply_rule F s x more c).subtrees (rule_each New (λ a b c. refl) F s x more c) (rule_issued F s x more c) r

pub here_treed : (s : State) (x : ℕ) (more : List Rec) (fs : Subtree) → Treed s.nodes → Treed (s.nodes ++ (apply_here s x more fs).nodes)
here_treed s x more fs = new_treed s.nodes (apply_here s x more fs).nodes (here_each New (λ a b c. refl) s x more fs)

-- the nodes that a rule makes are not in the tree
pub apply_new : (F : Setting) (s : State) (x : ℕ) → Each New (apply F s x).nodes
apply_new = apply_each New (λ a b c. refl)

-- the tree of a step that applied the rule of x, when the first of the result's subtrees are placed
abbrev pub between : Setting → State → ℕ → List ℕ → List Targeted → List Node
between F s x q before = (append_logic_rule_result (s.nodes ++ (apply F s x).nodes) q before).nodes

pub between_keeps : (F : Setting) (s : State) (x : ℕ) (q : List ℕ) (before after : List Targeted) → (apply F s x).subtrees ≡ before ++ after → Keeps s.nodes (between F s x q before)
between_keeps F s x q before after e = result_keeps s.nodes (apply F s x).nodes q before after (apply_new F s x) (rw e at (apply_issued F s x))

-- marks change nothing of the tree
pub marks_keep : (ps : List (Option Pair)) (t : List Node) → Keeps t (mark_all t ps)
marks_keep ps t =
    record { longer = omega (arith, length_marks ps t); treed = λ r few. subst Tree (sym (fun_ext (mark_keeps spot (λ j n. refl) ps t))) r }

pub check_keeps : (F : Setting) (s : State) → Keeps s.nodes (check_for_contradictions F s).nodes
unfolding checked_for_contradictions
check_keeps F s = checked_both (λ (z : State). Keeps s.nodes z.nodes) F s (keeps_refl s.nodes) (marks_keep _ s.nodes)

pub appended_keeps : (F : Setting) (s : State) (p : Popped) → Keeps s.nodes (appended F s p).nodes
unfolding appended
appended_keeps F s p = between_keeps F s p.node p.others (apply F s p.node).subtrees [] (sym (append-nil _))

pub step_tree : (F : Setting) (s : State) → Keeps s.nodes (step F s).nodes
step_tree F s =
    step_keeps F s (λ (z : State). Keeps s.nodes z.nodes) (λ p k. appended_keeps F s p) (λ z k. keeps_trans s.nodes z.nodes _ k (check_keeps F z)) (keeps_refl s.nodes)

steps_tree : (ends : Setting → State → Bool) (n : ℕ) (F : Setting) (s : State) → Keeps s.nodes (steps ends n F s).nodes
steps_tree ends n F s = run_keeps ends F (λ (z : State). Keeps s.nodes z.nodes) (λ z e k. keeps_trans s.nodes z.nodes _ k (step_tree F z)) n s (keeps_refl s.nodes)

-- the root alone
pub root_treed : (x : Node) → Treed (placed_below nobody Root x ∷ [])
unfolding placed is_leaf
root_treed x = record { depth = λ z. 0; root = refl; orphan = refl; top = refl; above = above; below = below; loose = loose; nobody_out = refl }
  where
    t : List Node
    t = placed_below nobody Root x ∷ []

    above : (z : ℕ) → In (spots t) z → z ≢ 0 → Parent (spots t) (λ v. 0) z
    above zero i ne = absurd (ne refl)
    above (suc z) i ne = true_false (sym i)

    below : (z : ℕ) (p : Place) → child_at p (node_at t z).children ≢ nobody → Child (spots t) (λ v. 0) z p (child_at p (node_at t z).children)
    below zero p ne = absurd (ne (bare_room p childless refl))
    below (suc z) p ne = absurd (ne (bare_room p childless refl))

    loose : (z : ℕ) → Out (spots t) z → spots t z ≡ nowhere
    loose zero o = true_false o
    loose (suc z) o = refl

rooted_treed : (x : Node) (xs : List Node) → Each New xs → length (rooted (x ∷ xs)) ≤ nobody → Treed (rooted (x ∷ xs))
unfolding rooted append_subtree_on_leaf link_chain flat placed is_leaf
rooted_treed x xs h few =
    let root = placed_below nobody Root x ∷ [] in
    let cs = up_from (length xs) 1 in
    let len = length_chain (root ++ xs) 0 Middle cs in
    hang_treed (root ++ xs) 0 (with_middle cs) (subst Tree (sym (append_spots root xs h)) (root_treed x)) (refl, refl)
    (rw append-nil (each_map {Q = Free (root ++ xs)} (λ z (w : (1 ≤ z) × (z < 1 + length xs)). (append_out root xs h z w.0, omega (arith, w.1), λ e. omega (arith, w.1, few, len, e))) cs (up_from_each (length xs) 1)))
    (rw append-nil (rising_distinct (length xs) 1))

pub begun_treed : (rs : List Rec) → empty (marks rs) ≡ false → length (begun rs).nodes ≤ nobody → Treed (begun rs).nodes
unfolding begun branch_nodes
begun_treed rs e few = go (marks rs) e few
  where
    go : (fs : List ℕ) → empty fs ≡ false → length (rooted (map (λ f. new_node nobody f 0) fs)) ≤ nobody → Treed (rooted (map (λ f. new_node nobody f 0) fs))
    go [] q l = true_false q
    go (f ∷ fs) q l = rooted_treed (new_node nobody f 0) (map (λ f. new_node nobody f 0) fs) (map_new (λ f. new_node nobody f 0) (λ f. refl) fs) l

pub start_treed : (F : Setting) (rs : List Rec) → empty (marks rs) ≡ false → length (start F rs).nodes ≤ nobody → Treed (start F rs).nodes
unfolding start
start_treed F rs e few = let k = check_keeps F (begun rs) in k.treed (begun_treed rs e (omega (arith, k.longer, few))) few

-- s is a state of a run of a branch, whatever ends the run
pub record AnyRun (F : Setting) (rs : List Rec) (s : State) : Type 0 where
  pub branch : empty (marks rs) ≡ false
  pub ends : Setting → State → Bool
  pub bound : ℕ
  pub is : s ≡ steps ends bound F (start F rs)

pub reached_treed : (F : Setting) (rs : List Rec) (s : State) → AnyRun F rs s → length s.nodes ≤ nobody → Treed s.nodes
reached_treed F rs s h few =
    let k = steps_tree h.ends h.bound F (start F rs) in
    let l = rw h.is at few in
    rw h.is (k.treed (start_treed F rs h.branch (omega (arith, l, k.longer))) l)

-- between two placings of one step
pub reached_between : (F : Setting) (rs : List Rec) (s : State) (x : ℕ) (q : List ℕ) (before after : List Targeted) → AnyRun F rs s → (apply F s x).subtrees ≡ before ++ after →
    length (between F s x q before) ≤ nobody → Treed (between F s x q before) × Unbounded (between F s x q before)
reached_between F rs s x q before after h e few =
    let k = between_keeps F s x q before after e in
    let r = k.treed (reached_treed F rs s h (omega (arith, k.longer, few))) few in
    (r, treed_unbounded (between F s x q before) r)
