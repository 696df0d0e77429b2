-- Every number of a node fits its field: parents by the tree, contrarians by where marks come from.
use mathlib.Core.Path.{◌≡◌, refl, sym, ap, ◌∙◌, subst}
use mathlib.Core.Bool.{Bool, true, false}
use mathlib.Core.List.{List, [], ◌∷◌, ◌++◌, map, reverse}
use mathlib.Core.Option
use mathlib.Core.Option.{Option, none, some}
use mathlib.Core.Logic.{◌⊎◌, inl, inr, ⊎_elim, ◌≢◌}
use Prim.Native.Nat.{ℕ, zero, suc, ◌<◌, ◌≤◌, ◌-◌}
use native.Mathlib.Omega.{arith}
use lib.Dec.{ltb}
use borrow.Author.Tests.{ltb-true, ltb-false}
use lib.ListN.{length}
use lib.Seq.{set_out}
use Rattle.definition.specs.Lists.{Each, find, or_else, filter, empty, up_from}
use Rattle.definition.specs.Records.{Rec, nobody, marks}
use Rattle.definition.specs.Setting.{Setting}
use Rattle.definition.specs.Tree.{Node, Root, Middle, new_node, node_at, placed_below, marked_against, change, leaves, path}
use Rattle.definition.specs.Subtree.{Subtree, Targeted, flat, numbered, copied, append_subtree_on_leaf, push_subtree, append_copies, append_on, takes, append_subtree, append_logic_rule_result}
use Rattle.definition.specs.Queue.{Popped}
use Rattle.definition.specs.Contradiction.{are_nodes_contradictory, Pair, pair, get_contradictory_node_ids, mark, mark_all, pairs}
use Rattle.definition.specs.Run.{State, apply, appended, checked_for_contradictions, check_for_contradictions, steps, branch_nodes, rooted, begun, start}
use Rattle.definition.specs.Fits.{Number}
use Rattle.definition.proofs.Basics.Lists.{either, cond_both, alike, each_map, each_of_map, each_any, each_reverse}
use Rattle.definition.proofs.Tree.Nodes.{change_other, change_same, node_append, Stable, chain_keeps, leaf_keeps, length_marks}
use Rattle.definition.proofs.Tree.Labels.{node_after}
use Rattle.definition.proofs.Tree.NewNodes.{apply_each}
use Rattle.definition.proofs.Run.Stepping.{checked_both, step_keeps, run_keeps}
use Rattle.definition.specs.TreeShape.{Treed, Bare, spots}
use Rattle.definition.proofs.Tree.Shape.{in_range, parent_in, path_distinct, leaves_bare}
use Rattle.definition.proofs.Run.TreeKept.{check_keeps, appended_keeps, begun_treed}

pub more_number : (m n x : ℕ) → m ≤ n → Number m x → Number n x
more_number m n x h (inl e) = inl e
more_number m n x h (inr e) = inr (omega arith)

-- a parent is a node of the tree
pub parent_number : (t : List Node) → Treed t → (x : ℕ) → Number (length t) (node_at t x).parent
parent_number t r x = ⊎_elim (λ e. inl e) (λ e. inr (in_range t (node_at t x).parent e)) (parent_in (spots t) r x)

-- every contrarian is none or below n
abbrev pub ContrariansFit : ℕ → List Node → Type 0
ContrariansFit n t = (x : ℕ) → Number n (node_at t x).contrarian

abbrev Unmarked : Node → Type 0
Unmarked n = n.contrarian ≡ nobody

marked_more : (m n : ℕ) (t : List Node) → m ≤ n → ContrariansFit m t → ContrariansFit n t
marked_more m n t h k x = more_number m n (node_at t x).contrarian h (k x)

unmarked_at : (ns : List Node) → Each Unmarked ns → (x : ℕ) → (node_at ns x).contrarian ≡ nobody
unmarked_at [] h x = refl
unmarked_at (n ∷ ns) h zero = h.0
unmarked_at (n ∷ ns) h (suc x) = unmarked_at ns h.1 x

marked_append : (m : ℕ) (t ns : List Node) → ContrariansFit m t → Each Unmarked ns → ContrariansFit m (t ++ ns)
marked_append m t ns k h x = go (either (ltb x (length t)))
  where
    go : (ltb x (length t) ≡ true) ⊎ (ltb x (length t) ≡ false) → Number m (node_at (t ++ ns) x).contrarian
    go (inl q) = rw (node_append t ns x (ltb-true x (length t) q)) (k x)
    go (inr q) = inl (ap (λ (n : Node). n.contrarian) (node_after t ns x (ltb-false x (length t) q)) ∙ unmarked_at ns h (x - length t))

abbrev contrarian : Node → ℕ
contrarian n = n.contrarian

contrarian_stable : Stable contrarian
contrarian_stable = record { entering = λ y p n. refl; bearing = λ p x n. refl }

marked_leaf : (m : ℕ) (t : List Node) (y : ℕ) (s : Subtree) → ContrariansFit m t → ContrariansFit m (append_subtree_on_leaf t y s)
marked_leaf m t y s k x = rw (leaf_keeps contrarian contrarian_stable t y s x) (k x)

marked_copies : (m : ℕ) (ls : List ℕ) (t : List Node) (q : List ℕ) (s : Subtree) → ContrariansFit m t → ContrariansFit m (append_copies t q ls s).nodes
unfolding append_copies
marked_copies m [] t q s k = k
marked_copies m (y ∷ ls) t q s k =
    let c = numbered (length t) s in
    let ns = map (copied t) (flat s) in
    marked_copies m ls (append_subtree_on_leaf (t ++ ns) y c) (push_subtree q c) s
    (marked_leaf m (t ++ ns) y c (marked_append m t ns k (each_of_map Unmarked (copied t) (flat s) (each_any (λ x. Unmarked (copied t x)) (λ x. refl) (flat s)))))

marked_on : (m : ℕ) (ls : List ℕ) (t : List Node) (q : List ℕ) (s : Subtree) → ContrariansFit m t → ContrariansFit m (append_on t q ls s).nodes
unfolding append_on
marked_on m [] t q s k = k
marked_on m (y ∷ ls) t q s k = marked_copies m ls (append_subtree_on_leaf t y s) (push_subtree q s) s (marked_leaf m t y s k)

marked_result : (m : ℕ) (rs : List Targeted) (t : List Node) (q : List ℕ) → ContrariansFit m t → ContrariansFit m (append_logic_rule_result t q rs).nodes
unfolding append_logic_rule_result append_subtree
marked_result m [] t q k = k
marked_result m (r ∷ rs) t q k =
    let p = append_subtree t q r.target r.subtree in
    marked_result m rs p.nodes p.waiting (marked_on m (filter (takes t r.target) (leaves t)) t q r.subtree k)

-- a pair's earlier node stands on the path
abbrev Earlier : (ℕ → Type 0) → Option Pair → Type 0
Earlier P none = Unit {0}
Earlier P (some p) = P p.earlier

found_each : (P : ℕ → Type 0) (p : ℕ → Bool) (x : ℕ) (xs : List ℕ) → Each P xs → Earlier P (Option.map (pair x) (find p xs))
found_each P p x [] h = tt
found_each P p x (y ∷ ys) h = cond_both (λ (o : Option ℕ). Earlier P (Option.map (pair x) o)) (p y) (some y) (find p ys) h.0 (found_each P p x ys h.1)

else_each : (P : ℕ → Type 0) (a b : Option Pair) → Earlier P a → Earlier P b → Earlier P (or_else a b)
else_each P none b h k = k
else_each P (some p) b h k = h

pair_each : (P : ℕ → Type 0) (rs : List Rec) (t : List Node) (xs : List ℕ) → Each P xs → Earlier P (get_contradictory_node_ids rs t xs)
unfolding get_contradictory_node_ids
pair_each P rs t [] h = tt
pair_each P rs t (x ∷ xs) h =
    else_each P (Option.map (pair x) (find (are_nodes_contradictory rs t x) (reverse xs))) (get_contradictory_node_ids rs t xs)
    (found_each P (are_nodes_contradictory rs t x) x (reverse xs) (each_reverse P xs h.1)) (pair_each P rs t xs h.1)

pairs_known : (rs : List Rec) (t : List Node) → Treed t → Each (Earlier (λ x. x < length t)) (pairs rs t (leaves t))
unfolding pairs
pairs_known rs t r =
    each_of_map (Earlier (λ x. x < length t)) (λ leaf. get_contradictory_node_ids rs t (path t leaf)) (leaves t)
    (each_map (λ leaf (h : Bare (spots t) leaf). pair_each (λ x. x < length t) rs t (path t leaf) (path_distinct t r leaf h.0).1) (leaves t) (leaves_bare t r))

marked_one : (m : ℕ) (t : List Node) (o : Option Pair) → Earlier (λ x. x < m) o → ContrariansFit m t → ContrariansFit m (mark t o)
unfolding mark
marked_one m t none h k x = k x
marked_one m t (some p) h k x = go (alike x p.later) (either (ltb p.later (length t)))
  where
    f : Node → Node
    f = marked_against p.earlier

    u : List Node
    u = change t p.later f

    go : (x ≡ p.later) ⊎ (x ≢ p.later) → (ltb p.later (length t) ≡ true) ⊎ (ltb p.later (length t) ≡ false) → Number m (node_at u x).contrarian
    go (inr e) d = rw (change_other t p.later x f e) (k x)
    go (inl e) (inl d) = subst (λ (z : ℕ). Number m (node_at u z).contrarian) (sym e) (rw (change_same t p.later f (ltb-true p.later (length t) d)) (inr h))
    go (inl e) (inr d) = subst (λ (v : List Node). Number m (node_at v x).contrarian) (sym (set_out t p.later (f (node_at t p.later)) (ltb-false p.later (length t) d))) (k x)

marked_all : (m : ℕ) (ps : List (Option Pair)) (t : List Node) → Each (Earlier (λ x. x < m)) ps → ContrariansFit m t → ContrariansFit m (mark_all t ps)
unfolding mark_all
marked_all m [] t h k = k
marked_all m (o ∷ ps) t h k = marked_all m ps (mark t o) h.1 (marked_one m t o h.0 k)

marked_check : (F : Setting) (s : State) → Treed s.nodes → ContrariansFit (length s.nodes) s.nodes → ContrariansFit (length (check_for_contradictions F s).nodes) (check_for_contradictions F s).nodes
unfolding checked_for_contradictions
marked_check F s r k =
    let found = pairs s.formulas s.nodes (leaves s.nodes) in
    checked_both (λ (z : State). ContrariansFit (length z.nodes) z.nodes) F s k
    (rw (length_marks found s.nodes) (marked_all (length s.nodes) found s.nodes (pairs_known s.formulas s.nodes r) k))

-- a tree whose marks are right
pub record Numbered (t : List Node) : Type 0 where
  pub treed : Treed t
  pub marked : ContrariansFit (length t) t

-- as long as its identifiers stay below nobody
abbrev AllNumbered : State → Type 0
AllNumbered s = length s.nodes ≤ nobody → Numbered s.nodes

numbered_checked : (F : Setting) (s : State) → AllNumbered s → AllNumbered (check_for_contradictions F s)
numbered_checked F s h few =
    let keep = check_keeps F s in
    let k = h (omega (arith, few, keep.longer)) in
    record { treed = keep.treed k.treed few; marked = marked_check F s k.treed k.marked }

numbered_appended : (F : Setting) (s : State) (p : Popped) → AllNumbered s → AllNumbered (appended F s p)
unfolding appended
numbered_appended F s p h few =
    let r = apply F s p.node in
    let n = length (appended F s p).nodes in
    let keep = appended_keeps F s p in
    let k = h (omega (arith, few, keep.longer)) in
    record {
      treed = keep.treed k.treed few;
      marked = marked_result n r.subtrees (s.nodes ++ r.nodes) p.others
          (marked_append n s.nodes r.nodes (marked_more (length s.nodes) n s.nodes keep.longer k.marked) (apply_each Unmarked (λ a b c. refl) F s p.node));
    }

pub begun_unmarked : (rs : List Rec) (x : ℕ) → (node_at (begun rs).nodes x).contrarian ≡ nobody
unfolding begun branch_nodes rooted
begun_unmarked rs x = go (marks rs)
  where
    go : (fs : List ℕ) → (node_at (rooted (map (λ f. new_node nobody f 0) fs)) x).contrarian ≡ nobody
    go [] = refl
    go (f ∷ fs) =
        let ns = map (λ g. new_node nobody g 0) fs in
        let t = placed_below nobody Root (new_node nobody f 0) ∷ ns in
        chain_keeps contrarian contrarian_stable t 0 Middle (up_from (length ns) 1) x
        ∙ unmarked_at t (refl, each_of_map Unmarked (λ g. new_node nobody g 0) fs (each_any (λ g. Unmarked (new_node nobody g 0)) (λ g. refl) fs)) x

-- every state of a run
pub run_numbered : (test : Setting → State → Bool) (n : ℕ) (F : Setting) (rs : List Rec) → empty (marks rs) ≡ false → length (steps test n F (start F rs)).nodes ≤ nobody →
    Numbered (steps test n F (start F rs)).nodes
unfolding start
run_numbered test n F rs e =
    run_keeps test F AllNumbered (λ s d h. step_keeps F s AllNumbered (λ p k. numbered_appended F s p h) (numbered_checked F) h) n (start F rs)
    (numbered_checked F (begun rs) (λ few. record { treed = begun_treed rs e few; marked = λ x. inl (begun_unmarked rs x) }))
