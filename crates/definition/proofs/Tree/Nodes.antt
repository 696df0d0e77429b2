-- What placing leaves of the nodes that are there: links change parent, place and children, and nothing else.
use mathlib.Core.Path.{◌≡◌, refl, sym, ap, ◌∙◌, subst}
use mathlib.Core.Bool.{true, false}
use mathlib.Core.List.{List, [], ◌∷◌, ◌++◌, map}
use mathlib.Core.Option.{Option, none, some}
use mathlib.Core.Logic.{◌⊎◌, inl, inr, ◌≢◌}
use Prim.Native.Nat.{ℕ, ◌<◌, ◌≤◌}
use native.Mathlib.Omega.{arith}
use lib.Dec.{eqb, ltb}
use borrow.Author.Tests.{ltb-true, ltb-false, eqb-true, eqb-false}
use lib.ListN.{length, length-append, length-set, get_or-append}
use lib.Seq.{get_or-set_same, get_or-set_other, set_out}
use Rattle.definition.specs.Lists.{filter}
use Rattle.definition.specs.Records.{nobody}
use Rattle.definition.specs.Tree.{Node, Place, Left, Middle, Right, new_node, node_at, placed_below, with_child, marked_against, change, link, link_chain, leaves}
use Rattle.definition.specs.Subtree.{Subtree, Targeted, flat, numbered, copied, append_subtree_on_leaf, push_subtree, append_copies, append_on, takes, append_subtree, append_logic_rule_result}
use Rattle.definition.specs.Contradiction.{Pair, mark, mark_all}
use Rattle.definition.proofs.Basics.Lists.{either}

abbrev pub blank : Node
blank = new_node nobody nobody nobody

pub change_other : (t : List Node) (x z : ℕ) (f : Node → Node) → z ≢ x → node_at (change t x f) z ≡ node_at t z
change_other t x z f h = get_or-set_other t x z (f (node_at t x)) blank h

pub change_same : (t : List Node) (x : ℕ) (f : Node → Node) → x < length t → node_at (change t x f) x ≡ f (node_at t x)
change_same t x f h = get_or-set_same t x (f (node_at t x)) blank h

pub length_change : (t : List Node) (x : ℕ) (f : Node → Node) → length (change t x f) ≡ length t
length_change t x f = length-set t x (f (node_at t x))

-- what f leaves of a node, it leaves of every node of the tree
pub change_keeps : {A : Type 0} (g : Node → A) (t : List Node) (x : ℕ) (f : Node → Node) → ((n : Node) → g (f n) ≡ g n) →
    (z : ℕ) → g (node_at (change t x f) z) ≡ g (node_at t z)
change_keeps {A} g t x f k z = go (either (eqb z x)) (either (ltb x (length t)))
  where
    go : (eqb z x ≡ true) ⊎ (eqb z x ≡ false) → (ltb x (length t) ≡ true) ⊎ (ltb x (length t) ≡ false) →
        g (node_at (change t x f) z) ≡ g (node_at t z)
    go (inr q) d = ap g (change_other t x z f (eqb-false z x q))
    go (inl q) (inr d) = ap (λ (s : List Node). g (node_at s z)) (set_out t x (f (node_at t x)) (ltb-false x (length t) d))
    go (inl q) (inl d) =
        subst (λ (v : ℕ). g (node_at (change t x f) v) ≡ g (node_at t v)) (sym (eqb-true z x q))
        (ap g (change_same t x f (ltb-true x (length t) d)) ∙ k (node_at t x))

pub length_link : (t : List Node) (y : ℕ) (p : Place) (x : ℕ) → length (link t y p x) ≡ length t
unfolding link
length_link t y p x = length_change (change t x (placed_below y p)) y (with_child p x) ∙ length_change t x (placed_below y p)

pub length_chain : (t : List Node) (y : ℕ) (p : Place) (cs : List ℕ) → length (link_chain t y p cs) ≡ length t
unfolding link_chain
length_chain t y p [] = refl
length_chain t y p (c ∷ cs) = length_chain (link t y p c) c Middle cs ∙ length_link t y p c

pub length_leaf : (t : List Node) (y : ℕ) (s : Subtree) → length (append_subtree_on_leaf t y s) ≡ length t
unfolding append_subtree_on_leaf
length_leaf t y s =
    let a = link_chain t y Left s.left in
    let b = link_chain a y Middle s.middle in
    length_chain b y Right s.right ∙ length_chain a y Middle s.middle ∙ length_chain t y Left s.left

-- a part of a node that entering the tree, and having a child, leave as it is
pub record Stable {A : Type 0} (g : Node → A) : Type 0 where
  pub entering : (y : ℕ) (p : Place) (n : Node) → g (placed_below y p n) ≡ g n
  pub bearing : (p : Place) (x : ℕ) (n : Node) → g (with_child p x n) ≡ g n

module _ {A : Type 0} (g : Node → A) (k : Stable g) where
  pub link_keeps : (t : List Node) (y : ℕ) (p : Place) (x z : ℕ) → g (node_at (link t y p x) z) ≡ g (node_at t z)
  unfolding link
  link_keeps t y p x z =
      change_keeps g (change t x (placed_below y p)) y (with_child p x) (k.bearing p x) z ∙ change_keeps g t x (placed_below y p) (k.entering y p) z

  pub chain_keeps : (t : List Node) (y : ℕ) (p : Place) (cs : List ℕ) (z : ℕ) → g (node_at (link_chain t y p cs) z) ≡ g (node_at t z)
  unfolding link_chain
  chain_keeps t y p [] z = refl
  chain_keeps t y p (c ∷ cs) z = chain_keeps (link t y p c) c Middle cs z ∙ link_keeps t y p c z

  pub leaf_keeps : (t : List Node) (y : ℕ) (s : Subtree) (z : ℕ) → g (node_at (append_subtree_on_leaf t y s) z) ≡ g (node_at t z)
  unfolding append_subtree_on_leaf
  leaf_keeps t y s z =
      let a = link_chain t y Left s.left in
      let b = link_chain a y Middle s.middle in
      chain_keeps b y Right s.right z ∙ chain_keeps a y Middle s.middle z ∙ chain_keeps t y Left s.left z

-- what a node is, wherever it stands
pub record Label : Type 0 where
  pub world : ℕ
  pub formula : ℕ
  pub spawner : ℕ

abbrev pub label : Node → Label
label n = record { world = n.world; formula = n.formula; spawner = n.spawner }

pub label_stable : Stable label
label_stable = record { entering = λ y p n. refl; bearing = λ p x n. refl }

pub node_append : (t ns : List Node) (x : ℕ) → x < length t → node_at (t ++ ns) x ≡ node_at t x
node_append t ns x h = get_or-append t ns blank x h

-- the tree t' has the nodes of t, labelled as they are, and perhaps more
pub record Ext (t t' : List Node) : Type 0 where
  pub longer : length t ≤ length t'
  pub labelled : (x : ℕ) → x < length t → label (node_at t' x) ≡ label (node_at t x)

pub ext_refl : (t : List Node) → Ext t t
ext_refl t = record { longer = omega arith; labelled = λ x h. refl }

pub ext_trans : (a b c : List Node) → Ext a b → Ext b c → Ext a c
ext_trans a b c f g =
    record {
      longer = omega (arith, f.longer, g.longer);
      labelled = λ x h. g.labelled x (omega (arith, f.longer)) ∙ f.labelled x h;
    }

pub ext_append : (t ns : List Node) → Ext t (t ++ ns)
ext_append t ns = record { longer = omega (arith, length-append t ns); labelled = λ x h. ap label (node_append t ns x h) }

pub ext_leaf : (t : List Node) (y : ℕ) (s : Subtree) → Ext t (append_subtree_on_leaf t y s)
ext_leaf t y s = record { longer = omega (arith, length_leaf t y s); labelled = λ x h. leaf_keeps label label_stable t y s x }

pub ext_copies : (ls : List ℕ) (t : List Node) (q : List ℕ) (s : Subtree) → Ext t (append_copies t q ls s).nodes
unfolding append_copies
ext_copies [] t q s = ext_refl t
ext_copies (y ∷ ls) t q s =
    let c = numbered (length t) s in
    let u = t ++ map (copied t) (flat s) in
    ext_trans t u _ (ext_append t (map (copied t) (flat s)))
    (ext_trans u (append_subtree_on_leaf u y c) _ (ext_leaf u y c) (ext_copies ls (append_subtree_on_leaf u y c) (push_subtree q c) s))

ext_on : (ls : List ℕ) (t : List Node) (q : List ℕ) (s : Subtree) → Ext t (append_on t q ls s).nodes
unfolding append_on
ext_on [] t q s = ext_refl t
ext_on (y ∷ ls) t q s =
    ext_trans t (append_subtree_on_leaf t y s) _ (ext_leaf t y s) (ext_copies ls (append_subtree_on_leaf t y s) (push_subtree q s) s)

pub ext_subtree : (t : List Node) (q : List ℕ) (target : ℕ) (s : Subtree) → Ext t (append_subtree t q target s).nodes
unfolding append_subtree
ext_subtree t q target s = ext_on (filter (takes t target) (leaves t)) t q s

pub ext_result : (rs : List Targeted) (t : List Node) (q : List ℕ) → Ext t (append_logic_rule_result t q rs).nodes
unfolding append_logic_rule_result
ext_result [] t q = ext_refl t
ext_result (r ∷ rs) t q =
    let p = append_subtree t q r.target r.subtree in
    ext_trans t p.nodes _ (ext_subtree t q r.target r.subtree) (ext_result rs p.nodes p.waiting)

-- marks change the contrarian, and nothing else
pub mark_keeps : {A : Type 0} (g : Node → A) → ((j : ℕ) (n : Node) → g (marked_against j n) ≡ g n) → (ps : List (Option Pair)) (t : List Node) (z : ℕ) →
    g (node_at (mark_all t ps) z) ≡ g (node_at t z)
unfolding mark_all mark
mark_keeps g k [] t z = refl
mark_keeps g k (none ∷ ps) t z = mark_keeps g k ps t z
mark_keeps g k (some p ∷ ps) t z =
    mark_keeps g k ps (change t p.later (marked_against p.earlier)) z ∙ change_keeps g t p.later (marked_against p.earlier) (k p.earlier) z

pub length_marks : (ps : List (Option Pair)) (t : List Node) → length (mark_all t ps) ≡ length t
unfolding mark_all mark
length_marks [] t = refl
length_marks (none ∷ ps) t = length_marks ps t
length_marks (some p ∷ ps) t = length_marks ps _ ∙ length_change t p.later (marked_against p.earlier)
