-- Rows of targeted subtrees: stored, read, and placed one after the other.
use Prim.Native.Nat.{ℕ, zero, suc, ◌+◌, ◌<◌, ◌≤◌}
use mathlib.Core.Path.{◌≡◌, refl, sym, ap, ◌∙◌, subst}
use mathlib.Core.Bool.{Bool, true, false, cond, not}
use mathlib.Core.List.{List, [], ◌∷◌, ◌++◌, map, map-append, append-nil}
use mathlib.Core.Logic.{◌⊎◌, inl, inr}
use native.Mathlib.Omega.{arith}
use native.Mathlib.Nat.{pos_of_ne-zero}
use native.Mathlib.Numerals.{add-one}
use lib.Dec.{eqb, ltb, eqb-suc-zero}
use borrow.Author.Tests.{ltb-true, ltb-false}
use lib.ListN.{length, get_or, drop, replicate, length-append, length-map, length-replicate, drop_of_length-le, get_or-map}
use lib.Seq.{drop-cons}
use Rattle.definition.specs.Limits.{most_identifiers}
use Rattle.arrays.specs.Table.{Tabled}
use Rattle.arrays.specs.Table as table
use Rattle.arrays.specs.Listed.{Numbers, HasList}
use Rattle.arrays.proofs.Tabled.{tabled_count, tabled_many, tabled_exceeds, tabled_fits}
use Rattle.definition.specs.Lists.{up_from, Each}
use Rattle.definition.specs.Tree.{Node}
use Rattle.definition.specs.Subtree.{Subtree, Targeted, Placed, flat, with_middle, append_subtree, append_logic_rule_result}
use Rattle.definition.proofs.Basics.Lists.{true_false, each_map, each_get, each_append}
use Rattle.definition.proofs.Tree.Nodes.{ext_subtree, ext_result}
use Rattle.definition.proofs.Basics.Identifiers.{length_from}
use Rattle.definition.specs.TreeShape.{Treed, TreedThroughout}
use Rattle.tree.specs.declared.Chain.{Chain}
use Rattle.tree.specs.Chain.{Spans}
use Rattle.tree.specs.declared.ProofTreeNode.{ProofTreeNode}
use Rattle.tree.specs.Lay.{Held, HasNodes}
use Rattle.tree.specs.declared.ProofTree.{ProofTree}
use Rattle.tree.proofs.Nodes.{held_ok, held_long}
use Rattle.subtree.specs.declared.ProofSubtree.{ProofSubtree}
use Rattle.subtree.specs.declared.TargetedChain.{TargetedChain}
use Rattle.subtree.specs.Subtree.{subtree_of, Within, Chained, Left}
use Rattle.subtree.specs.Items.{Item, ItemsHeld, rows, too_many, stored, no_chain, filled, item_from}
use Rattle.subtree.proofs.Subtrees.{within_more}
use Rattle.subtree.proofs.Placing.{left_as, subtree_nothing}

-- ---- rows with a node, and rows without
abbrev some_node : ℕ → Bool
some_node k = not (eqb k 0)

has_node : (k : ℕ) → (k ≡ 0 → ⊥) → some_node k ≡ true
has_node zero z = absurd (z refl)
has_node (suc k) z = ap not (eqb-suc-zero k)

no_node : (k : ℕ) → some_node k ≡ false → k ≡ 0
no_node zero e = refl
no_node (suc k) e = true_false (sym (ap not (eqb-suc-zero k)) ∙ e)

filled_snoc : (rs : List Item) (r : Item) → filled (rs ++ (r ∷ [])) ≡ filled rs ++ filled (r ∷ [])
filled_snoc [] r = refl
filled_snoc (x ∷ rs) r = go (some_node x.count) (filled_snoc rs r)
  where
    go : (b : Bool) → filled (rs ++ (r ∷ [])) ≡ filled rs ++ filled (r ∷ []) →
        cond b (x ∷ filled (rs ++ (r ∷ []))) (filled (rs ++ (r ∷ []))) ≡ cond b (x ∷ filled rs) (filled rs) ++ filled (r ∷ [])
    go true e = ap (λ (l : List Item). x ∷ l) e
    go false e = e

module _ (rs : List Item) (r : Item) where
  filled_more : (r.count ≡ 0 → ⊥) → filled (rs ++ (r ∷ [])) ≡ filled rs ++ (r ∷ [])
  filled_more z = filled_snoc rs r ∙ ap (λ (b : Bool). filled rs ++ cond b (r ∷ []) []) (has_node r.count z)

  filled_same : r.count ≡ 0 → filled (rs ++ (r ∷ [])) ≡ filled rs
  filled_same z = filled_snoc rs r ∙ ap (λ (k : ℕ). filled rs ++ cond (some_node k) (r ∷ []) []) z ∙ append-nil (filled rs)

row_empty : (r : Item) → r.count ≡ 0 → length (flat (with_middle (up_from r.count r.start))) ≡ 0
unfolding flat
row_empty r z = omega (arith, z, length-append (up_from r.count r.start) [], length_from r.count r.start)

-- a row without a node places nothing
result_filled : (rs : List Item) (t : List Node) (q : List ℕ) → append_logic_rule_result t q (map item_from (filled rs)) ≡ append_logic_rule_result t q (map item_from rs)
unfolding append_logic_rule_result
result_filled [] t q = refl
result_filled (r ∷ rs) t q = go (some_node r.count) refl (result_filled rs)
  where
    s : Subtree
    s = with_middle (up_from r.count r.start)

    go : (b : Bool) → some_node r.count ≡ b
        → ((u : List Node) (w : List ℕ) → append_logic_rule_result u w (map item_from (filled rs)) ≡ append_logic_rule_result u w (map item_from rs))
        → append_logic_rule_result t q (map item_from (cond b (r ∷ filled rs) (filled rs)))
        ≡ append_logic_rule_result (append_subtree t q r.target s).nodes (append_subtree t q r.target s).waiting (map item_from rs)
    go true e f = f (append_subtree t q r.target s).nodes (append_subtree t q r.target s).waiting
    go false e f =
        f t q ∙ ap (λ (p : Placed). append_logic_rule_result p.nodes p.waiting (map item_from rs)) (sym (subtree_nothing t q r.target s (row_empty r (no_node r.count e))))

-- ---- a row more
pub rows_none : {n : ℕ} {a : List TargetedChain} → Tabled most_identifiers no_chain [] n a → (m : ℕ) → ItemsHeld [] n a m
rows_none t m = let b = tabled_fits t (omega arith) in rows b (omega (arith, tabled_count t b)) t tt

pub rows_more : {rs : List Item} {n m k : ℕ} {a : List TargetedChain} → m ≤ k → ItemsHeld rs n a m → ItemsHeld rs n a k
rows_more {rs} {n} {m} {k} h (rows b d t w) = rows b (omega arith) t (each_map (λ r (i : r.start + r.count ≤ m). omega (arith, i, h)) (filled rs) w)
rows_more h (too_many b e) = too_many b (omega arith)

rows_as : {n m : ℕ} {a : List TargetedChain} (rs ss : List Item) → filled rs ≡ ss → n ≤ most_identifiers → n ≤ m → Tabled most_identifiers no_chain (map stored ss) n a → Each (λ (r : Item). r.start + r.count ≤ m) ss → ItemsHeld rs n a m
rows_as {n} {m} {a} rs ss e b d t w =
    rows b d (subst (λ (v : List Item). Tabled most_identifiers no_chain (map stored v) n a) (sym e) t) (subst (λ (v : List Item). Each (λ (r : Item). r.start + r.count ≤ m) v) (sym e) w)

-- what a push does to a table
abbrev Pushes : TargetedChain → ℕ → List TargetedChain → ℕ → List TargetedChain → Type 0
Pushes v n a k b = (l : List TargetedChain) → Tabled most_identifiers no_chain l n a → Tabled most_identifiers no_chain (l ++ (v ∷ [])) k b

module _ {rs : List Item} {n m : ℕ} {a : List TargetedChain} (r : Item) (h : m ≤ r.start) where
  pub rows_skip : r.count ≡ 0 → ItemsHeld rs n a m → ItemsHeld (rs ++ (r ∷ [])) n a (r.start + r.count)
  rows_skip z (too_many b e) = too_many b (omega arith)
  rows_skip z (rows b d t w) =
      rows_as (rs ++ (r ∷ [])) (filled rs) (filled_same rs r z) b (omega arith) t
      (each_map (λ v (i : v.start + v.count ≤ m). omega (arith, i, h)) (filled rs) w)

  pub rows_push : {k : ℕ} {b : List TargetedChain} → (r.count ≡ 0 → ⊥) → Pushes (stored r) n a k b → ItemsHeld rs n a m → ItemsHeld (rs ++ (r ∷ [])) k b (r.start + r.count)
  rows_push {k} {b} z f (too_many g e) =
      let l : List TargetedChain = replicate n no_chain in
      let q : length l ≡ n = length-replicate n no_chain in
      too_many (tabled_exceeds (f l (table.too_many (omega arith) g (omega arith))) (omega (arith, q, length-append l (stored r ∷ [])))) (omega arith)
  rows_push {k} {b} z f (rows g d t w) = go (ltb most_identifiers k) refl
    where
      ss : List Item
      ss = filled rs

      now : Tabled most_identifiers no_chain (map stored (ss ++ (r ∷ []))) k b
      now = subst (λ (v : List TargetedChain). Tabled most_identifiers no_chain v k b) (sym (map-append stored ss (r ∷ []))) (f (map stored ss) t)

      long : length (map stored (ss ++ (r ∷ []))) ≡ n + 1
      long = simp (length-map, length-append) (omega (arith, tabled_count t g, length-map ss stored))

      go : (v : Bool) → ltb most_identifiers k ≡ v → ItemsHeld (rs ++ (r ∷ [])) k b (r.start + r.count)
      go true e = let i : most_identifiers < k = ltb-true most_identifiers k e in too_many i (omega (arith, tabled_many now i, long, pos_of_ne-zero z))
      go false e =
          let i : k ≤ most_identifiers = ltb-false most_identifiers k e in
          rows_as (rs ++ (r ∷ [])) (ss ++ (r ∷ [])) (filled_more rs r z) i (omega (arith, tabled_count now i, long, pos_of_ne-zero z)) now
          (each_append (λ (v : Item). v.start + v.count ≤ r.start + r.count) ss (r ∷ [])
          (each_map (λ v (o : v.start + v.count ≤ m). omega (arith, o, h)) ss w) (omega arith, tt))

-- a row for identifiers that were drawn
module _ {rs : List Item} {n lo hi : ℕ} {a : List TargetedChain} {c : Chain} (target : ℕ) (s : Spans c lo hi) (p : ItemsHeld rs n a lo) where
  abbrev drawn : Item
  drawn = record { target = target; start = lo; count = c.count }

  ended : {k : ℕ} {b : List TargetedChain} → ItemsHeld (rs ++ (drawn ∷ [])) k b (lo + c.count) → ItemsHeld (rs ++ (drawn ∷ [])) k b hi
  ended {k} {b} = subst (λ (m : ℕ). ItemsHeld (rs ++ (drawn ∷ [])) k b m) s.ends

  pub drawn_none : c.count ≡ 0 → ItemsHeld (rs ++ (drawn ∷ [])) n a hi
  drawn_none z = ended (rows_skip drawn (omega arith) z p)

  pub drawn_push : {k : ℕ} {b : List TargetedChain} → (c.count ≡ 0 → ⊥) → Pushes (record { target = record { 0 = target }; start = c.start; count = c.count }) n a k b → ItemsHeld (rs ++ (drawn ∷ [])) k b hi
  drawn_push {k} {b} z f =
      ended (rows_push drawn (omega arith) z (subst (λ (x : ℕ). Pushes (record { target = record { 0 = target }; start = record { 0 = x }; count = c.count }) n a k b) (starts s.begins) f) p)
    where
      starts : (c.count ≡ 0) ⊎ (c.start.0 ≡ lo) → c.start.0 ≡ lo
      starts (inl e) = absurd (z e)
      starts (inr e) = e

-- ---- reads
abbrev no_row : Item
no_row = record { target = 0; start = 0; count = 0 }

-- rows whose identifiers fit
module _ {rs : List Item} {n m : ℕ} {a : List TargetedChain} (g : m ≤ most_identifiers) where
  pub rows_count : ItemsHeld rs n a m → (length (filled rs) ≡ n) × (n ≤ most_identifiers)
  rows_count (rows b d t w) = (sym (length-map (filled rs) stored) ∙ tabled_count t b, b)
  rows_count (too_many b e) = absurd (omega arith)

  -- what a read gives that gives the entry of every list which the table holds
  row_read : (k : ℕ) (v : TargetedChain) → ItemsHeld rs n a m → ((l : List TargetedChain) → Tabled most_identifiers no_chain l n a → n ≤ most_identifiers → v ≡ get_or l k no_chain) → v ≡ stored (get_or (filled rs) k no_row)
  row_read k v (too_many b e) f = absurd (omega arith)
  row_read k v (rows b d t w) f = f (map stored (filled rs)) t b ∙ get_or-map stored (filled rs) k no_row

  row_below : (k : ℕ) → k < n → ItemsHeld rs n a m → (get_or (filled rs) k no_row).start + (get_or (filled rs) k no_row).count ≤ m
  row_below k h (too_many b e) = absurd (omega arith)
  row_below k h (rows b d t w) = each_get (λ (r : Item). r.start + r.count ≤ m) (filled rs) no_row w k (λ g. absurd (omega (arith, tabled_count t b, length-map (filled rs) stored)))

steady_filled : (rs : List Item) (t : List Node) (q : List ℕ) → TreedThroughout t q (map item_from rs) → TreedThroughout t q (map item_from (filled rs))
steady_filled [] t q h = h
steady_filled (r ∷ rs) t q h = go (some_node r.count) refl (steady_filled rs)
  where
    s : Subtree
    s = with_middle (up_from r.count r.start)

    go : (b : Bool) → some_node r.count ≡ b → ((u : List Node) (w : List ℕ) → TreedThroughout u w (map item_from rs) → TreedThroughout u w (map item_from (filled rs)))
        → TreedThroughout t q (map item_from (cond b (r ∷ filled rs) (filled rs)))
    go true e f = (h.0, f (append_subtree t q r.target s).nodes (append_subtree t q r.target s).waiting h.1)
    go false e f = f t q (subst (λ (p : Placed). TreedThroughout p.nodes p.waiting (map item_from rs)) (subtree_nothing t q r.target s (row_empty r (no_node r.count e))) h.1)

-- ---- the loop of `append_logic_rule_result`: the rows that are left lead to the goal
pub record Joining (goal : Placed) (rest : List Item) (low : ℕ) (t : ProofTree) (w : Numbers) : Type 0 where
  pub so_far : Placed
  pub here : Left so_far t w
  pub longer : low ≤ length so_far.nodes
  pub same : append_logic_rule_result so_far.nodes so_far.waiting (map item_from rest) ≡ goal
  pub steady : TreedThroughout so_far.nodes so_far.waiting (map item_from rest)

pub joining_start : (ns : List Node) (q : List ℕ) (rs : List Item) {t : ProofTree} {w : Numbers} → HasNodes ns t → (t.len ≤ most_identifiers → HasList q w) → TreedThroughout ns q (map item_from rs)
    → Joining (append_logic_rule_result ns q (map item_from rs)) (filled rs) (length ns) t w
joining_start ns q rs p f st =
    record { so_far = record { nodes = ns; waiting = q }; here = record { nodes = p; queue = f }; longer = omega arith; same = result_filled rs ns q; steady = steady_filled rs ns q st }

abbrev targeted : ℕ → Subtree → Targeted
targeted x s = record { target = x; subtree = s }

result_cons : (t : List Node) (q : List ℕ) (x : ℕ) (s : Subtree) (is : List Targeted)
    → append_logic_rule_result t q (targeted x s ∷ is) ≡ append_logic_rule_result (append_subtree t q x s).nodes (append_subtree t q x s).waiting is
unfolding append_logic_rule_result
result_cons t q x s is = refl

result_nil : (t : List Node) (q : List ℕ) → append_logic_rule_result t q [] ≡ record { nodes = t; waiting = q }
unfolding append_logic_rule_result
result_nil t q = refl

pub joining_next : {goal : Placed} {low n : ℕ} {t t' : ProofTree} {w w' : Numbers} {items : List TargetedChain} (rs : List Item) (k : ℕ) (s : ProofSubtree) (v : TargetedChain)
    → k < n → low ≤ most_identifiers → ItemsHeld rs n items low → ((l : List TargetedChain) → Tabled most_identifiers no_chain l n items → n ≤ most_identifiers → v ≡ get_or l k no_chain)
    → (subtree_of s ≡ with_middle (up_from v.count v.start.0)) × ((m : ℕ) → v.start.0 + v.count ≤ m → Within s m)
    → Joining goal (drop k (filled rs)) low t w
    → ((ns : List Node) (q : List ℕ) (b : Subtree) → HasNodes ns t → (t.len ≤ most_identifiers → HasList q w) → (length ns ≤ most_identifiers → Chained s b (length ns)) → (length ns ≤ most_identifiers → Treed ns) → Left (append_subtree ns q v.target.0 b) t' w')
    → Joining goal (drop (k + 1) (filled rs)) low t' w'
joining_next {goal} {low} {n} rs k s v h g t e b c f =
    record {
      so_far = append_subtree ns q v.target.0 (subtree_of s);
      here = f ns q (subtree_of s) c.here.nodes c.here.queue (λ _. record { are = refl; within = within_more s c.longer (b.1 low (rw (ap (λ (i : TargetedChain). i.start.0) is, ap (λ (i : TargetedChain). i.count) is) (row_below g k h t))) }) steady.0;
      longer = omega (arith, c.longer, (ext_subtree ns q v.target.0 (subtree_of s)).longer);
      same = sym (result_cons ns q v.target.0 (subtree_of s) (map item_from (drop (k + 1) ss))) ∙ ap (append_logic_rule_result ns q) (sym rest_is) ∙ c.same;
      steady = steady.1;
    }
  where
    ns : List Node
    ns = c.so_far.nodes

    q : List ℕ
    q = c.so_far.waiting

    ss : List Item
    ss = filled rs

    is : v ≡ stored (get_or ss k no_row)
    is = row_read g k v t e

    item : targeted v.target.0 (subtree_of s) ≡ item_from (get_or ss k no_row)
    item = ap (targeted v.target.0) b.0 ∙ ap (λ (i : TargetedChain). targeted i.target.0 (with_middle (up_from i.count i.start.0))) is

    rest_is : map item_from (drop k ss) ≡ targeted v.target.0 (subtree_of s) ∷ map item_from (drop (k + 1) ss)
    rest_is =
        ap (map item_from) (drop-cons ss k no_row (omega (arith, (rows_count g t).0)))
        ∙ ap (λ (i : ℕ). item_from (get_or ss k no_row) ∷ map item_from (drop i ss)) (sym (add-one k))
        ∙ ap (λ (i : Targeted). i ∷ map item_from (drop (k + 1) ss)) (sym item)

    steady : TreedThroughout ns q (targeted v.target.0 (subtree_of s) ∷ map item_from (drop (k + 1) ss))
    steady = subst (TreedThroughout ns q) rest_is c.steady

pub joining_end : {goal : Placed} {low : ℕ} {t : ProofTree} {w : Numbers} (rs : List Item) (k : ℕ) → length rs ≤ k → Joining goal (drop k rs) low t w → Left goal t w
joining_end {goal} rs k h c =
    let t = c.so_far.nodes in
    let q = c.so_far.waiting in
    left_as goal (sym (result_nil t q) ∙ ap (λ (l : List Item). append_logic_rule_result t q (map item_from l)) (sym (drop_of_length-le rs h)) ∙ c.same) c.here

pub joining_full : {ns : List Node} {t : ProofTree} {w : Numbers} (q : List ℕ) (is : List Targeted) → most_identifiers < t.len → HasNodes ns t
    → Left (append_logic_rule_result ns q is) t w
joining_full {ns} q is h p = record { nodes = held_long (append_logic_rule_result ns q is).nodes p h (ext_result is ns q).longer; queue = λ i. absurd (omega arith) }

-- the nodes of a table that is not full
pub held_few : {ns : List Node} {len : ℕ} {a : List ProofTreeNode} → Held ns len a → len ≤ most_identifiers → length ns ≤ most_identifiers
held_few p h = omega (arith, (held_ok p h).0)
