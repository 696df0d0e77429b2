-- The first nodes of a branch: their count, the loop of `branch_nodes`, the root, and the queue.
use Prim.Native.Nat.{ℕ, ◌+◌, ◌<◌, ◌≤◌}
use mathlib.Core.Path.{◌≡◌, refl, sym, ap, ◌∙◌, subst}
use mathlib.Core.List.{List, [], ◌∷◌, ◌++◌, map}
use native.Mathlib.Numerals.{add-one}
use native.Mathlib.Omega.{arith}
use native.Mathlib.Decide.{dec_le}
use borrow.Author.Tests.{eq-eqb, ne_eqb}
use lib.ListN.{length, drop, drop_of_length-le}
use lib.Seq.{drop-cons, set-get_or}
use Rattle.definition.specs.Limits.{most_identifiers, most_formulas}
use Rattle.arrays.specs.Listed.{Listed}
use Rattle.definition.specs.Lists.{up_from}
use Rattle.definition.specs.Records.{Rec, nobody, marks_from, rec_at}
use Rattle.definition.specs.Tree.{Node, Root, Middle, new_node, placed_below, set_child, link, link_chain}
use Rattle.definition.specs.Queue.{push_tree_node}
use Rattle.definition.specs.Run.{rooted, branch_nodes, begun}
use Rattle.definition.proofs.Tree.Nodes.{blank}
use Rattle.definition.proofs.Run.Queueing.{length_rooted}
use Rattle.formula.specs.declared.Formulas.{Formulas}
use Rattle.formula.specs.Recorded.{HasRecords, missing}
use Rattle.formula.proofs.Recorded.{recorded_count}
use Rattle.tree.specs.declared.Chain.{Chain}
use Rattle.tree.specs.declared.ProofTree.{ProofTree}
use Rattle.tree.specs.Chain.{chain_of, empty_chain, ChainBelow, Spans, DrawnFrom}
use Rattle.tree.specs.declared.ProofTreeNode.{ProofTreeNode}
use Rattle.tree.specs.Lay.{lay, Lays, Held, HasNodes}
use Rattle.tree.proofs.Chains.{drawn_none, spans_below, spans_chain}
use Rattle.tree.proofs.Nodes.{held_ok, held_long, held_as}
use Rattle.branch.proofs.Growth.{Growth, growth_start, growth_as, growth_next, growth_end}

-- ---- the loop of `branch_nodes`
-- the nodes of the records from number i on
abbrev pub nodes_from : List Rec → ℕ → List Node
nodes_from rs i = map (λ f. new_node nobody f 0) (marks_from i (drop i rs))

-- the table holds the nodes of the records before number i, which are the chain's; those of the records from number i on are left
pub record Beginning (rs : List Rec) (made : Chain) (t : ProofTree) (i : ℕ) : Type 0 where
  pub drawn : DrawnFrom 0 made t.len
  pub grown : Growth (λ ns. HasNodes ns t) (branch_nodes rs) (nodes_from rs i)

module _ (rs : List Rec) where
  from_first : branch_nodes rs ≡ nodes_from rs 0
  unfolding branch_nodes
  from_first = refl

  module _ (i : ℕ) (h : i < length rs) where
    here : drop i rs ≡ rec_at rs i ∷ drop (i + 1) rs
    unfolding rec_at
    here = rw add-one (drop-cons rs i missing h)

    from_marked : (rec_at rs i).mark ≡ 1 → nodes_from rs i ≡ new_node nobody i 0 ∷ nodes_from rs (i + 1)
    unfolding marks_from
    from_marked e = rw (here, eq-eqb (rec_at rs i).mark 1 e, add-one) refl

    from_unmarked : ((rec_at rs i).mark ≡ 1 → ⊥) → nodes_from rs i ≡ nodes_from rs (i + 1)
    unfolding marks_from
    from_unmarked e = rw (here, ne_eqb (rec_at rs i).mark 1 e, add-one) refl

  from_last : (i : ℕ) → length rs ≤ i → nodes_from rs i ≡ []
  unfolding marks_from
  from_last i h = rw (drop_of_length-le rs {i = i} h) refl

  pub beginning_start : {t : ProofTree} → HasNodes [] t → Beginning rs empty_chain t 0
  beginning_start {t} p =
      record {
        drawn = λ small. let none : t.len ≡ 0 = sym (held_ok p small).0 in subst (Spans empty_chain 0) (sym none) (drawn_none 0 (omega arith));
        grown = growth_as _ from_first (growth_start p);
      }

  module _ {x : Formulas} (p : HasRecords rs x) (few : x.records.len ≤ most_formulas) {made : Chain} {t : ProofTree} (i : ℕ) (g : Beginning rs made t i) where
    module _ (m : ℕ) (h : i < x.records.len) (e : m ≡ (rec_at rs i).mark) where
      -- record i read, which is marked, and its node made
      pub beginning_marked : {more : Chain} {u : ProofTree} → m ≡ 1 →
          ((lo : ℕ) → DrawnFrom lo made t.len → DrawnFrom lo more u.len) × ((ns : List Node) → HasNodes ns t → HasNodes (ns ++ (new_node nobody i 0 ∷ [])) u) → Beginning rs more u (i + 1)
      beginning_marked z f =
          record { drawn = f.0 0 g.drawn; grown = growth_next (new_node nobody i 0) f.1 (growth_as _ (from_marked i (omega (arith, recorded_count p few)) (sym e ∙ z)) g.grown) }

      -- which is not marked
      pub beginning_unmarked : (m ≡ 1 → ⊥) → Beginning rs made t (i + 1)
      beginning_unmarked z = record { drawn = g.drawn; grown = growth_as _ (from_unmarked i (omega (arith, recorded_count p few)) (λ y. z (e ∙ y))) g.grown }

    pub beginning_end : x.records.len ≤ i → DrawnFrom 0 made t.len × HasNodes (branch_nodes rs) t
    beginning_end h = (g.drawn, growth_end (growth_as _ (from_last i (omega (arith, recorded_count p few))) g.grown))

-- ---- the root
root_linked : (x : Node) (xs : List Node) → link (x ∷ xs) nobody Root 0 ≡ placed_below nobody Root x ∷ xs
unfolding link set_child
root_linked x xs = set-get_or (placed_below nobody Root x ∷ xs) nobody blank

root_chained : (ns : List Node) → link_chain ns nobody Root (up_from (length ns) 0) ≡ rooted ns
unfolding link_chain rooted
root_chained [] = refl
root_chained (x ∷ xs) = ap (λ (ms : List Node). link_chain ms 0 Middle (up_from (length xs) 1)) (root_linked x xs)

-- the chain of all nodes, linked from its top on
pub rooted_linked : (ns : List Node) (c : Chain) {t u : ProofTree} → DrawnFrom 0 c t.len × HasNodes ns t →
    (u.len ≡ t.len) × ((ms : List Node) → HasNodes ms t → (length ms ≤ most_identifiers → ChainBelow c (length ms)) → HasNodes (link_chain ms nobody Root (chain_of c)) u) →
    HasNodes (rooted ns) u
rooted_linked ns c {t} {u} (d, p) (same, f) = elim (dec_le t.len most_identifiers) [
  | yes h ↦
      let s = d h in
      let e = (held_ok p h).0 in
      let n : c.count ≡ length ns = omega (arith, s.ends, e) in
      held_as (rooted ns) (ap (link_chain ns nobody Root) (spans_chain s ∙ ap (λ (k : ℕ). up_from k 0) n) ∙ root_chained ns)
      (f ns p (λ _. omega (arith, spans_below s, e)))
  | no h ↦ subst (λ (k : ℕ). Held (rooted ns) k u.nodes) (sym same) (held_long (rooted ns) p (omega (arith, h)) (omega (arith, length_rooted ns)))
]

-- ---- the queue
pub queued : (rs : List Rec) {len m n : ℕ} {t : List ProofTreeNode} {a b : List ℕ} → length (branch_nodes rs) ≡ len → len ≤ most_identifiers →
    ((ns : List Node) (q : List ℕ) → Lays ns t → Listed q m a → Listed (push_tree_node len ns q 0) n b) →
    t ≡ lay (rooted (branch_nodes rs)) → Listed [] m a → Listed (begun rs).waiting n b
unfolding begun
queued rs {len} {m} {n} {t} {a} {b} e few f l p =
    subst (λ (q : List ℕ). Listed q n b)
    (ap (λ (k : ℕ). push_tree_node k (rooted (branch_nodes rs)) [] 0) (sym (length_rooted (branch_nodes rs) ∙ e)))
    (f (rooted (branch_nodes rs)) [] (record { fits = omega (arith, length_rooted (branch_nodes rs)); laid = l }) p)
