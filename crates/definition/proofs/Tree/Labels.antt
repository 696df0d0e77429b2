-- What holds of every node's label: placing brings no label that was not there.
use mathlib.Core.Path.{◌≡◌, refl, sym, ap, ◌∙◌, subst}
use mathlib.Core.Bool.{true, false}
use mathlib.Core.List.{List, [], ◌∷◌, ◌++◌, map}
use mathlib.Core.Option.{Option}
use mathlib.Core.Logic.{◌⊎◌, inl, inr}
use Prim.Native.Nat.{ℕ, zero, suc, ◌<◌, ◌≤◌, ◌+◌, ◌-◌}
use native.Mathlib.Omega.{arith}
use lib.Dec.{ltb}
use borrow.Author.Tests.{ltb-true, ltb-false}
use lib.ListN.{length, length-append}
use lib.Seq.{get_or-append-add}
use Rattle.definition.specs.Lists.{Each, filter, up_from}
use Rattle.definition.specs.Records.{nobody}
use Rattle.definition.specs.Tree.{Node, Root, Middle, node_at, placed_below, leaves}
use Rattle.definition.specs.Contradiction.{Pair, mark_all}
use Rattle.definition.specs.Run.{rooted}
use Rattle.definition.specs.Subtree.{Subtree, Targeted, flat, numbered, copied, append_subtree_on_leaf, push_subtree, append_copies, append_on, takes, append_subtree, append_logic_rule_result}
use Rattle.definition.proofs.Basics.Lists.{either, each_map, each_of_map}
use Rattle.definition.proofs.Tree.Nodes.{blank, Label, label, label_stable, node_append, chain_keeps, leaf_keeps, mark_keeps, length_chain, length_leaf, length_marks, ext_append, ext_leaf, ext_subtree}
use Rattle.definition.proofs.Basics.Identifiers.{IssuedBetween, issued_le}

-- a node of an appended list
pub node_after : (t ns : List Node) (x : ℕ) → length t ≤ x → node_at (t ++ ns) x ≡ node_at ns (x - length t)
node_after t ns x h =
    let d : x ≡ length t + (x - length t) = omega arith in
    ap (node_at (t ++ ns)) d ∙ get_or-append-add t ns (x - length t) blank

module _ (P : Label → Type 0) where
  abbrev pub Every : List Node → Type 0
  Every t = (x : ℕ) → x < length t → P (label (node_at t x))

  pub each_every : (ns : List Node) → Each (λ (n : Node). P (label n)) ns → Every ns
  each_every [] h x k = absurd (omega arith)
  each_every (n ∷ ns) h zero k = h.0
  each_every (n ∷ ns) h (suc x) k = each_every ns h.1 x (omega arith)

  pub every_append : (t ns : List Node) → Every t → Each (λ (n : Node). P (label n)) ns → Every (t ++ ns)
  every_append t ns e h x k = go (either (ltb x (length t)))
    where
      go : (ltb x (length t) ≡ true) ⊎ (ltb x (length t) ≡ false) → P (label (node_at (t ++ ns) x))
      go (inl q) = let l = ltb-true x (length t) q in rw (node_append t ns x l) (e x l)
      go (inr q) =
          let l = ltb-false x (length t) q in
          rw (node_after t ns x l) (each_every ns h (x - length t) (omega (arith, k, l, length-append t ns)))

  every_leaf : (t : List Node) (y : ℕ) (s : Subtree) → Every t → Every (append_subtree_on_leaf t y s)
  every_leaf t y s e x k = rw (leaf_keeps label label_stable t y s x) (e x (omega (arith, k, length_leaf t y s)))

  every_copies : (ls : List ℕ) (t : List Node) (q : List ℕ) (s : Subtree) → Each (λ x. x < length t) (flat s) → Every t → Every (append_copies t q ls s).nodes
  unfolding append_copies
  every_copies [] t q s h e = e
  every_copies (y ∷ ls) t q s h e =
      let c = numbered (length t) s in
      let ns = map (copied t) (flat s) in
      let u = append_subtree_on_leaf (t ++ ns) y c in
      every_copies ls u (push_subtree q c) s
      (each_map (λ x (k : x < length t). omega (arith, k, (ext_append t ns).longer, (ext_leaf (t ++ ns) y c).longer)) (flat s) h)
      (every_leaf (t ++ ns) y c
      (every_append t ns e (each_of_map (λ (n : Node). P (label n)) (copied t) (flat s) (each_map (λ x (k : x < length t). e x k) (flat s) h))))

  every_on : (ls : List ℕ) (t : List Node) (q : List ℕ) (s : Subtree) → Each (λ x. x < length t) (flat s) → Every t → Every (append_on t q ls s).nodes
  unfolding append_on
  every_on [] t q s h e = e
  every_on (y ∷ ls) t q s h e =
      every_copies ls (append_subtree_on_leaf t y s) (push_subtree q s) s (each_map (λ x (k : x < length t). omega (arith, k, length_leaf t y s)) (flat s) h)
      (every_leaf t y s e)

  pub every_result : (rs : List Targeted) (t : List Node) (q : List ℕ) (lo hi : ℕ) → IssuedBetween lo hi rs → hi ≤ length t → Every t →
      Every (append_logic_rule_result t q rs).nodes
  unfolding append_logic_rule_result append_subtree
  every_result [] t q lo hi i h e = e
  every_result (r ∷ rs) t q lo hi i h e =
      let p = append_subtree t q r.target r.subtree in
      every_result rs p.nodes p.waiting i.0 hi i.2 (omega (arith, h, (ext_subtree t q r.target r.subtree).longer))
      (every_on (filter (takes t r.target) (leaves t)) t q r.subtree
      (each_map (λ x (k : (lo ≤ x) × (x < i.0)). omega (arith, k.1, h, issued_le i.0 hi rs i.2)) (flat r.subtree) i.1.within) e)

  -- marks change no label
  pub every_marks : (ps : List (Option Pair)) (t : List Node) → Every t → Every (mark_all t ps)
  every_marks ps t e x k = subst P (sym (mark_keeps label (λ j n. refl) ps t x)) (e x (omega (arith, k, length_marks ps t)))

  -- the branch is linked, and its labels stay
  pub rooted_every : (ns : List Node) → Each (λ (n : Node). P (label n)) ns → Every (rooted ns)
  unfolding rooted
  rooted_every [] h x k = absurd (omega arith)
  rooted_every (n ∷ ns) h x k =
      let t = placed_below nobody Root n ∷ ns in
      let cs = up_from (length ns) 1 in
      subst P (sym (chain_keeps label label_stable t 0 Middle cs x)) (each_every t h x (omega (arith, k, length_chain t 0 Middle cs)))
