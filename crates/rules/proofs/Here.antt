-- Nodes made one after the other, and the identifiers that they get.
use Prim.Native.Nat.{ℕ, ◌+◌, ◌≤◌, ◌<◌}
use mathlib.Core.Path.{◌≡◌, refl, sym, ap, ◌∙◌, subst}
use mathlib.Core.List.{List, [], ◌∷◌, ◌++◌, map, reverse, append_assoc, append-nil, map-append}
use native.Mathlib.Omega.{arith}
use lib.ListN.{length, length-append, length-map, length-reverse}
use Rattle.definition.specs.Limits.{most_identifiers}
use Rattle.definition.specs.Tree.{Node, new_node}
use Rattle.definition.specs.Subtree.{with_middle, with_left_right, flat, turned, numbered}
use Rattle.tree.specs.Chain.{chain_of, empty_chain}
use Rattle.tree.specs.Lay.{HasNodes}
use Rattle.tree.specs.declared.Chain.{Chain}
use Rattle.tree.specs.declared.ProofTree.{ProofTree}
use Rattle.subtree.specs.declared.ProofSubtree.{ProofSubtree}
use Rattle.subtree.specs.Subtree.{subtree_of}
use Rattle.tree.specs.Sequence.{id_at}
use Rattle.tree.proofs.Sequence.{id_fits}
use Rattle.tree.proofs.Nodes.{held_ok, held_fits, held_as}
use Rattle.rules.specs.Here.{in_middle, in_left_right, Here}

-- what a function that makes the nodes xs does
abbrev pub Adds : ProofTree → List Node → ProofTree → Type 0
Adds t xs u = (ns : List Node) → HasNodes ns t → HasNodes (ns ++ xs) u

pub adds_both : (t u v : ProofTree) (xs ys : List Node) → Adds t xs u → Adds u ys v → Adds t (xs ++ ys) v
adds_both t u v xs ys f g ns h = subst (λ (l : List Node). HasNodes l v) (append_assoc ns xs ys) (g (ns ++ xs) (f ns h))

-- a subtree is its three chains
pub by_chains : (s : ProofSubtree) {l m r : Chain} → s.left ≡ l → s.middle ≡ m → s.right ≡ r → s ≡ (record { left = l; middle = m; right = r })
by_chains s a b c = rw (← a, ← b, ← c) refl

-- ---- the chains: their identifiers were drawn, so they are known where all nodes fit
module _ {ns : List Node} (t : ProofTree) (x w : ℕ) (has : HasNodes ns t) where
  abbrev nodes : List ℕ → List Node
  nodes fs = map (λ f. new_node x f w) (reverse fs)

  nodes_length : (fs : List ℕ) → length (ns ++ nodes fs) ≡ length ns + length fs
  nodes_length fs = simp (length-append, length-map, length-reverse)

  -- the first identifier of nodes that are made below those of t
  first : {s : ℕ} → s ≡ id_at t.len → length ns < most_identifiers → s ≡ length ns
  first e h = let g = held_fits has (omega (arith, h)) in let k = (held_ok has g).0 in e ∙ id_fits t.len (omega (arith, h, k)) ∙ sym k

  pub here_none : (r : ProofSubtree) → r ≡ (record { left = empty_chain; middle = empty_chain; right = empty_chain }) → Here ns x w (with_middle []) r t
  unfolding flat turned numbered chain_of subtree_of
  here_none r e =
      rw e
      record {
        nodes = held_as (ns ++ []) (sym (append-nil ns)) has;
        chains = λ h. refl;
        below = λ h. record { on_left = omega arith; on_middle = omega arith; on_right = omega arith };
      }

  pub here_middle : {s : ℕ} {r : ProofSubtree} {u : ProofTree} (f : ℕ) (fs : List ℕ) → s ≡ id_at t.len → Adds t (nodes (f ∷ fs)) u → r ≡ in_middle s (length (f ∷ fs)) → Here ns x w (with_middle (f ∷ fs)) r u
  unfolding flat turned numbered chain_of subtree_of
  here_middle {s} f rest id adds e =
      let fs = f ∷ rest in
      let z : length ns + 0 ≡ length ns = omega arith in
      let same : nodes fs ≡ map (λ (f : ℕ). new_node x f w) (reverse fs ++ []) = ap (map (λ (f : ℕ). new_node x f w)) (sym (append-nil (reverse fs))) in
      let k : length (ns ++ map (λ (f : ℕ). new_node x f w) (reverse fs ++ [])) ≡ length ns + length fs = ap (λ (l : List Node). length (ns ++ l)) (sym same) ∙ nodes_length fs in
      let at : length (ns ++ map (λ (f : ℕ). new_node x f w) (reverse fs ++ [])) ≤ most_identifiers → s ≡ length ns = λ h. first id (omega (arith, h, k)) in
      rw e
      record {
        nodes = held_as (ns ++ map (λ (f : ℕ). new_node x f w) (reverse fs ++ [])) (ap (λ (l : List Node). ns ++ l) same) (adds ns has);
        chains = λ h. rw (at h, z) refl;
        below = λ h. record { on_left = omega arith; on_middle = omega (arith, k, at h); on_right = omega arith };
      }

  pub here_split : {s s2 : ℕ} {r : ProofSubtree} (u : ProofTree) {v : ProofTree} (f : ℕ) (fs gs : List ℕ) → length gs ≡ length (f ∷ fs) → s ≡ id_at t.len → s2 ≡ id_at u.len
      → Adds t (nodes (f ∷ fs)) u → Adds u (map (λ f. new_node x f w) (reverse gs)) v
      → r ≡ in_left_right s s2 (length (f ∷ fs)) → Here ns x w (with_left_right (f ∷ fs) gs) r v
  unfolding flat turned numbered chain_of subtree_of
  here_split {s} {s2} u {v} f rest gs same id id2 adds more e =
      let fs = f ∷ rest in
      let z : (length ns + length fs) + 0 ≡ length ns + length fs = omega arith in
      let both = map (λ (f : ℕ). new_node x f w) (reverse fs ++ reverse gs) in
      let parts : nodes fs ++ map (λ (f : ℕ). new_node x f w) (reverse gs) ≡ both = sym (map-append (λ (f : ℕ). new_node x f w) (reverse fs) (reverse gs)) in
      let k : length (ns ++ both) ≡ length ns + (length fs + length gs) = simp (length-append, length-map, length-reverse) in
      let half = nodes_length fs in
      let left : length (ns ++ both) ≤ most_identifiers → s ≡ length ns = λ h. first id (omega (arith, h, k)) in
      let right : length (ns ++ both) ≤ most_identifiers → s2 ≡ length ns + length fs = λ h.
      (let g = held_fits (adds ns has) (omega (arith, h, k, half)) in
      let j = (held_ok (adds ns has) g).0 in
      id2 ∙ id_fits u.len (omega (arith, h, k, half, j, same)) ∙ sym j ∙ half) in
      rw e
      record {
        nodes = held_as (ns ++ both) (ap (λ (l : List Node). ns ++ l) parts) (adds_both t u v (nodes fs) (map (λ (f : ℕ). new_node x f w) (reverse gs)) adds more ns has);
        chains = λ h. rw (right h, left h, z, same) refl;
        below = λ h. record { on_left = omega (arith, k, left h); on_middle = omega arith; on_right = omega (arith, k, right h, same) };
      }
