-- A subtree's three chains: counted, copied, numbered, linked and queued one after the other.
use Prim.Native.Nat.{ℕ, ◌+◌, ◌<◌, ◌≤◌}
use mathlib.Core.Path.{◌≡◌, refl, sym, ap, ◌∙◌, subst}
use mathlib.Core.List.{List, [], ◌∷◌, ◌++◌, map, reverse, append_assoc, map-append}
use native.Mathlib.Omega.{arith}
use lib.ListN.{length, length-append, length-map}
use Rattle.definition.specs.Limits.{most_identifiers}
use Rattle.arrays.specs.Listed.{Listed}
use Rattle.definition.specs.Lists.{up_from, Each}
use Rattle.definition.specs.Tree.{Node, Place, Left, Middle, Right, new_node, link_chain}
use Rattle.definition.specs.Subtree.{Subtree, flat, turned, numbered, copied, with_middle, append_subtree_on_leaf, push_subtree}
use Rattle.definition.proofs.Tree.Nodes.{length_chain, length_leaf, node_append}
use Rattle.tree.specs.declared.ProofTreeNode.{ProofTreeNode}
use Rattle.tree.specs.Lay.{Held, HasNodes}
use Rattle.tree.specs.declared.Chain.{Chain}
use Rattle.tree.specs.declared.ProofTree.{ProofTree}
use Rattle.tree.specs.Chain.{chain_of, rising_chain, empty_chain, ChainBelow, Spans, DrawnFrom}
use Rattle.tree.proofs.Nodes.{held_ok, held_as}
use Rattle.tree.proofs.Chains.{chain_length, spans_below, spans_chain}
use Rattle.subtree.specs.declared.ProofSubtree.{ProofSubtree}
use Rattle.subtree.specs.Subtree.{subtree_of, Within, Attached}
use Rattle.subtree.proofs.Chains.{more, chain_each}

pub size_of : (s : ProofSubtree) → length (flat (subtree_of s)) ≡ s.left.count + s.middle.count + s.right.count
unfolding flat subtree_of
size_of s =
    let l = chain_of s.left in
    let m = chain_of s.middle in
    let r = chain_of s.right in
    omega (arith, length-append l (m ++ r), length-append m r, chain_length s.left, chain_length s.middle, chain_length s.right)

-- ---- identifiers that are there
pub within_more : (s : ProofSubtree) {m n : ℕ} → m ≤ n → Within s m → Within s n
within_more s h w = record { on_left = omega (arith, w.on_left); on_middle = omega (arith, w.on_middle); on_right = omega (arith, w.on_right) }

pub within_fits : (s : ProofSubtree) {ns : List Node} {len : ℕ} {a : List ProofTreeNode} → len ≤ most_identifiers → Held ns len a → Within s (length ns) → Within s most_identifiers
within_fits s h p w = within_more s (omega (arith, (held_ok p h).0)) w

pub within_hung : (s : ProofSubtree) (ns : List Node) (y : ℕ) (t : Subtree) → Within s (length ns) → Within s (length (append_subtree_on_leaf ns y t))
within_hung s ns y t w = within_more s (omega (arith, length_leaf ns y t)) w

-- ---- copied
copied_more : (t ns : List Node) (xs : List ℕ) → Each (λ x. x < length t) xs → map (copied (t ++ ns)) xs ≡ map (copied t) xs
copied_more t ns [] e = refl
copied_more t ns (x ∷ xs) e =
    ap (λ (n : Node). new_node n.spawner n.formula n.world ∷ map (copied (t ++ ns)) xs) (node_append t ns x e.0)
    ∙ ap (λ (l : List Node). copied t x ∷ l) (copied_more t ns xs e.1)

more_more : (t : List Node) (xs ys : List ℕ) → Each (λ x. x < length t) ys → more (more t xs) ys ≡ more t (xs ++ ys)
more_more t xs ys e =
    ap (λ (v : List Node). more t xs ++ v) (copied_more t (map (copied t) xs) ys e)
    ∙ append_assoc t (map (copied t) xs) (map (copied t) ys)
    ∙ ap (λ (v : List Node). t ++ v) (sym (map-append (copied t) xs ys))

abbrev Copies : Chain → ℕ → List ProofTreeNode → ℕ → List ProofTreeNode → Type 0
Copies c n a m b = (ms : List Node) → Held ms n a → ChainBelow c (length ms) → Held (ms ++ map (copied ms) (chain_of c)) m b

pub copied_all : (s : ProofSubtree) (ns : List Node) {n₀ n₁ n₂ n₃ : ℕ} {a b c d : List ProofTreeNode} → Held ns n₀ a → Within s (length ns)
    → Copies s.left n₀ a n₁ b → Copies s.middle n₁ b n₂ c → Copies s.right n₂ c n₃ d → Held (more ns (flat (subtree_of s))) n₃ d
unfolding flat subtree_of
copied_all s ns p w f g h =
    let l = chain_of s.left in
    let m = chain_of s.middle in
    let r = chain_of s.right in
    let t = more ns l in
    let u = more t m in
    let e = length-append ns (map (copied ns) l) in
    let e' = length-append t (map (copied t) m) in
    held_as (more ns (l ++ (m ++ r)))
    (ap (λ (v : List Node). more v r) (more_more ns l m (chain_each s.middle w.on_middle))
    ∙ more_more ns (l ++ m) r (chain_each s.right w.on_right)
    ∙ ap (more ns) (append_assoc l m r))
    (h u (g t (f ns p w.on_left) (omega (arith, w.on_middle))) (omega (arith, w.on_right)))

-- ---- numbered anew
-- a copy's chain, whose identifiers were drawn after n were issued
module _ (ns : List Node) (c : Chain) {n m : ℕ} {a b : List ProofTreeNode} (r : Chain) (p : Held ns n a) (q : Held (more ns (chain_of c)) m b) (d : DrawnFrom n r m) (small : m ≤ most_identifiers) where
  copy_spans : Spans r n m
  copy_spans = d small

  pub copy_from : n ≤ m
  copy_from = omega (arith, copy_spans.ends)

  pub copy_below : ChainBelow r m
  copy_below = spans_below copy_spans

  pub copy_length : length ns + length (chain_of c) ≡ m
  copy_length = omega (arith, (held_ok q small).0, length-append ns (map (copied ns) (chain_of c)), length-map (chain_of c) (copied ns))

  pub copy_chain : chain_of r ≡ up_from (length (chain_of c)) (length ns)
  copy_chain =
      let e = (held_ok p (omega (arith, copy_from, small))).0 in
      let k : r.count ≡ length (chain_of c) = omega (arith, copy_spans.ends, copy_length, e) in
      spans_chain copy_spans ∙ ap (λ (j : ℕ). up_from j n) k ∙ ap (up_from (length (chain_of c))) (sym e)

abbrev three : List ℕ → List ℕ → List ℕ → Subtree
three l m r = record { left = l; middle = m; right = r }

threes : {l l' m m' r r' : List ℕ} → l ≡ l' → m ≡ m' → r ≡ r' → three l m r ≡ three l' m' r'
threes {l} {l'} {m} {m'} {r} {r'} e f g = ap (λ (v : List ℕ). three v m r) e ∙ ap (λ (v : List ℕ). three l' v r) f ∙ ap (three l' m') g

-- what `copy_chain` does
abbrev CopiesTo : Chain → ProofTree → Chain → ProofTree → Type 0
CopiesTo c t r u = DrawnFrom t.len r u.len × Copies c t.len t.nodes u.len u.nodes

pub attached : (s : ProofSubtree) (ns : List Node) (t t₁ t₂ t₃ : ProofTree) (l m r : Chain) → HasNodes ns t → Within s (length ns)
    → CopiesTo s.left t l t₁ → CopiesTo s.middle t₁ m t₂ → CopiesTo s.right t₂ r t₃
    → Attached ns s (record { left = l; middle = m; right = r }) t₃
unfolding subtree_of numbered
attached s ns t t₁ t₂ t₃ l m r p w f g h =
    record {
      nodes = copied_all s ns p w f.1 g.1 h.1;
      chains = λ small.
          let ends = (h.0 small).ends in
          let small-m : t₂.len ≤ most_identifiers = omega (arith, ends, small) in
          let ends-m = (g.0 small-m).ends in
          let small-l : t₁.len ≤ most_identifiers = omega (arith, ends-m, small-m) in
          let u = more ns (chain_of s.left) in
          let v = more u (chain_of s.middle) in
          let pl = f.1 ns p w.on_left in
          let el = length-append ns (map (copied ns) (chain_of s.left)) in
          let pm = g.1 u pl (omega (arith, w.on_middle, el)) in
          let em = length-append u (map (copied u) (chain_of s.middle)) in
          let pr = h.1 v pm (omega (arith, w.on_right, el, em)) in
          let nl = copy_length ns s.left l p pl f.0 small-l in
          let nm = copy_length u s.middle m pl pm g.0 small-m in
          let hl = (held_ok pl small-l).0 in
          let hm = (held_ok pm small-m).0 in
          record {
            are =
                threes (copy_chain ns s.left l p pl f.0 small-l)
                (copy_chain u s.middle m pl pm g.0 small-m ∙ ap (up_from (length (chain_of s.middle))) (omega (arith, hl, nl)))
                (copy_chain v s.right r pm pr h.0 small ∙ ap (up_from (length (chain_of s.right))) (omega (arith, hl, nl, hm, nm)));
            within =
                record {
                  on_left = omega (arith, copy_below ns s.left l p pl f.0 small-l, ends, ends-m);
                  on_middle = omega (arith, copy_below u s.middle m pl pm g.0 small-m, ends);
                  on_right = copy_below v s.right r pm pr h.0 small;
                };
          };
    }

pub middle_only : (s : ProofSubtree) (start count : ℕ) → s.left ≡ empty_chain → s.middle ≡ rising_chain start count → s.right ≡ empty_chain
    → (subtree_of s ≡ with_middle (up_from count start)) × ((m : ℕ) → start + count ≤ m → Within s m)
unfolding subtree_of chain_of
middle_only s start count l m r = rw (l, m, r) (refl, λ n h. record { on_left = omega arith; on_middle = h; on_right = omega arith })

-- ---- linked below a leaf
abbrev Links : Chain → ℕ → Place → ProofTree → ProofTree → Type 0
Links c y p t u = (ms : List Node) → HasNodes ms t → (length ms ≤ most_identifiers → ChainBelow c (length ms)) → HasNodes (link_chain ms y p (chain_of c)) u

pub hung : (s : ProofSubtree) (ns : List Node) (y : ℕ) {t₀ t₁ t₂ t₃ : ProofTree} → HasNodes ns t₀ → (length ns ≤ most_identifiers → Within s (length ns))
    → Links s.left y Left t₀ t₁ → Links s.middle y Middle t₁ t₂ → Links s.right y Right t₂ t₃ → HasNodes (append_subtree_on_leaf ns y (subtree_of s)) t₃
unfolding append_subtree_on_leaf subtree_of
hung s ns y p w f g h =
    let t = link_chain ns y Left (chain_of s.left) in
    let u = link_chain t y Middle (chain_of s.middle) in
    let e = length_chain ns y Left (chain_of s.left) in
    let e' = length_chain t y Middle (chain_of s.middle) in
    h u
    (g t (f ns p (λ i. (w i).on_left)) (λ i. omega (arith, e, (w (omega (arith, e, i))).on_middle)))
    (λ i. omega (arith, e, e', (w (omega (arith, e, e', i))).on_right))

-- ---- queued
abbrev Turned : Chain → Chain → Type 0
Turned c d = (chain_of d ≡ reverse (chain_of c)) × (d.start.0 ≡ c.start.0) × (d.count ≡ c.count)

pub pushed_turned : (c d : Chain) (q : List ℕ) {n n' : ℕ} {a b : List ℕ} → Turned c d → Listed q n a → ChainBelow c most_identifiers
    → ((l : List ℕ) → Listed l n a → ChainBelow d most_identifiers → Listed (l ++ chain_of d) n' b) → Listed (q ++ reverse (chain_of c)) n' b
pushed_turned c d q {n} {n'} {a} {b} t p w f = subst (λ (l : List ℕ). Listed (q ++ l) n' b) t.0 (f q p (omega (arith, t.1, t.2)))

pub pushed_all : (s : ProofSubtree) (q : List ℕ) {n : ℕ} {a : List ℕ} → Listed (((q ++ reverse (chain_of s.left)) ++ reverse (chain_of s.middle)) ++ reverse (chain_of s.right)) n a
    → Listed (push_subtree q (subtree_of s)) n a
unfolding push_subtree flat turned subtree_of
pushed_all s q {n} {a} p =
    let l = reverse (chain_of s.left) in
    let m = reverse (chain_of s.middle) in
    let r = reverse (chain_of s.right) in
    subst (λ (v : List ℕ). Listed v n a) (append_assoc (q ++ l) m r ∙ append_assoc q l (m ++ r)) p
