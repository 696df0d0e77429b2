-- Chains turned round, and the loops that copy and queue a chain.
use Prim.Native.Nat.{ℕ, ◌+◌, ◌<◌, ◌≤◌}
use mathlib.Core.Path.{◌≡◌, refl, sym, ap, ◌∙◌, subst}
use mathlib.Core.Bool.{Bool, true, false, cond, not}
use mathlib.Core.List.{List, [], ◌∷◌, ◌++◌, map, reverse, append_assoc, append-nil, reverse-reverse, map-append}
use native.Mathlib.Omega.{arith}
use native.Mathlib.Numerals.{add-one}
use lib.ListN.{length, get_or, take, length-append}
use lib.Seq.{take-suc, take_all}
use Rattle.definition.specs.Limits.{most_identifiers}
use Rattle.arrays.specs.Listed.{Listed}
use Rattle.definition.specs.Lists.{up_from, Each}
use Rattle.definition.specs.Tree.{Node, node_at, new_node}
use Rattle.definition.specs.Subtree.{copied}
use Rattle.definition.proofs.Basics.Lists.{each_map, each_reverse, up_from_each}
use Rattle.definition.proofs.Tree.Nodes.{node_append}
use Rattle.tree.specs.declared.ProofTreeNode.{ProofTreeNode}
use Rattle.tree.specs.Lay.{lay, Lays, Held, held, too_many}
use Rattle.tree.specs.declared.Chain.{Chain}
use Rattle.tree.specs.Chain.{chain_of, ChainBelow}
use Rattle.tree.proofs.Nodes.{held_ok, held_same, held_as}
use Rattle.tree.proofs.Chains.{chain_length, chain_up, chain_down}

-- ---- a chain, from its top or from its bottom
abbrev run : Bool → ℕ → ℕ → List ℕ
run b n s = cond b (up_from n s) (reverse (up_from n s))

pub turned_chain : (c d : Chain) → d.rising ≡ not c.rising → d.start.0 ≡ c.start.0 → d.count ≡ c.count → chain_of d ≡ reverse (chain_of c)
unfolding chain_of
turned_chain c d e s n =
    ap (λ (b : Bool). run b d.count d.start.0) e
    ∙ ap (λ (k : ℕ). run (not c.rising) k d.start.0) n
    ∙ ap (λ (k : ℕ). run (not c.rising) c.count k) s
    ∙ go c.rising
  where
    go : (b : Bool) → run (not b) c.count c.start.0 ≡ reverse (run b c.count c.start.0)
    go true = refl
    go false = sym (reverse-reverse (up_from c.count c.start.0))

pub chain_each : (c : Chain) {m : ℕ} → ChainBelow c m → Each (λ x. x < m) (chain_of c)
unfolding chain_of
chain_each c {m} below = go c.rising
  where
    up : Each (λ x. x < m) (up_from c.count c.start.0)
    up = each_map (λ x (h : (c.start.0 ≤ x) × (x < c.start.0 + c.count)). omega (arith, h.1, below)) (up_from c.count c.start.0) (up_from_each c.count c.start.0)

    go : (b : Bool) → Each (λ x. x < m) (run b c.count c.start.0)
    go true = up
    go false = each_reverse (λ x. x < m) (up_from c.count c.start.0) up

chain_bound : (c : Chain) (k : ℕ) → k < c.count → get_or (chain_of c) k 0 < c.start.0 + c.count
chain_bound c k h = go c.rising refl
  where
    go : (b : Bool) → c.rising ≡ b → get_or (chain_of c) k 0 < c.start.0 + c.count
    go true e = omega (arith, chain_up c k e h)
    go false e = omega (arith, chain_down c k e h)

-- ---- the loop of `copy_chain`
abbrev pub more : List Node → List ℕ → List Node
more t c = t ++ map (copied t) c

snoc_copy : (t : List Node) (ch : List ℕ) (k : ℕ) → k < length ch → more t (take k ch) ++ (copied t (get_or ch k 0) ∷ []) ≡ more t (take (k + 1) ch)
snoc_copy t ch k h =
    append_assoc t (map (copied t) (take k ch)) (copied t (get_or ch k 0) ∷ [])
    ∙ ap (λ (v : List Node). t ++ v) (sym (map-append (copied t) (take k ch) (get_or ch k 0 ∷ [])))
    ∙ ap (λ (v : List ℕ). more t v) (sym (take-suc ch k 0 h))
    ∙ ap (λ (j : ℕ). more t (take j ch)) (sym (add-one k))

pub copying_start : (t : List Node) (ch : List ℕ) {len : ℕ} {a : List ProofTreeNode} → Held t len a → Held (more t (take 0 ch)) len a
copying_start t ch h = rw append-nil h

pub copying_next : (t : List Node) (c : Chain) (k : ℕ) {m m' : ℕ} {a b : List ProofTreeNode} (x s f w : ℕ) → k < c.count → ChainBelow c (length t)
    → Held (more t (take k (chain_of c))) m a
    → (ChainBelow c most_identifiers → k < c.count → x ≡ get_or (chain_of c) k 0)
    → ((ns : List Node) → Lays ns a → s ≡ (node_at ns x).spawner)
    → ((ns : List Node) → Lays ns a → f ≡ (node_at ns x).formula)
    → ((ns : List Node) → Lays ns a → w ≡ (node_at ns x).world)
    → ((ns : List Node) → Held ns m a → Held (ns ++ (new_node s f w ∷ [])) m' b)
    → Held (more t (take (k + 1) (chain_of c))) m' b
copying_next t c k {m} {m'} {a} {b} x s f w h g p ex es ef ew new =
    held_as (more t (take (k + 1) ch)) (snoc_copy t ch k hk)
    (held_same (ms ++ (copied t (get_or ch k 0) ∷ [])) (new ms p)
    (length-append ms (new_node s f w ∷ []) ∙ sym (length-append ms (copied t (get_or ch k 0) ∷ []))) (λ q. ap lay (same q p)))
  where
    ch : List ℕ
    ch = chain_of c

    ms : List Node
    ms = more t (take k (chain_of c))

    hk : k < length (chain_of c)
    hk = omega (arith, chain_length c)

    longer : length t ≤ length ms
    longer = omega (arith, length-append t (map (copied t) (take k (chain_of c))))

    same : m' ≤ most_identifiers → Held ms m a → ms ++ (new_node s f w ∷ []) ≡ ms ++ (copied t (get_or ch k 0) ∷ [])
    same q (too_many i j) = absurd (omega (arith, (held_ok (new ms p) q).0, length-append ms (new_node s f w ∷ [])))
    same q (held i j l) =
        let n : Lays ms a = record { fits = omega arith; laid = l } in
        let e : x ≡ get_or (chain_of c) k 0 = ex (omega (arith, longer)) h in
        let o : node_at ms x ≡ node_at t (get_or (chain_of c) k 0) = ap (node_at ms) e ∙ node_append t (map (copied t) (take k (chain_of c))) (get_or (chain_of c) k 0) (omega (arith, chain_bound c k h)) in
        ap (λ (v : ℕ). ms ++ (new_node v f w ∷ [])) (es ms n ∙ ap (λ (y : Node). y.spawner) o)
        ∙ ap (λ (v : ℕ). ms ++ (new_node (node_at t (get_or ch k 0)).spawner v w ∷ [])) (ef ms n ∙ ap (λ (y : Node). y.formula) o)
        ∙ ap (λ (v : ℕ). ms ++ (new_node (node_at t (get_or ch k 0)).spawner (node_at t (get_or ch k 0)).formula v ∷ [])) (ew ms n ∙ ap (λ (y : Node). y.world) o)

pub copying_end : (t : List Node) (c : Chain) (k : ℕ) {m : ℕ} {a : List ProofTreeNode} → c.count ≤ k → Held (more t (take k (chain_of c))) m a → Held (more t (chain_of c)) m a
copying_end t c k {m} {a} h p = subst (λ (l : List ℕ). Held (more t l) m a) (take_all k (chain_of c) (omega (arith, chain_length c))) p

-- ---- the loop of `push_chain`
pub pushing_start : {n : ℕ} {a : List ℕ} (q ch : List ℕ) → Listed q n a → Listed (q ++ take 0 ch) n a
pushing_start q ch p = rw append-nil p

pub pushing_next : (q : List ℕ) (c : Chain) (k x : ℕ) {m m' : ℕ} {a b : List ℕ} → k < c.count → x ≡ get_or (chain_of c) k 0
    → Listed (q ++ take k (chain_of c)) m a → ((l : List ℕ) → Listed l m a → Listed (l ++ (x ∷ [])) m' b) → Listed (q ++ take (k + 1) (chain_of c)) m' b
pushing_next q c k x {m} {m'} {a} {b} h e p f =
    subst (λ (l : List ℕ). Listed l m' b)
    (append_assoc q (take k (chain_of c)) (x ∷ [])
    ∙ ap (λ (v : ℕ). q ++ (take k (chain_of c) ++ (v ∷ []))) e
    ∙ ap (λ (l : List ℕ). q ++ l) (sym (take-suc (chain_of c) k 0 (omega (arith, chain_length c))))
    ∙ ap (λ (j : ℕ). q ++ take j (chain_of c)) (sym (add-one k)))
    (f (q ++ take k (chain_of c)) p)

pub pushing_end : (q : List ℕ) (c : Chain) (k : ℕ) {m : ℕ} {a : List ℕ} → c.count ≤ k → Listed (q ++ take k (chain_of c)) m a → Listed (q ++ chain_of c) m a
pushing_end q c k {m} {a} h p = subst (λ (l : List ℕ). Listed (q ++ l) m a) (take_all k (chain_of c) (omega (arith, chain_length c))) p
