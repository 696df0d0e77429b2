-- What each function reads or does of the nodes that the table holds.
use Prim.Native.Nat.{ℕ, suc, ◌+◌, ◌<◌, ◌≤◌}
use mathlib.Core.Path.{◌≡◌, refl, sym, ap, ◌∙◌, subst}
use mathlib.Core.Bool.{Bool, not}
use mathlib.Core.List.{List, [], ◌∷◌, ◌++◌}
use native.Mathlib.Omega.{arith}
use native.Mathlib.Decide.{dec_le}
use lib.ListN.{length, get_or, set, replicate, length-append}
use lib.Seq.{set_at}
use borrow.Author.Tests.{le-leb, lt-leb}
use Rattle.definition.specs.Limits.{most_identifiers}
use Rattle.definition.specs.Records.{is_nobody}
use Rattle.definition.specs.Tree.{Node, node_at, change, is_contradictory}
use Rattle.definition.proofs.Tree.Nodes.{length_change}
use Rattle.definition.proofs.Tree.Nodes as D
use Rattle.tree.specs.declared.ProofTree.{ProofTree}
use Rattle.tree.specs.declared.ProofTreeNode.{ProofTreeNode}
use Rattle.tree.specs.Lay.{stored, blank, lay, Lays, Held, held, too_many, HasNodes}
use Rattle.tree.specs.Sequence.{Draws}
use Rattle.tree.proofs.Sequence.{id_next, count_full, count_more}
use Rattle.tree.proofs.Entries.{read_at, lay_set, lay_blank}

-- ---- marks
pub marked : (n : Node) {x : Bool} (k : ℕ) → k ≡ n.contrarian → x ≡ is_nobody k → not x ≡ is_contradictory n
unfolding is_contradictory
marked n {x} k e h = rw (h, e) refl

-- ---- the table
pub held_ok : {ns : List Node} {len : ℕ} {a : List ProofTreeNode} → Held ns len a → len ≤ most_identifiers → (length ns ≡ len) × (a ≡ lay ns)
held_ok (held b e q) h = (e, q)
held_ok (too_many b e) h = absurd (omega arith)

pub held_lays : {ns : List Node} {len : ℕ} {a : List ProofTreeNode} → Held ns len a → len ≤ most_identifiers → Lays ns a
held_lays p h = let k = held_ok p h in record { fits = omega (arith, k.0, h); laid = k.1 }

pub held_fits : {ns : List Node} {len : ℕ} {a : List ProofTreeNode} → Held ns len a → length ns ≤ most_identifiers → len ≤ most_identifiers
held_fits (held b e q) h = b
held_fits (too_many b e) h = absurd (omega arith)

-- other nodes, as many, that lie alike
pub held_same : {ns : List Node} {len : ℕ} {a : List ProofTreeNode} (ms : List Node) → Held ns len a → length ns ≡ length ms → (len ≤ most_identifiers → lay ns ≡ lay ms) → Held ms len a
held_same ms (held b e q) l f = held b (sym l ∙ e) (q ∙ f b)
held_same ms (too_many b e) l f = too_many b (omega arith)

pub held_long : {ns : List Node} {len : ℕ} {a b : List ProofTreeNode} (ms : List Node) → Held ns len a → most_identifiers < len → length ns ≤ length ms → Held ms len b
held_long ms (held b e q) h l = absurd (omega arith)
held_long ms (too_many b e) h l = too_many b (omega arith)

pub held_as : {ns : List Node} {len : ℕ} {a : List ProofTreeNode} (ms : List Node) → ns ≡ ms → Held ns len a → Held ms len a
held_as {ns} {len} {a} ms e p = subst (λ (l : List Node). Held l len a) e p

pub held_none : Held [] 0 (replicate most_identifiers blank)
unfolding lay
held_none = held (omega arith) refl refl

-- ---- stores
module _ {ns : List Node} {len : ℕ} {a : List ProofTreeNode} (x : ℕ) (g : Node → Node) (p : Held ns len a) where
  -- the entry of x as a closure gives it
  pub changed : (post : ProofTreeNode → ProofTreeNode → Type 0) (d r : ProofTreeNode) → len ≤ most_identifiers → x < len → post (get_or a x d) r → ((n : Node) (e : ProofTreeNode) → post (stored n) e → e ≡ stored (g n)) → Held (change ns x g) len (set a x r)
  changed post d r h b given gives =
      let q = held_ok p h in
      let same = gives (node_at ns x) r (subst (λ (e : ProofTreeNode). post e r) (read_at ns x d (held_lays p h) (omega arith)) given) in
      held h (length_change ns x g ∙ q.0)
      (ap (λ (l : List ProofTreeNode). set l x r) q.1 ∙ ap (set (lay ns) x) same ∙ lay_set ns x (g (node_at ns x)) (omega (arith, q.0)))

-- ---- a new node
new_over : {ns : List Node} {len : ℕ} {a b : List ProofTreeNode} (n : Node) → most_identifiers ≤ len → Held ns len a → Held (ns ++ (n ∷ [])) (suc most_identifiers) b
new_over {ns} n h (held b e q) = too_many (omega arith) (omega (arith, length-append ns (n ∷ [])))
new_over {ns} n h (too_many b e) = too_many (omega arith) (omega (arith, length-append ns (n ∷ [])))

-- the entry of x becomes that of the node n
abbrev pub Puts : ProofTree → ProofTree → ℕ → Node → Type 0
Puts t u x n = (u.len ≡ t.len) × ((ns : List Node) → HasNodes ns t → HasNodes (change ns x (λ m. n)) u)

new_filled : (ns : List Node) {t u v : ProofTree} (n : Node) → u.len ≡ t.len + 1 → u.nodes ≡ t.nodes → t.len < most_identifiers → Puts u v t.len n → HasNodes ns t → HasNodes (ns ++ (n ∷ [])) v
new_filled ns {t} {u} {v} n z same h put (held i e q) =
    let more = ns ++ (D.blank ∷ []) in
    let start : HasNodes more u = held (omega arith) (omega (arith, length-append ns (D.blank ∷ []))) (same ∙ q ∙ lay_blank ns (omega arith)) in
    held_as (ns ++ (n ∷ [])) (set_at ns D.blank [] n t.len e) (put.1 more start)
new_filled ns n z same h put (too_many i e) = absurd (omega arith)

-- with the identifier that is drawn, where there is room and where there is none
pub new_drawn : (ns : List Node) {t u v : ProofTree} {x : ℕ} (n : Node) → Draws t.len u.len x → u.nodes ≡ t.nodes → Puts u v x n → HasNodes ns t → HasNodes (ns ++ (n ∷ [])) v
new_drawn ns {t} {u} {v} {x} n draws same put p = elim (dec_le most_identifiers t.len) [
  | yes h ↦
      subst (λ (k : ℕ). Held (ns ++ (n ∷ [])) k v.nodes)
      (count_full t.len (sym (le-leb most_identifiers t.len h)) refl ∙ sym (put.0 ∙ draws.count))
      (new_over n h p)
  | no h ↦
      let room = sym (lt-leb most_identifiers t.len (omega arith)) in
      let at : x ≡ t.len = draws.id ∙ sym (id_next t.len room refl) in
      new_filled ns n (draws.count ∙ sym (count_more t.len room refl)) same (omega arith) (subst (λ (k : ℕ). Puts u v k n) at put) p
]
