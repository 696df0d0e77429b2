-- A subtree placed below leaves: one copy, the loop of `append_copies`, all leaves, and the leaves that take it.
use Prim.Native.Nat.{ℕ, suc, ◌+◌, ◌<◌, ◌≤◌}
use mathlib.Core.Path.{◌≡◌, refl, sym, ap, ◌∙◌, subst}
use mathlib.Core.List.{List, [], ◌∷◌, ◌++◌, map, append-nil}
use native.Mathlib.Omega.{arith}
use native.Mathlib.Numerals.{add-one}
use native.Mathlib.Nat.{pos_of_ne-zero}
use lib.ListN.{length, get_or, drop, length-append, length-map, drop_of_length-le}
use lib.Seq.{drop-cons}
use Rattle.definition.specs.Limits.{most_identifiers}
use Rattle.arrays.specs.Listed.{Numbers, Listed, HasList}
use Rattle.arrays.proofs.Tabled.{tabled_count, tabled_many}
use Rattle.definition.specs.Lists.{filter}
use Rattle.definition.specs.Tree.{Node, link_chain, leaves}
use Rattle.definition.specs.Subtree.{Subtree, flat, turned, numbered, copied, Placed, append_subtree_on_leaf, push_subtree, append_copies, append_on, takes, append_subtree}
use Rattle.definition.specs.TreeShape.{Treed}
use Rattle.definition.proofs.Tree.Nodes.{length_leaf, ext_copies, ext_subtree}
use Rattle.definition.proofs.Basics.Identifiers.{flat_numbered, length_from}
use Rattle.tree.specs.declared.ProofTreeNode.{ProofTreeNode}
use Rattle.tree.specs.Lay.{lay, Laid, Held, HasNodes, too_many}
use Rattle.tree.specs.declared.ProofTree.{ProofTree}
use Rattle.tree.proofs.Nodes.{held_ok, held_lays, held_fits, held_same, held_long}
use Rattle.subtree.specs.declared.ProofSubtree.{ProofSubtree}
use Rattle.subtree.specs.Subtree.{subtree_of, Within, Chained, Attached, Left}
use Rattle.subtree.proofs.Chains.{more}
use Rattle.subtree.proofs.Subtrees.{size_of, within_more}

-- ---- a copy below one leaf
pub copy_placed : (s r : ProofSubtree) (ns : List Node) (q : List ℕ) (y : ℕ) (t t₁ t₂ : ProofTree) (w w' : Numbers) → HasNodes ns t → (t.len ≤ most_identifiers → HasList q w) → Within s (length ns)
    → ((ms : List Node) → HasNodes ms t → Within s (length ms) → Attached ms s r t₁)
    → (t₂.len ≡ t₁.len) × ((ms : List Node) → HasNodes ms t₁ → (length ms ≤ most_identifiers → Within r (length ms)) → HasNodes (append_subtree_on_leaf ms y (subtree_of r)) t₂)
    → ((l : List ℕ) → HasList l w → Within r most_identifiers → HasList (push_subtree l (subtree_of r)) w')
    → Left (append_copies ns q (y ∷ []) (subtree_of s)) t₂ w'
unfolding append_copies
copy_placed s r ns q y t t₁ t₂ w w' p f i attaches hangs pushes =
    record {
      nodes =
          held_same (append_subtree_on_leaf u y new) (hangs.1 u here (λ h. let g = held_fits here h in within_more r (omega (arith, (held_ok here g).0)) (copies.chains g).within))
          (length_leaf u y (subtree_of r) ∙ sym (length_leaf u y new)) (λ h. ap (λ (x : Subtree). lay (append_subtree_on_leaf u y x)) (copies.chains (omega (arith, hangs.0, h))).are);
      queue = λ h.
          let g : t₁.len ≤ most_identifiers = omega (arith, hangs.0, h) in
          subst (λ (x : Subtree). HasList (push_subtree q x) w') (copies.chains g).are
          (pushes q (f (held_fits p (omega (arith, (held_ok here g).0, g, length-append ns (map (copied ns) (flat (subtree_of s))))))) (within_more r g (copies.chains g).within));
    }
  where
    new : Subtree
    new = numbered (length ns) (subtree_of s)

    u : List Node
    u = more ns (flat (subtree_of s))

    copies : Attached ns s r t₁
    copies = attaches ns p i

    here : HasNodes (more ns (flat (subtree_of s))) t₁
    here = copies.nodes

-- ---- the loop of `append_copies`: the copies for the leaves that are left lead to the goal
pub record Copying (goal : Placed) (s : ProofSubtree) (rest : List ℕ) (low : ℕ) (t : ProofTree) (w : Numbers) : Type 0 where
  pub so_far : Placed
  pub here : Left so_far t w
  pub longer : low ≤ length so_far.nodes
  pub same : append_copies so_far.nodes so_far.waiting rest (subtree_of s) ≡ goal

pub copies_start : (ns : List Node) (q : List ℕ) (s : ProofSubtree) (ls : List ℕ) {t : ProofTree} {w : Numbers} → HasNodes ns t → (t.len ≤ most_identifiers → HasList q w)
    → Copying (append_copies ns q ls (subtree_of s)) s ls (length ns) t w
copies_start ns q s ls p f = record { so_far = record { nodes = ns; waiting = q }; here = record { nodes = p; queue = f }; longer = omega arith; same = refl }

copies_cons : (t : List Node) (q : List ℕ) (x : ℕ) (ls : List ℕ) (s : Subtree)
    → append_copies t q (x ∷ ls) s ≡ append_copies (append_copies t q (x ∷ []) s).nodes (append_copies t q (x ∷ []) s).waiting ls s
unfolding append_copies
copies_cons t q x ls s = refl

copies_nil : (t : List Node) (q : List ℕ) (s : Subtree) → append_copies t q [] s ≡ record { nodes = t; waiting = q }
unfolding append_copies
copies_nil t q s = refl

pub copies_next : {goal : Placed} {low : ℕ} {t t' : ProofTree} {w w' : Numbers} (s : ProofSubtree) (ls : List ℕ) (k x : ℕ) → k < length ls → x ≡ get_or ls k 0 → Within s low
    → Copying goal s (drop k ls) low t w
    → ((ns : List Node) (q : List ℕ) → HasNodes ns t → (t.len ≤ most_identifiers → HasList q w) → Within s (length ns) → Left (append_copies ns q (x ∷ []) (subtree_of s)) t' w')
    → Copying goal s (drop (k + 1) ls) low t' w'
copies_next s ls k x h e i c f =
    let t = c.so_far.nodes in
    let q = c.so_far.waiting in
    let v = subtree_of s in
    let p = append_copies t q (x ∷ []) v in
    record {
      so_far = p;
      here = f t q c.here.nodes c.here.queue (within_more s c.longer i);
      longer = omega (arith, c.longer, (ext_copies (x ∷ []) t q v).longer);
      same =
          ap (λ (j : ℕ). append_copies p.nodes p.waiting (drop j ls) v) (add-one k)
          ∙ sym (copies_cons t q x (drop (suc k) ls) v)
          ∙ ap (λ (y : ℕ). append_copies t q (y ∷ drop (suc k) ls) v) e
          ∙ ap (λ (l : List ℕ). append_copies t q l v) (sym (drop-cons ls k 0 h))
          ∙ c.same;
    }

-- what is left, under an equal name
pub left_as : {p : Placed} {t : ProofTree} {w : Numbers} (goal : Placed) → record { nodes = p.nodes; waiting = p.waiting } ≡ goal → Left p t w → Left goal t w
left_as {p} {t} {w} goal e l = subst (λ (x : Placed). Left x t w) e (record { nodes = l.nodes; queue = l.queue })

pub copies_end : {goal : Placed} {low : ℕ} {t : ProofTree} {w : Numbers} (s : ProofSubtree) (ls : List ℕ) (k : ℕ) → length ls ≤ k → Copying goal s (drop k ls) low t w → Left goal t w
copies_end {goal} s ls k h c =
    let t = c.so_far.nodes in
    let q = c.so_far.waiting in
    left_as goal (sym (copies_nil t q (subtree_of s)) ∙ ap (λ (l : List ℕ). append_copies t q l (subtree_of s)) (sym (drop_of_length-le ls h)) ∙ c.same) c.here

-- ---- below all leaves of a list
nil : (l : List ℕ) → length l ≡ 0 → l ≡ []
nil [] e = refl
nil (x ∷ l) e = absurd (omega arith)

module _ (s : ProofSubtree) (ns : List Node) (q ls : List ℕ) {m : ℕ} {found : List ℕ} (l : Listed ls m found) (g : m ≤ most_identifiers) where
  pub on_none : {t : ProofTree} {w : Numbers} → m ≡ 0 → HasNodes ns t → (t.len ≤ most_identifiers → HasList (push_subtree q (subtree_of s)) w)
      → Left (append_on ns q ls (subtree_of s)) t w
  unfolding append_on
  on_none {t} {w} z p k =
      subst (λ (x : List ℕ). Left (append_on ns q x (subtree_of s)) t w) (sym (nil ls (tabled_count l g ∙ z)))
      (record { nodes = p; queue = k })

  pub on_some : {t : ProofTree} {w : Numbers} (x : ℕ) → (m ≡ 0 → ⊥) → x ≡ get_or ls 0 0
      → Left (append_copies (append_subtree_on_leaf ns x (subtree_of s)) (push_subtree q (subtree_of s)) (drop 1 ls) (subtree_of s)) t w → Left (append_on ns q ls (subtree_of s)) t w
  unfolding append_on
  on_some {t} {w} x z e = go ls (tabled_count l g) e
    where
      go : (xs : List ℕ) → length xs ≡ m → x ≡ get_or xs 0 0
          → Left (append_copies (append_subtree_on_leaf ns x (subtree_of s)) (push_subtree q (subtree_of s)) (drop 1 xs) (subtree_of s)) t w → Left (append_on ns q xs (subtree_of s)) t w
      go [] n o k = absurd (z (sym n))
      go (y ∷ xs) n o k = subst (λ (v : ℕ). Left (append_copies (append_subtree_on_leaf ns v (subtree_of s)) (push_subtree q (subtree_of s)) xs (subtree_of s)) t w) o k

-- ---- an empty subtree changes nothing
module _ (s : Subtree) (e : length (flat s) ≡ 0) where
  empty_parts : (s.left ≡ []) × (s.middle ≡ []) × (s.right ≡ [])
  unfolding flat
  empty_parts =
      let a = length-append s.left (s.middle ++ s.right) in
      let b = length-append s.middle s.right in (
        nil s.left (omega arith),
        nil s.middle (omega arith),
        nil s.right (omega arith),
      )

  leaf_nothing : (t : List Node) (y : ℕ) → append_subtree_on_leaf t y s ≡ t
  unfolding append_subtree_on_leaf link_chain
  leaf_nothing t y = rw (empty_parts.0, empty_parts.1, empty_parts.2) refl

  push_nothing : (q : List ℕ) → push_subtree q s ≡ q
  unfolding push_subtree flat turned
  push_nothing q = rw (empty_parts.0, empty_parts.1, empty_parts.2) (append-nil q)

copies_nothing : (ls : List ℕ) (t : List Node) (q : List ℕ) (s : Subtree) → length (flat s) ≡ 0 → append_copies t q ls s ≡ record { nodes = t; waiting = q }
unfolding append_copies
copies_nothing [] t q s e = refl
copies_nothing (x ∷ ls) t q s e =
    let c = numbered (length t) s in
    let z : length (flat (numbered (length t) s)) ≡ 0 = ap length (flat_numbered (length t) s) ∙ length_from (length (flat s)) (length t) ∙ e in
    let u : more t (flat s) ≡ t = ap (more t) (nil (flat s) e) ∙ append-nil t in
    ap (λ (v : List Node). append_copies v (push_subtree q c) ls s) (leaf_nothing c z (more t (flat s)) x ∙ u)
    ∙ ap (λ (v : List ℕ). append_copies t v ls s) (push_nothing c z q)
    ∙ copies_nothing ls t q s e

on_nothing : (ls : List ℕ) (t : List Node) (q : List ℕ) (s : Subtree) → length (flat s) ≡ 0 → append_on t q ls s ≡ record { nodes = t; waiting = q }
unfolding append_on
on_nothing [] t q s e = rw (push_nothing s e q) refl
on_nothing (x ∷ ls) t q s e =
    ap (λ (v : List Node). append_copies v (push_subtree q s) ls s) (leaf_nothing s e t x)
    ∙ ap (λ (v : List ℕ). append_copies t v ls s) (push_nothing s e q)
    ∙ copies_nothing ls t q s e

pub subtree_nothing : (t : List Node) (q : List ℕ) (target : ℕ) (s : Subtree) → length (flat s) ≡ 0 → append_subtree t q target s ≡ record { nodes = t; waiting = q }
unfolding append_subtree
subtree_nothing t q target s e = on_nothing (filter (takes t target) (leaves t)) t q s e

-- ---- as many copies as further leaves: too many leaves are too many nodes
copies_many : (ls : List ℕ) (t : List Node) (q : List ℕ) (s : Subtree) → 0 < length (flat s) → length t + length ls ≤ length (append_copies t q ls s).nodes
unfolding append_copies
copies_many [] t q s h = omega arith
copies_many (x ∷ ls) t q s h =
    let c = numbered (length t) s in
    let u = more t (flat s) in
    omega (
      arith,
      length-append t (map (copied t) (flat s)),
      length-map (flat s) (copied t),
      length_leaf u x c,
      copies_many ls (append_subtree_on_leaf u x c) (push_subtree q c) s h,
    )

on_many : (ls : List ℕ) (t : List Node) (q : List ℕ) (s : Subtree) → 0 < length (flat s) → 0 < length t → most_identifiers < length ls → most_identifiers < length (append_on t q ls s).nodes
unfolding append_on
on_many [] t q s h i j = absurd (omega arith)
on_many (x ∷ ls) t q s h i j = omega (arith, length_leaf t x s, copies_many ls (append_subtree_on_leaf t x s) (push_subtree q s) s h)

-- what `takers` finds
pub found_takers : (target : ℕ) (ns : List Node) (t : ProofTree) (none found : Numbers) → HasNodes ns t → t.len ≤ most_identifiers → (length ns ≤ most_identifiers → Treed ns) → HasList [] none
    → ((ms : List Node) → Treed ms → length ms ≡ t.len → Laid ms t → HasList [] none → HasList (filter (takes ms target) (leaves ms)) found)
    → HasList (filter (takes ns target) (leaves ns)) found
found_takers target ns t none found p h r l f = let z = held_lays p h in f ns (r z.fits) (held_ok p h).0 z l

-- ---- the ways out of `append_subtree`
pub subtree_full : (t : Subtree) (target : ℕ) (ns : List Node) (q : List ℕ) {u : ProofTree} {w : Numbers} → most_identifiers < u.len → HasNodes ns u → Left (append_subtree ns q target t) u w
subtree_full t target ns q h p = record { nodes = held_long (append_subtree ns q target t).nodes p h (ext_subtree ns q target t).longer; queue = λ g. absurd (omega arith) }

-- what the chains of s give is what t gives
pub subtree_as : (s : ProofSubtree) (t : Subtree) (target : ℕ) (ns : List Node) (q : List ℕ) {len : ℕ} {a : List ProofTreeNode} {u : ProofTree} {w : Numbers} → Held ns len a → len ≤ most_identifiers → (length ns ≤ most_identifiers → Chained s t (length ns))
    → (Within s (length ns) → Left (append_subtree ns q target (subtree_of s)) u w) → Left (append_subtree ns q target t) u w
subtree_as s t target ns q {u = u} {w} p h c f = let k = c (omega (arith, (held_ok p h).0, h)) in subst (λ (x : Subtree). Left (append_subtree ns q target x) u w) k.are (f k.within)

module _ (s : ProofSubtree) (target : ℕ) (ns : List Node) (q : List ℕ) where
  pub subtree_none : {t : ProofTree} {w : Numbers} → length (flat (subtree_of s)) ≡ 0 → HasNodes ns t → (t.len ≤ most_identifiers → HasList q w)
      → Left (append_subtree ns q target (subtree_of s)) t w
  subtree_none e p f =
      left_as {p = record { nodes = ns; waiting = q }} (append_subtree ns q target (subtree_of s)) (sym (subtree_nothing ns q target (subtree_of s) e)) (record { nodes = p; queue = f })

  module _ {m : ℕ} {found : List ℕ} (l : Listed (filter (takes ns target) (leaves ns)) m found) where
    pub subtree_many : {t : ProofTree} {w : Numbers} → t.len ≡ suc most_identifiers → (length (flat (subtree_of s)) ≡ 0 → ⊥) → Within s (length ns) → most_identifiers < m
        → Left (append_subtree ns q target (subtree_of s)) t w
    unfolding append_subtree
    subtree_many full e i h =
        let z = pos_of_ne-zero e in
        record {
          nodes =
              too_many (omega arith)
              (on_many (filter (takes ns target) (leaves ns)) ns q (subtree_of s) z (omega (arith, size_of s, i.on_left, i.on_middle, i.on_right)) (tabled_many l h));
          queue = λ g. absurd (omega arith);
        }

    pub subtree_on : {t : ProofTree} {w : Numbers} → m ≤ most_identifiers
        → ((ls : List ℕ) → Listed ls m found → m ≤ most_identifiers → Left (append_on ns q ls (subtree_of s)) t w) → Left (append_subtree ns q target (subtree_of s)) t w
    unfolding append_subtree
    subtree_on h f = f (filter (takes ns target) (leaves ns)) l h
