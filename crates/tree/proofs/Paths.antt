-- Paths, walked from the leaf up, and leaves, walked from a node down.
use Prim.Native.Nat.{ℕ, zero, suc, ◌+◌, ◌-◌, ◌<◌, ◌≤◌}
use mathlib.Core.Path.{◌≡◌, refl, sym, ap, ◌∙◌, subst}
use mathlib.Core.Bool.{Bool, true, false, cond, not, ◌||◌, or-false}
use mathlib.Core.List.{List, [], ◌∷◌, ◌++◌, append_assoc, append-nil}
use native.Mathlib.Omega.{arith}
use native.Mathlib.Numerals.{sub-one}
use borrow.Author.Tests.{eqb-true, ne_eqb}
use lib.ListN.{length, length-append, get_or-eq_default}
use Rattle.definition.specs.Limits.{most_identifiers}
use Rattle.arrays.specs.Listed.{Listed}
use Rattle.definition.specs.Lists.{any, filter}
use Rattle.definition.specs.Records.{nobody, is_nobody}
use Rattle.definition.specs.Tree.{Node, new_node, node_at, is_contradictory, is_leaf, only, leaves_below, upward, leaves, path}
use Rattle.definition.specs.Subtree.{takes}
use Rattle.definition.specs.TreeShape.{placed, Treed}
use Rattle.definition.proofs.Paths.Takers.{closed}
use Rattle.definition.proofs.Tree.Nodes.{node_append}
use Rattle.definition.specs.Shortcuts.{open_below}
use Rattle.definition.proofs.Engine.BelowTarget.{takers_out, takers_closed, takers_below}
use Rattle.tree.specs.declared.ProofTree.{ProofTree}
use Rattle.tree.specs.Lay.{Laid}
use Rattle.tree.specs.Outside.{leaves_outside}
use Rattle.tree.specs.Stands.{Stands}

-- ---- in the tree as it stood
pub node_in : {t : List Node} {n : ℕ} {z : ProofTree} (d : Stands t n z) (x : ℕ) → x < n → false ≡ is_nobody x
node_in {t} d x h = sym (ne_eqb x nobody (λ e. omega (arith, e, h, d.count, d.lays.fits, length-append t d.more)))

pub parent_in : {t : List Node} {n : ℕ} {z : ProofTree} (d : Stands t n z) (x up : ℕ) → x < n → ((ns : List Node) → Laid ns z → up ≡ (node_at ns x).parent) → up ≡ (node_at t x).parent
parent_in {t} d x up h e = e (t ++ d.more) d.lays ∙ ap (λ (n : Node). n.parent) (node_append t d.more x (omega (arith, d.count)))

-- ---- from the leaf up
pub up_zero : (t : List Node) (x : ℕ) → upward 0 t x ≡ []
unfolding upward
up_zero t x = refl

pub up_nobody : (t : List Node) (d x : ℕ) → is_nobody x ≡ true → upward d t x ≡ []
unfolding upward
up_nobody t zero x e = refl
up_nobody t (suc d) x e = rw e refl

pub up_node : (t : List Node) (d x : ℕ) → is_nobody x ≡ false → upward (suc d) t x ≡ x ∷ upward d t (node_at t x).parent
unfolding upward
up_node t d x e = rw e refl

-- A climb: a loop that goes from x up, parent by parent, for at most len turns. `left` is what it is after, told of what is left of the
-- path; that is the same at every turn.
pub climb_start : {G : Type 0} (t : List Node) (left : List ℕ → G) (len x : ℕ) → length t ≡ len → left (upward (len - 0) t x) ≡ left (path t x)
unfolding path
climb_start t left len x e = ap (λ (d : ℕ). left (upward d t x)) (omega arith)

module _ {G : Type 0} (t : List Node) (left : List ℕ → G) {goal : G} (len k cur : ℕ) (inv : left (upward (len - k) t cur) ≡ goal) where
  pub climb_none : {b : Bool} → b ≡ is_nobody cur → b ≡ true → left [] ≡ goal
  climb_none e h = ap left (sym (up_nobody t (len - k) cur (sym e ∙ h))) ∙ inv

  pub climb_end : len ≤ k → left [] ≡ goal
  climb_end h =
      let z : len - k ≡ 0 = omega arith in
      ap left (sym (ap (λ (d : ℕ). upward d t cur) z ∙ up_zero t cur)) ∙ inv

  pub climb_next : {b : Bool} → k < len → b ≡ is_nobody cur → b ≡ false → (up : ℕ) → up ≡ (node_at t cur).parent → left (cur ∷ upward (len - (k + 1)) t up) ≡ goal
  climb_next h e node up u =
      let z : len - k ≡ suc (len - (k + 1)) = omega arith in
      ap (λ (x : ℕ). left (cur ∷ upward (len - (k + 1)) t x)) u
      ∙ ap left (sym (ap (λ (d : ℕ). upward d t cur) z ∙ up_node t (len - (k + 1)) cur (sym e ∙ node))) ∙ inv

-- a climb that looks for a node which passes the test
module _ (t : List Node) (p : ℕ → Bool) {goal : Bool} (len k cur : ℕ) (inv : any p (upward (len - k) t cur) ≡ goal) {b : Bool} (h : k < len) (e : b ≡ is_nobody cur) (node : b ≡ false)
    {v : Bool} (q : v ≡ p cur) where
  pub climb_hit : v ≡ true → true ≡ goal
  climb_hit s = ap (λ (w : Bool). w || any p (upward (len - (k + 1)) t (node_at t cur).parent)) (sym (sym q ∙ s)) ∙ climb_next t (any p) len k cur inv h e node (node_at t cur).parent refl

  pub climb_miss : v ≡ false → (up : ℕ) → up ≡ (node_at t cur).parent → any p (upward (len - (k + 1)) t up) ≡ goal
  climb_miss s up u = ap (λ (w : Bool). w || any p (upward (len - (k + 1)) t up)) (sym (sym q ∙ s)) ∙ climb_next t (any p) len k cur inv h e node up u

-- a climb that met a number of no node of the tree
module _ (t : List Node) (p : ℕ → Bool) {goal : Bool} (len k cur : ℕ) (inv : any p (upward (len - k) t cur) ≡ goal) (e : length t ≡ len) (h : k < len) (out : len ≤ cur) {b : Bool} (n : b ≡ is_nobody cur) where
  pub climb_out_none : b ≡ true → not b ≡ goal
  climb_out_none q = ap not q ∙ climb_none t (any p) len k cur inv n q

  pub climb_out : b ≡ false → {v : Bool} → v ≡ p cur → v ≡ goal
  climb_out q told =
      told ∙ sym (or-false (p cur)) ∙ ap (λ (l : List ℕ). any p (cur ∷ l)) (sym (up_nobody t (len - (k + 1)) nobody refl))
      ∙ climb_next t (any p) len k cur inv h n q nobody (sym (ap (λ (m : Node). m.parent) (get_or-eq_default t (new_node nobody nobody nobody) {n = cur} (omega (arith, e)))))

-- what a climb of `path_is_contradictory` looks for
abbrev pub closes : List Node → ℕ → Bool
closes t x = is_contradictory (node_at t x)

-- ---- lists
pub listed_as : {n : ℕ} {a l : List ℕ} (m : List ℕ) → l ≡ m → Listed l n a → Listed m n a
listed_as {n} {a} m e p = subst (λ (v : List ℕ). Listed v n a) e p

-- nothing more
pub listed_more : {n : ℕ} {a : List ℕ} (l m : List ℕ) → m ≡ [] → Listed l n a → Listed (l ++ m) n a
listed_more l m e p = listed_as (l ++ m) (sym (ap (λ (v : List ℕ). l ++ v) e ∙ append-nil l)) p

-- ---- from a node down
-- the leaves of the tree
pub leaves_as : (t : List Node) (len : ℕ) → length t ≡ len → leaves_below len t 0 ≡ leaves t
unfolding leaves
leaves_as t len e = ap (λ (d : ℕ). leaves_below d t 0) (sym e)

-- three lists, one after the other
three_appended : (k u v w s : List ℕ) → u ++ (v ++ w) ≡ s → ((k ++ u) ++ v) ++ w ≡ k ++ s
three_appended k u v w s e = append_assoc (k ++ u) v w ∙ append_assoc k u (v ++ w) ∙ ap (λ (z : List ℕ). k ++ z) e

-- nobody has no child
pub nobody_leaf : (t : List Node) (x : ℕ) → length t ≤ most_identifiers → is_nobody x ≡ true → is_leaf (node_at t x).children ≡ true
unfolding is_leaf
nobody_leaf t x h e =
    let q = eqb-true x nobody e in
    ap (λ (n : Node). is_leaf n.children) (get_or-eq_default t (new_node nobody nobody nobody) {n = x} (omega (arith, q)))

-- A walk down that leaves out some nodes.
module _ (t : List Node) (p : ℕ → Bool) where
  none_below : (d x : ℕ) → is_nobody x ≡ true → leaves_outside p d t x ≡ []
  unfolding leaves_outside
  none_below zero x e = rw e refl
  none_below (suc d) x e = rw e refl

  left_out : (d x : ℕ) → is_nobody x ≡ false → p x ≡ true → leaves_outside p d t x ≡ []
  unfolding leaves_outside
  left_out zero x e s = rw (e, s) refl
  left_out (suc d) x e s = rw (e, s) refl

  at_end : (x : ℕ) → is_nobody x ≡ false → p x ≡ false → leaves_outside p 0 t x ≡ x ∷ []
  unfolding leaves_outside
  at_end x e s = rw (e, s) refl

  at_node : (d x : ℕ) → is_nobody x ≡ false → p x ≡ false → let c = (node_at t x).children in leaves_outside p (suc d) t x ≡ cond (is_leaf c) (x ∷ []) (leaves_outside p d t c.left ++ (leaves_outside p d t c.middle ++ leaves_outside p d t c.right))
  unfolding leaves_outside
  at_node d x e s = rw (e, s) refl

-- none is left out
all_at : (t : List Node) → length t ≤ most_identifiers → (x : ℕ) (further : List ℕ) → let c = (node_at t x).children in cond (is_nobody x) [] (cond (is_leaf c) (x ∷ []) further) ≡ cond (is_leaf c) (only x) further
unfolding only
all_at t h x further = go (is_nobody x) refl
  where
    go : (b : Bool) → is_nobody x ≡ b → let c = (node_at t x).children in cond (is_nobody x) [] (cond (is_leaf c) (x ∷ []) further) ≡ cond (is_leaf c) (cond (is_nobody x) [] (x ∷ [])) further
    go true e = rw (nobody_leaf t x h e, e) refl
    go false e = rw e refl

pub all_below : (t : List Node) → length t ≤ most_identifiers → (d x : ℕ) → leaves_outside (λ y. false) d t x ≡ leaves_below d t x
unfolding leaves_outside leaves_below only
all_below t h zero x = refl
all_below t h (suc d) x =
    let c = (node_at t x).children in
    rw (all_below t h d c.left, all_below t h d c.middle, all_below t h d c.right) (all_at t h x (leaves_below d t c.left ++ (leaves_below d t c.middle ++ leaves_below d t c.right)))

-- the contradictory nodes are left out
pub open_is : (t : List Node) (d x : ℕ) → leaves_outside (closes t) d t x ≡ open_below d t x
unfolding leaves_outside open_below
open_is t zero x = refl
open_is t (suc d) x = let c = (node_at t x).children in rw (open_is t d c.left, open_is t d c.middle, open_is t d c.right) refl

-- what a walk has listed, turn by turn
module _ (t : List Node) (p : ℕ → Bool) (d x : ℕ) (k : List ℕ) {b : Bool} (e : b ≡ is_nobody x) where
  pub walk_none : {n : ℕ} {a : List ℕ} → b ≡ true → Listed k n a → Listed (k ++ leaves_outside p d t x) n a
  walk_none q = listed_more k (leaves_outside p d t x) (none_below t p d x (sym e ∙ q))

  module _ (q : b ≡ false) {c : Bool} (f : c ≡ p x) where
    pub walk_shut : {n : ℕ} {a : List ℕ} → c ≡ true → Listed k n a → Listed (k ++ leaves_outside p d t x) n a
    walk_shut u = listed_more k (leaves_outside p d t x) (left_out t p d x (sym e ∙ q) (sym f ∙ u))

    module _ (u : c ≡ false) where
      ends : leaves_outside p 0 t x ≡ x ∷ []
      ends = at_end t p x (sym e ∙ q) (sym f ∙ u)

      pub walk_end : {n : ℕ} {a : List ℕ} → d ≡ 0 → Listed (k ++ (x ∷ [])) n a → Listed (k ++ leaves_outside p d t x) n a
      walk_end z = listed_as (k ++ leaves_outside p d t x) (ap (λ (v : List ℕ). k ++ v) (sym (ap (λ (j : ℕ). leaves_outside p j t x) z ∙ ends)))

      module _ {v : Bool} (w : v ≡ is_leaf (node_at t x).children) where
        pub walk_leaf : {n : ℕ} {a : List ℕ} → v ≡ true → Listed (k ++ (x ∷ [])) n a → Listed (k ++ leaves_outside p d t x) n a
        walk_leaf y = listed_as (k ++ leaves_outside p d t x) (ap (λ (z : List ℕ). k ++ z) (sym (go d)))
          where
            go : (j : ℕ) → leaves_outside p j t x ≡ x ∷ []
            go zero = ends
            go (suc j) = at_node t p j x (sym e ∙ q) (sym f ∙ u) ∙ rw (← w, y) refl

        -- its children, read one by one
        pub walk_deep : {n : ℕ} {a : List ℕ} (l m r : ℕ) → l ≡ (node_at t x).children.left → m ≡ (node_at t x).children.middle → r ≡ (node_at t x).children.right → (d ≡ 0 → ⊥) → v ≡ false →
            Listed (((k ++ leaves_outside p (d - 1) t l) ++ leaves_outside p (d - 1) t m) ++ leaves_outside p (d - 1) t r) n a → Listed (k ++ leaves_outside p d t x) n a
        walk_deep l m r el em er z y =
            listed_as (k ++ leaves_outside p d t x)
            (three_appended k (leaves_outside p (d - 1) t l) (leaves_outside p (d - 1) t m) (leaves_outside p (d - 1) t r) (leaves_outside p d t x) (go d z))
          where
            go : (j : ℕ) → (j ≡ 0 → ⊥) → leaves_outside p (j - 1) t l ++ (leaves_outside p (j - 1) t m ++ leaves_outside p (j - 1) t r) ≡ leaves_outside p j t x
            go zero z = absurd (z refl)
            go (suc j) z = rw sub-one (sym (at_node t p j x (sym e ∙ q) (sym f ∙ u) ∙ rw (← w, y, el, em, er) refl))

-- ---- the leaves that take what goes below the target
module _ (t : List Node) (r : Treed t) (g : ℕ) {b : Bool} (e : b ≡ placed (node_at t g).place) where
  pub takers_none : {n : ℕ} {a : List ℕ} → b ≡ false → Listed [] n a → Listed (filter (takes t g) (leaves t)) n a
  takers_none u = listed_as (filter (takes t g) (leaves t)) (sym (takers_out t r g (sym e ∙ u)))

  module _ (u : b ≡ true) {c : Bool} (f : c ≡ closed t g) where
    pub takers_shut : {n : ℕ} {a : List ℕ} → c ≡ true → Listed [] n a → Listed (filter (takes t g) (leaves t)) n a
    takers_shut y = listed_as (filter (takes t g) (leaves t)) (sym (takers_closed t r g (sym e ∙ u) (sym f ∙ y)))

    pub takers_walked : {n : ℕ} {a : List ℕ} → c ≡ false → (len : ℕ) → length t ≡ len → Listed (leaves_outside (closes t) len t g) n a → Listed (filter (takes t g) (leaves t)) n a
    takers_walked y len d =
        listed_as (filter (takes t g) (leaves t)) (open_is t len g ∙ ap (λ (k : ℕ). open_below k t g) (sym d) ∙ sym (takers_below t r g (sym e ∙ u) (sym f ∙ y)))
