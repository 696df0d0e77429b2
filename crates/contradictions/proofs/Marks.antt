-- The marks of the new leaves, one after the other, and what they tell.
use Prim.Native.Nat.{ℕ, zero, suc, ◌+◌, ◌-◌, ◌<◌, ◌≤◌}
use mathlib.Core.Path.{◌≡◌, refl, sym, ap, ◌∙◌, subst}
use mathlib.Core.Bool.{Bool, true, false, ◌&&◌, and-true, and_assoc, and-false}
use mathlib.Core.List.{List, [], ◌∷◌, ◌++◌, map}
use mathlib.Core.Option.{Option}
use native.Mathlib.Omega.{arith}
use lib.ListN.{length}
use Rattle.definition.specs.Limits.{most_identifiers}
use Rattle.definition.specs.Lists.{all, filter, empty, up_from}
use Rattle.definition.specs.Records.{Rec, nobody}
use Rattle.definition.specs.Tree.{Node, node_at, is_leaf, leaves}
use Rattle.definition.specs.Subtree.{takes}
use Rattle.definition.specs.Contradiction.{Pair, is_pair, mark, mark_all, pairs}
use Rattle.definition.proofs.Tree.Nodes.{length_marks}
use Rattle.definition.specs.TreeShape.{spots, placed, In, Treed}
use Rattle.definition.proofs.Run.TreeKept.{marks_keep}
use Rattle.definition.specs.Shortcuts.{pair_of, bare_at, pair_at, closed_at, new_pairs, NoPairAbove, CheckedAt}
use Rattle.definition.proofs.Engine.NewLeaves.{above_marked, pair_at_marked, closed_at_marked, open_new, since_marks, since_open}
use Rattle.tree.specs.declared.ProofTree.{ProofTree}
use Rattle.tree.specs.declared.ProofTreeNode.{ProofTreeNode}
use Rattle.tree.specs.Lay.{Laid, Held, HasNodes}
use Rattle.tree.proofs.Nodes.{held_ok, held_lays, held_as, held_long}

-- ---- the path of one node
module _ (rs : List Rec) (t : List Node) (x : ℕ) {u : ProofTree} (h : HasNodes t u) where
  not_bare : bare_at t x ≡ false → HasNodes (mark t (pair_at rs t x)) u × (true ≡ closed_at rs t x)
  unfolding mark
  not_bare e = rw e (h, refl)

  pub path_loose : {v : Bool} → v ≡ placed (node_at t x).place → v ≡ false → HasNodes (mark t (pair_at rs t x)) u × (true ≡ closed_at rs t x)
  path_loose e q = not_bare (ap (λ (b : Bool). b && is_leaf (node_at t x).children) (sym e ∙ q))

  pub path_inner : {b : Bool} → b ≡ is_leaf (node_at t x).children → b ≡ false → HasNodes (mark t (pair_at rs t x)) u × (true ≡ closed_at rs t x)
  path_inner e q = not_bare (rw (sym e ∙ q) (and-false (placed (node_at t x).place)))

pub path_marked : (rs : List Rec) (t : List Node) (x : ℕ) (o : Option Pair) {v : Bool} {z : ProofTree} {b r : Bool} → v ≡ placed (node_at t x).place → v ≡ true →
    b ≡ is_leaf (node_at t x).children → b ≡ true → (In (spots t) x → o ≡ pair_of rs t x) → HasNodes (mark t o) z → r ≡ is_pair o → HasNodes (mark t (pair_at rs t x)) z × (r ≡ closed_at rs t x)
path_marked rs t x o {z = z} e q d leaf found marked told =
    let i = sym e ∙ q in
    let bare : bare_at t x ≡ true = rw i (sym d ∙ leaf) in
    rw bare (subst (λ (p : Option Pair). HasNodes (mark t p) z) (found i) marked, told ∙ ap is_pair (found i))

-- ---- the loop of `mark_paths`: the identifiers below k are done
up_from_snoc : (n i : ℕ) → up_from (suc n) i ≡ up_from n i ++ ((i + n) ∷ [])
up_from_snoc zero i = ap (λ (k : ℕ). k ∷ []) (omega arith)
up_from_snoc (suc n) i = ap (λ (l : List ℕ). i ∷ l) (up_from_snoc n (suc i) ∙ ap (λ (k : ℕ). up_from n (suc i) ++ (k ∷ [])) (omega arith))

marks_snoc : (ps : List (Option Pair)) (p : Option Pair) (t : List Node) → mark_all t (ps ++ (p ∷ [])) ≡ mark (mark_all t ps) p
unfolding mark_all
marks_snoc [] p t = refl
marks_snoc (q ∷ ps) p t = marks_snoc ps p (mark t q)

all_snoc : {A : Type 0} (f : A → Bool) (xs : List A) (x : A) → all f (xs ++ (x ∷ [])) ≡ (all f xs && f x)
all_snoc f [] x = and-true (f x)
all_snoc f (y ∷ xs) x = ap (λ (b : Bool). f y && b) (all_snoc f xs x) ∙ sym (and_assoc (f y) (all f xs) (f x))

map_snoc : {A B : Type 0} (f : A → B) (xs : List A) (x : A) → map f (xs ++ (x ∷ [])) ≡ map f xs ++ (f x ∷ [])
map_snoc f [] x = refl
map_snoc {B = B} f (y ∷ xs) x = ap (λ (l : List B). f y ∷ l) (map_snoc f xs x)

pub record Marking (rs : List Rec) (t : List Node) (old : ℕ) (u : ProofTree) (every : Bool) (k : ℕ) : Type 0 where
  pub nodes : HasNodes (mark_all t (new_pairs rs t old (k - old))) u
  pub each : every ≡ all (closed_at rs t) (up_from (k - old) old)

pub marking_start : (rs : List Rec) {t : List Node} {old : ℕ} {u : ProofTree} → HasNodes t u → Marking rs t old u true old
unfolding mark_all
marking_start rs {t} {old} h =
    let z : old - old ≡ 0 = omega arith in
    record { nodes = rw z h; each = rw z refl }

module _ {rs : List Rec} {t : List Node} {old : ℕ} {u : ProofTree} {every : Bool} {k : ℕ} (m : Marking rs t old u every k) where
  -- what is done at node x
  abbrev Marks : ℕ → Bool → ProofTree → Type 0
  Marks x b z = (ms : List Node) → HasNodes ms u → NoPairAbove rs ms old → old ≤ x → HasNodes (mark ms (pair_at rs ms x)) z × (b ≡ closed_at rs ms x)

  pub marking_next : {x : ℕ} {b now : Bool} {z : ProofTree} → NoPairAbove rs t old → old ≤ k → x ≡ k → Marks x b z → now ≡ (every && b) → Marking rs t old z now (k + 1)
  marking_next {x} {b} {now} {z} o low e f q =
      let ps = new_pairs rs t old (k - old) in
      let v = mark_all t ps in
      let g = subst (λ (y : ℕ). Marks y b z) e f v m.nodes (above_marked rs t old ps o) low in
      let d : (k + 1) - old ≡ suc (k - old) = omega arith in
      let at : old + (k - old) ≡ k = omega arith in
      let ids : up_from ((k + 1) - old) old ≡ up_from (k - old) old ++ (k ∷ []) =
      ap (λ (n : ℕ). up_from n old) d ∙ up_from_snoc (k - old) old ∙ ap (λ (i : ℕ). up_from (k - old) old ++ (i ∷ [])) at in
      record {
        nodes = held_as (mark_all t (new_pairs rs t old ((k + 1) - old)))
            (sym (ap (λ (l : List ℕ). mark_all t (map (pair_at rs t) l)) ids ∙ ap (mark_all t) (map_snoc (pair_at rs t) (up_from (k - old) old) k) ∙ marks_snoc ps (pair_at rs t k) t ∙ ap (mark v) (sym (pair_at_marked rs t old ps k)))) g.0;
        each = q ∙ ap (λ (c : Bool). c && b) m.each ∙ ap (λ (c : Bool). all (closed_at rs t) (up_from (k - old) old) && c) (g.1 ∙ closed_at_marked rs t old ps k)
            ∙ sym (ap (all (closed_at rs t)) ids ∙ all_snoc (closed_at rs t) (up_from (k - old) old) k);
      }

-- ---- the whole check
-- too many nodes stay too many
pub marked_full : {ns : List Node} {len : ℕ} {a : List ProofTreeNode} (ps : List (Option Pair)) → Held ns len a → most_identifiers < len → Held (mark_all ns ps) len a
marked_full {ns} ps p h = held_long (mark_all ns ps) p h (omega (arith, length_marks ps ns))

module _ (rs : List Rec) (t : List Node) {old : ℕ} {y z : ProofTree} {every : Bool} (s : CheckedAt rs t old) (h : HasNodes t y) (few : y.len ≤ most_identifiers) (kept : z.len ≡ y.len)
    (m : HasNodes (mark_all t (new_pairs rs t old (y.len - old))) z × (every ≡ all (closed_at rs t) (up_from (y.len - old) old))) where
  abbrev u : List Node
  u = mark_all t (pairs rs t (leaves t))

  size : length t ≡ y.len
  size = (held_ok h few).0

  marked : HasNodes u z
  marked = held_as u (ap (λ (n : ℕ). mark_all t (new_pairs rs t old (n - old))) (sym size) ∙ since_marks rs t old s) m.0

  pub checked_still : {r : Bool} → r ≡ false → y.len ≤ old → HasNodes u z × (y.len ≤ most_identifiers → r ≡ all is_pair (pairs rs t (leaves t)))
  checked_still e l = (marked, λ _. e ∙ sym (s.still (omega (arith, size, l))))

  pub checked_open : {r : Bool} → r ≡ false → every ≡ false → HasNodes u z × (y.len ≤ most_identifiers → r ≡ all is_pair (pairs rs t (leaves t)))
  checked_open o e = (marked, λ _. o ∙ sym (open_new rs t s.over.treed (y.len - old) old (sym m.1 ∙ e)))

  pub checked_closed : {r : Bool} → ((ns : List Node) → Treed ns → length ns ≡ z.len → Laid ns z → r ≡ empty (filter (takes ns 0) (leaves ns))) →
      HasNodes u z × (y.len ≤ most_identifiers → r ≡ all is_pair (pairs rs t (leaves t)))
  checked_closed f =
      let k = held_lays marked (omega arith) in
      let small : length t ≤ nobody = omega (arith, size, few) in
      (marked, λ _. f u ((marks_keep (pairs rs t (leaves t)) t).treed s.over.treed (omega (arith, k.fits))) (held_ok marked (omega arith)).0 k ∙ since_open rs t old s small)
