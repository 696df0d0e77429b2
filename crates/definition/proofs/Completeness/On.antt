-- What a path shows: formulas at worlds, and which worlds occur on it.
use mathlib.Core.Path.{◌≡◌, refl, sym, ap, ◌∙◌}
use mathlib.Core.Bool.{true, false, not}
use mathlib.Core.List.{List}
use mathlib.Core.Option.{Option, none, some}
use mathlib.Core.Logic.{◌⊎◌, inl, inr, ⊎_elim, ⊎_map, ◌≢◌}
use Prim.Native.Nat.{ℕ, ◌<◌}
use lib.Dec.{eqb}
use borrow.Author.Tests.{eqb-true, eqb-false, eq-eqb, ne_eqb}
use lib.ListN.{length}
use Rattle.definition.specs.Lists.{any, elem}
use Rattle.definition.specs.Records.{Rec, is_nobody}
use Rattle.definition.specs.Formula.{Form, form_at}
use Rattle.definition.specs.Setting.{Setting, partial_equivalence}
use Rattle.definition.specs.Tree.{Node, node_at, path}
use Rattle.definition.specs.Modality.{Fork, forked_on, occurs}
use Rattle.definition.specs.Run.{State}
use Rattle.definition.specs.Countermodel.{keeps_edges}
use Rattle.definition.proofs.Basics.Lists.{true_false, not_true, and_left, and_right, and_both, or_cases, or_true, Some, some_map, some_any, any_some, some_among, among_some, elem_among, among_elem}
use Rattle.definition.proofs.Tree.Nodes.{Label, label}
use Rattle.definition.specs.TreeShape.{spots, Bare}
use Rattle.definition.specs.Shortcuts.{pair_of}

-- a label says p at v
pub record Says (rs : List Rec) (v : ℕ) (p : Form) (a : Label) : Type 0 where
  pub world : a.world ≡ v
  pub known : a.formula < length rs
  pub named : is_nobody a.formula ≡ false
  pub form : form_at rs a.formula ≡ p

-- the path of l shows p at v
abbrev pub On : List Rec → List Node → ℕ → ℕ → Form → Type 0
On rs t l v p = Some (λ z. Says rs v p (label (node_at t z))) (path t l)

-- a leaf whose path has no pair
pub record OpenLeaf (s : State) (l : ℕ) : Type 0 where
  pub bare : Bare (spots s.nodes) l
  pub unpaired : pair_of s.formulas s.nodes l ≡ none

-- ---- worlds that occur on a path
pub occurs_some : (t : List Node) (xs : List ℕ) (v : ℕ) → occurs t none xs v ≡ true → Some (λ z. (node_at t z).world ≡ v) xs
unfolding occurs forked_on
occurs_some t xs v e =
    some_map (λ z (h : eqb (node_at t z).world v ≡ true). eqb-true _ v h) xs
    (any_some (λ z. eqb (node_at t z).world v) xs (⊎_elim (λ q. q) (λ q. true_false (sym q)) (or_cases (any (λ z. eqb (node_at t z).world v) xs) false e)))

pub some_occurs : (t : List Node) (k : Option Fork) (xs : List ℕ) (v : ℕ) → Some (λ z. (node_at t z).world ≡ v) xs → occurs t k xs v ≡ true
unfolding occurs
some_occurs t k xs v h = rw (some_any (λ z. eqb (node_at t z).world v) xs (some_map (λ z (e : (node_at t z).world ≡ v). eq-eqb _ v e) xs h))

-- in a fork: on the path, or the new world
pub occurs_cases : (t : List Node) (k : Fork) (xs : List ℕ) (v : ℕ) → occurs t (some k) xs v ≡ true → (occurs t none xs v ≡ true) ⊎ ((v ≡ k.world) × (elem k.node xs ≡ true))
unfolding occurs forked_on
occurs_cases t k xs v h =
    ⊎_map (λ q. rw q) (λ q. (eqb-true v k.world (and_left (eqb v k.world) _ q), and_right (eqb v k.world) _ q)) (or_cases (any (λ z. eqb (node_at t z).world v) xs) _ h)

pub forked_occurs : (t : List Node) (k : Fork) (xs : List ℕ) → elem k.node xs ≡ true → occurs t (some k) xs k.world ≡ true
unfolding occurs forked_on
forked_occurs t k xs h = or_true (any (λ z. eqb (node_at t z).world k.world) xs) (and_both (eqb k.world k.world) _ (eq-eqb k.world _ refl) h)

pub on_occurs : (rs : List Rec) (t : List Node) (l v : ℕ) (p : Form) → On rs t l v p → occurs t none (path t l) v ≡ true
on_occurs rs t l v p h = some_occurs t none (path t l) v (some_map (λ z (s : Says rs v p (label (node_at t z))). s.world) (path t l) h)

pub elem_occurs : (t : List Node) (xs : List ℕ) (x : ℕ) → elem x xs ≡ true → occurs t none xs (node_at t x).world ≡ true
elem_occurs t xs x e = some_occurs t none xs _ (among_some (λ z. (node_at t z).world ≡ (node_at t x).world) x xs (elem_among x xs e) refl)

-- ---- paths whose model has edges
pub keeps_cases : (F : Setting) (t : List Node) (xs : List ℕ) → keeps_edges F t xs ≡ true → (partial_equivalence F ≡ false) ⊎ ((b : ℕ) × (b ≢ 0) × (occurs t none xs b ≡ true))
unfolding keeps_edges
keeps_cases F t xs e =
    ⊎_map (not_true _) (λ q.
    let (x, i, z) = some_among xs (any_some _ xs q) in
    ((node_at t x).world, eqb-false _ 0 (not_true _ z), elem_occurs t xs x (among_elem x xs i))) (or_cases _ _ e)

pub keeps_of : (F : Setting) (t : List Node) (xs : List ℕ) → (partial_equivalence F ≡ false) ⊎ ((b : ℕ) × (b ≢ 0) × (occurs t none xs b ≡ true)) → keeps_edges F t xs ≡ true
unfolding keeps_edges
keeps_of F t xs (inl e) = rw e
keeps_of F t xs (inr (b, ne, o)) = or_true (not (partial_equivalence F)) (some_any _ xs (some_map (λ z (e : (node_at t z).world ≡ b). ap not (ne_eqb (node_at t z).world 0 (λ d. ne (sym e ∙ d)))) xs (occurs_some t xs b o)))

pub keeps_like : (F : Setting) (t u : List Node) (xs ys : List ℕ) → ((b : ℕ) → occurs t none xs b ≡ true → occurs u none ys b ≡ true) → keeps_edges F t xs ≡ true → keeps_edges F u ys ≡ true
keeps_like F t u xs ys f e = keeps_of F u ys (⊎_map (λ q. q) (λ (b, ne, o). (b, ne, f b o)) (keeps_cases F t xs e))
