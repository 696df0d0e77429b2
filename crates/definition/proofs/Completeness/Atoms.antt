-- On a path without a pair no atom is said and denied at one world, so that the model read off it has the atoms that the path says.
use mathlib.Core.Path.{◌≡◌, refl, sym, ap, ◌∙◌}
use mathlib.Core.Bool.{true, false, cond}
use mathlib.Core.List.{List, ◌∷◌, reverse, []}
use mathlib.Core.Option.{none}
use mathlib.Core.Logic.{inl, inr, ◌≢◌}
use Prim.Native.Nat.{ℕ, ◌<◌, ◌≤◌}
use native.Mathlib.Omega.{arith}
use lib.Dec.{eqb, leb}
use borrow.Author.Tests.{eqb-true, eq-eqb, le-leb}
use lib.ListN.{length}
use Rattle.definition.specs.Lists.{Each, find}
use Rattle.definition.specs.Records.{arity, Kind, Atomic, Non, And, Or, Imply, BiImply, StrictImply, Possible, Necessary, Unknown, Comment, Rec, number_of, is, made, rec_at, formula_of}
use Rattle.definition.specs.Formula.{Form, atom, non, and, or, imply, bi_imply, strict_imply, possible, necessary, form_by, written, form_at}
use Rattle.definition.specs.Tree.{Node, node_at, path}
use Rattle.definition.specs.Contradiction.{atom_of, atoms_of, said, denied, opposed, are_formulas_contradictory, are_nodes_contradictory, get_contradictory_node_ids}
use Rattle.definition.specs.Countermodel.{says_atom}
use Rattle.definition.proofs.Basics.Lists.{true_false, and_left, and_right, not_true_false, Among, any_some, each_get, each_among, some_map, some_reverse, some_among, some_any, find_none}
use Rattle.definition.proofs.Basics.Records.{same_kind}
use Rattle.definition.proofs.Tree.Nodes.{label}
use Rattle.definition.proofs.Basics.Forms.{WellFormed, form_at_lem}
use Rattle.definition.proofs.Paths.Marks.{else_none}
use Rattle.definition.proofs.Completeness.On.{Says, On}

-- the number of a formula's kind
abbrev code : Form → ℕ
code = elim [ atom a ↦ 0 | non p ↦ 1 | and p q ↦ 2 | or p q ↦ 3 | imply p q ↦ 4 | bi_imply p q ↦ 5 | strict_imply p q ↦ 6 | possible p ↦ 7 | necessary p ↦ 8 ]

-- a record of a kind writes a formula of that kind; one of no kind, the atom 0
code_by_lem : (k : Kind) (a : ℕ) (p q : Form) → code (form_by k a p q) ≡ cond (leb (number_of k) 8) (number_of k) 0
unfolding form_by number_of
code_by_lem k a p q =
    elim k as (λ k. code (form_by k a p q) ≡ cond (leb (number_of k) 8) (number_of k) 0) [ Atomic ↦ refl | Non ↦ refl | And ↦ refl | Or ↦ refl | Imply ↦ refl | BiImply ↦ refl | StrictImply ↦ refl | Possible ↦ refl | Necessary ↦ refl | Unknown ↦ refl | Comment ↦ refl ]

-- a record that says the atom a, and one that denies it
abbrev Atom : Rec → ℕ → Type 0
Atom r a = (r.kind ≡ Atomic) × (r.left ≡ a)

abbrev NonAtom : List Rec → Rec → ℕ → Type 0
NonAtom rs r a = (r.kind ≡ Non) × Atom (rec_at rs r.left) a

module _ (rs : List Rec) (wf : WellFormed rs) (kinds : Each (λ (r : Rec). number_of r.kind ≤ 8) rs) where
  -- a record has the kind of its formula
  kind_known : (f : ℕ) (k : Kind) → f < length rs → code (form_at rs f) ≡ number_of k → (rec_at rs f).kind ≡ k
  unfolding written rec_at
  kind_known f k h e =
      let j = (rec_at rs f).kind in
      let low = le-leb (number_of j) 8 (each_get (λ (r : Rec). number_of r.kind ≤ 8) rs (made Unknown 0 0) kinds f (λ l. absurd (omega arith))) in
      same_kind j k (sym (rw low at (ap code (form_at_lem rs wf f h) ∙ code_by_lem j _ _ _)) ∙ e)

  atom_record : (f a : ℕ) → f < length rs → form_at rs f ≡ atom a → Atom (rec_at rs f) a
  unfolding written form_by number_of
  atom_record f a h e =
      let k = kind_known f Atomic h (ap code e) in
      let d = rw k at (sym (form_at_lem rs wf f h) ∙ e) in
      (k, cc)

  non_record : (f a : ℕ) → f < length rs → form_at rs f ≡ non (atom a) → NonAtom rs (rec_at rs f) a
  unfolding written form_by arity number_of
  non_record f a h e =
      let k = kind_known f Non h (ap code e) in
      let l = rw k at (wf f h) in
      let d = rw k at (sym (form_at_lem rs wf f h) ∙ e) in
      (k, atom_record (rec_at rs f).left a (omega arith) cc)

  opposite : (r q : Rec) (a : ℕ) → Atom r a → NonAtom rs q a → (are_formulas_contradictory rs r q ≡ true) × (are_formulas_contradictory rs q r ≡ true)
  unfolding are_formulas_contradictory opposed said denied atoms_of atom_of number_of
  opposite r q a h k = (rw (h.0, h.1, k.0, k.1.0, k.1.1, eq-eqb a a refl), rw (h.0, h.1, k.0, k.1.0, k.1.1, eq-eqb a a refl))

  module _ (t : List Node) where
    -- two nodes that contradict one another in either order
    abbrev Clash : ℕ → ℕ → Type 0
    Clash x y = (x ≢ y) × (are_nodes_contradictory rs t x y ≡ true) × (are_nodes_contradictory rs t y x ≡ true)

    clashing : (x y a : ℕ) → (node_at t x).world ≡ (node_at t y).world → Atom (formula_of rs (node_at t x).formula) a → NonAtom rs (formula_of rs (node_at t y).formula) a → Clash x y
    unfolding are_nodes_contradictory
    clashing x y a e h k =
        let v = (node_at t y).world in
        let o = opposite (formula_of rs (node_at t x).formula) (formula_of rs (node_at t y).formula) a h k in
        (λ d. let z : ◌≡◌ {A = ℕ} 0 1 = cc in omega arith, rw (e, eq-eqb v v refl, o.0), rw (e, eq-eqb v v refl, o.1))

    -- no node of a path without a pair contradicts one before it
    apart : (x : ℕ) (xs : List ℕ) → get_contradictory_node_ids rs t (x ∷ xs) ≡ none →
        ((y : ℕ) → Among y xs → are_nodes_contradictory rs t x y ≡ false) × (get_contradictory_node_ids rs t xs ≡ none)
    unfolding get_contradictory_node_ids
    apart x xs e =
        let d = else_none x (find (are_nodes_contradictory rs t x) (reverse xs)) _ e in
        (λ y i. each_among (λ z. are_nodes_contradictory rs t x z ≡ false) y (reverse xs) (find_none _ (reverse xs) d.0) (some_reverse _ xs i), d.1)

    no_clash : (xs : List ℕ) → get_contradictory_node_ids rs t xs ≡ none → (a b : ℕ) → Among a xs → Among b xs → Clash a b → ⊥
    no_clash [] e a b h k c = absurd h
    no_clash (x ∷ xs) e a b (inl h) (inl k) c = c.0 (sym h ∙ k)
    no_clash (x ∷ xs) e a b (inl h) (inr k) c = true_false (sym c.1 ∙ rw (← h) ((apart x xs e).0 b k))
    no_clash (x ∷ xs) e a b (inr h) (inl k) c = true_false (sym c.2 ∙ rw (← k) ((apart x xs e).0 a h))
    no_clash (x ∷ xs) e a b (inr h) (inr k) c = no_clash xs (apart x xs e).1 a b h k c

    pub on_says : (l w a : ℕ) → On rs t l w (atom a) → says_atom rs t (path t l) w a ≡ true
    unfolding says_atom formula_of number_of
    on_says l w a h =
        some_any _ (path t l) (some_map (λ z (s : Says rs w (atom a) (label (node_at t z))).
        let r = atom_record (node_at t z).formula a s.known s.form in
        rw (s.named, s.world, r.0, r.1, eq-eqb w w refl, eq-eqb a a refl)) (path t l) h)

    pub denies : (l : ℕ) → get_contradictory_node_ids rs t (path t l) ≡ none → (w a : ℕ) → On rs t l w (non (atom a)) → says_atom rs t (path t l) w a ≡ false
    unfolding says_atom formula_of
    denies l e w a h =
        not_true_false _ (λ q.
        let (y, on-y, s) = some_among (path t l) h in
        let (x, on-x, b) = some_among (path t l) (any_some _ (path t l) q) in
        let r = formula_of rs (node_at t x).formula in
        let c = and_right (eqb (node_at t x).world w) _ b in
        no_clash (path t l) e x y on-x on-y
        (clashing x y a (eqb-true _ _ (and_left (eqb (node_at t x).world w) _ b) ∙ sym s.world)
        (same_kind r.kind Atomic (eqb-true _ _ (and_left (is Atomic r) _ c)), eqb-true _ _ (and_right (is Atomic r) _ c))
        (rw s.named (non_record (node_at t y).formula a s.known s.form))))
