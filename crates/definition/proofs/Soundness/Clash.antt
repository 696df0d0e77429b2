-- Nodes whose formulas are true do not contradict one another.
use mathlib.Core.Path.{◌≡◌, refl, sym, ◌∙◌, subst}
use mathlib.Core.Bool.{Bool, true, false, not, ◌&&◌, beq}
use mathlib.Core.List.{List, [], ◌∷◌, reverse}
use mathlib.Core.Option.{none}
use mathlib.Core.Logic.{◌⊎◌, inl, inr, ⊎_elim}
use Prim.Native.Nat.{ℕ, ◌<◌}
use native.Mathlib.Omega.{arith}
use lib.Dec.{eqb}
use borrow.Author.Tests.{eqb-true, not-false}
use lib.ListN.{length, take}
use Rattle.definition.specs.Lists.{Each, same}
use Rattle.definition.specs.Records.{nobody, is_nobody, Kind, Atomic, Non, BiImply, Comment, Rec, number_of, is, arity, links, made, rec_at, formula_of}
use Rattle.definition.specs.Formula.{atom, form_by, written, form_at}
use Rattle.definition.specs.Models.{Model, truth}
use Rattle.definition.specs.Tree.{Node, node_at}
use Rattle.definition.specs.Contradiction.{both, inner, atom_of, atoms_of, said, denied, opposed, are_formulas_contradictory, are_nodes_contradictory, get_contradictory_node_ids}
use Rattle.definition.proofs.Basics.Lists.{true_false, and_left, and_right, not_true, either, cond_both, each_map, each_reverse, none_found}
use Rattle.definition.proofs.Basics.Records.{same_kind}
use Rattle.definition.proofs.Basics.Forms.{WellFormed, form_at_lem}
use Rattle.definition.proofs.Soundness.Priest.{Holds}

-- a comment, or a formula that is true at w
abbrev pub Sat : Model → List Rec → ℕ → ℕ → Type 0
Sat M rs w f = (f ≡ nobody) ⊎ Holds M rs w f

kind_is : (k : Kind) (r : Rec) → is k r ≡ true → r.kind ≡ k
kind_is k r e = same_kind r.kind k (eqb-true (number_of r.kind) (number_of k) e)

same_eq : (xs ys : List ℕ) → same xs ys ≡ true → xs ≡ ys
same_eq [] [] e = refl
same_eq [] (y ∷ ys) e = true_false (sym e)
same_eq (x ∷ xs) [] e = true_false (sym e)
same_eq (x ∷ xs) (y ∷ ys) e = cc (eqb-true x y (and_left (eqb x y) (same xs ys) e), same_eq xs ys (and_right (eqb x y) (same xs ys) e))

module _ (M : Model) (w : ℕ) where
  -- an atom, or the agreement of two, has the value b
  abbrev Tells : Bool → List ℕ → Type 0
  Tells b [] = Unit {0}
  Tells b (x ∷ []) = M.value w x ≡ b
  Tells b (x ∷ y ∷ rest) = beq (M.value w x) (M.value w y) ≡ b

  not_opposed : (xs ys : List ℕ) → Tells true xs → Tells false ys → opposed xs ys ≡ false
  unfolding opposed
  not_opposed [] ys h k = refl
  not_opposed (x ∷ []) ys h k =
      ⊎_elim (λ q. true_false (sym h ∙ subst (Tells false) (sym (same_eq (x ∷ []) ys q)) k)) (λ q. q) (either (same (x ∷ []) ys))
  not_opposed (x ∷ y ∷ xs) ys h k =
      ⊎_elim (λ q. true_false (sym h ∙ subst (Tells false) (sym (same_eq (x ∷ y ∷ xs) ys q)) k)) (λ q. q) (either (same (x ∷ y ∷ xs) ys))

-- the record number i is no atom, or its formula is the atom
abbrev Atom : List Rec → ℕ → List ℕ → Type 0
Atom rs i xs = (xs ≡ []) ⊎ ((a : ℕ) × (xs ≡ a ∷ []) × (form_at rs i ≡ atom a))

module _ (M : Model) (rs : List Rec) (wf : WellFormed rs) (w : ℕ) where
  -- a record of kind k: its links, and its formula
  kind_form : (k : Kind) (i : ℕ) → i < length rs → is k (rec_at rs i) ≡ true →
      Each (λ l. l < length rs) (take (arity k) ((rec_at rs i).left ∷ (rec_at rs i).right ∷ []))
      × (form_at rs i ≡ form_by k (rec_at rs i).left (form_at rs (rec_at rs i).left) (form_at rs (rec_at rs i).right))
  unfolding written
  kind_form k i h q =
      rw (← kind_is k (rec_at rs i) q) (each_map (λ l (j : l < i). omega arith) (links (rec_at rs i)) (wf i h), form_at_lem rs wf i h)

  atom_form : (i : ℕ) → i < length rs → Atom rs i (atom_of rs (rec_at rs i))
  unfolding atom_of form_by
  atom_form i h =
      let r = rec_at rs i in
      ⊎_elim (λ q. rw q (inr (r.left, refl, (kind_form Atomic i h q).1))) (λ q. rw q (inl refl)) (either (is Atomic r))

  one_tells : (b : Bool) (i : ℕ) (xs : List ℕ) → Atom rs i xs → truth M (form_at rs i) w ≡ b → Tells M w b xs
  unfolding truth
  one_tells b i xs (inl q) e = rw q tt
  one_tells b i xs (inr q) e = rw q.1 (rw q.2 at e)

  two_tell : (b : Bool) (i j : ℕ) (xs ys : List ℕ) → Atom rs i xs → Atom rs j ys →
      beq (truth M (form_at rs i) w) (truth M (form_at rs j) w) ≡ b → Tells M w b (both xs ys)
  unfolding truth
  two_tell b i j xs ys (inl p) q e = rw p tt
  two_tell b i j xs ys (inr p) (inl q) e = rw (p.1, q) tt
  two_tell b i j xs ys (inr p) (inr q) e = rw (p.1, q.1) (rw (p.2, q.2) at e)

  atoms_tell : (b : Bool) (i : ℕ) → i < length rs → truth M (form_at rs i) w ≡ b → Tells M w b (atoms_of rs (rec_at rs i))
  unfolding atoms_of truth form_by arity number_of
  atoms_tell b i h e =
      let r = rec_at rs i in
      ⊎_elim (λ q.
      let f = kind_form BiImply i h q in
      rw q (two_tell b r.left r.right _ _ (atom_form r.left f.0.0) (atom_form r.right f.0.1.0) (rw f.1 at e)))
      (λ q. rw q (one_tells b i _ (atom_form i h) e)) (either (is BiImply r))

  -- a record Non denies the formula of its link
  non_form : (b : Bool) (i : ℕ) → i < length rs → is Non (rec_at rs i) ≡ true → truth M (form_at rs i) w ≡ b →
      ((rec_at rs i).left < length rs) × (not (truth M (form_at rs (rec_at rs i).left) w) ≡ b)
  unfolding truth form_by arity number_of
  non_form b i h q e = let f = kind_form Non i h q in (f.0.0, rw f.1 at e)

  said_tells : (i : ℕ) → Holds M rs w i → Tells M w true (said rs (rec_at rs i))
  unfolding said
  said_tells i h =
      let r = rec_at rs i in
      let x = inner rs r in
      ⊎_elim (λ q.
      let a = non_form true i h.known (and_left (is Non r) (is Non x) q) h.holds in
      let b = non_form false r.left a.0 (and_right (is Non r) (is Non x) q) (not_true _ a.1) in
      rw q (one_tells true x.left _ (atom_form x.left b.0) (not-false _ b.1)))
      (λ q. rw q (atoms_tell true i h.known h.holds)) (either (is Non r && is Non x))

  denied_tells : (i : ℕ) → Holds M rs w i → Tells M w false (denied rs (rec_at rs i))
  unfolding denied
  denied_tells i h =
      let r = rec_at rs i in
      ⊎_elim (λ q. let a = non_form true i h.known q h.holds in rw q (atoms_tell false r.left a.0 (not_true _ a.1)))
      (λ q. rw q tt) (either (is Non r))

  -- a node's formula tells rightly what it says and denies
  formula_tells : (f : ℕ) → Sat M rs w f → Tells M w true (said rs (formula_of rs f)) × Tells M w false (denied rs (formula_of rs f))
  unfolding formula_of said denied atoms_of atom_of number_of
  formula_tells f (inl e) = rw e (tt, tt)
  formula_tells f (inr h) =
      cond_both (λ r. Tells M w true (said rs r) × Tells M w false (denied rs r)) (is_nobody f) (made Comment 0 0) (rec_at rs f) (tt, tt)
      (said_tells f h, denied_tells f h)

-- formulas that are true at one world are not contradictory
never_contradictory : (M : Model) (rs : List Rec) → WellFormed rs → (w f g : ℕ) → Sat M rs w f → Sat M rs w g →
    are_formulas_contradictory rs (formula_of rs f) (formula_of rs g) ≡ false
unfolding are_formulas_contradictory
never_contradictory M rs wf w f g a b =
    let p = formula_tells M rs wf w f a in
    let q = formula_tells M rs wf w g b in
    rw (not_opposed M w (said rs (formula_of rs f)) (denied rs (formula_of rs g)) p.0 q.1) (not_opposed M w _ _ q.0 p.1)

-- nor are nodes, each of them true at the image of its world
module _ (M : Model) (rs : List Rec) (wf : WellFormed rs) (img : ℕ → ℕ) (t : List Node) where
  abbrev Right : ℕ → Type 0
  Right x = Sat M rs (img (node_at t x).world) (node_at t x).formula

  no_contradiction : (x y : ℕ) → Right x → Right y → are_nodes_contradictory rs t x y ≡ false
  unfolding are_nodes_contradictory
  no_contradiction x y h k =
      let a = node_at t x in
      let b = node_at t y in
      ⊎_elim (λ q. rw q (never_contradictory M rs wf (img a.world) a.formula b.formula h (rw (eqb-true a.world b.world q) k)))
      (λ q. rw q) (either (eqb a.world b.world))

  pub no_pair : (xs : List ℕ) → Each (λ x. Sat M rs (img (node_at t x).world) (node_at t x).formula) xs → get_contradictory_node_ids rs t xs ≡ none
  unfolding get_contradictory_node_ids
  no_pair [] h = refl
  no_pair (x ∷ xs) h =
      rw (none_found (are_nodes_contradictory rs t x) (reverse xs) (each_map (λ y k. no_contradiction x y h.0 k) (reverse xs) (each_reverse Right xs h.1)))
      (no_pair xs h.1)
