-- The loop over the stack of necessities at a fork.
use Prim.Native.Nat.{ℕ, zero, suc, ◌<◌, ◌≤◌, ◌+◌}
use mathlib.Core.Path.{◌≡◌, refl, sym, ap, ◌∙◌, subst}
use mathlib.Core.Bool.{cond}
use mathlib.Core.List.{List, [], ◌∷◌, ◌++◌, map, reverse, append-nil, append_assoc}
use native.Mathlib.Omega.{arith}
use lib.ListN.{length, get_or, set, drop, length-append, drop_of_length-le}
use lib.Seq.{drop-cons}
use Rattle.definition.specs.Limits.{most_identifiers}
use Rattle.definition.specs.Lists.{Each}
use Rattle.definition.specs.Graph.{Graph}
use Rattle.definition.specs.Tree.{Node}
use Rattle.definition.specs.Subtree.{Targeted}
use Rattle.definition.specs.Modality.{Necessity, Fork, Reapplication, visiting, is_reapplied, reapply_if_on_path, reapply_necessity_after_possibility, necessities_after_possibility}
use Rattle.definition.proofs.Basics.Lists.{each_get}
use Rattle.tree.specs.Lay.{HasNodes}
use Rattle.tree.specs.declared.ProofTree.{ProofTree}
use Rattle.tree.proofs.Nodes.{held_long, held_as}
use Rattle.necessities.specs.Stack.{HasStack}
use Rattle.necessities.specs.declared.Necessities.{Necessities}
use Rattle.subtree.specs.Items.{Item, Listing}
use Rattle.subtree.specs.declared.Items.{Items}
use Rattle.logic.specs.Gave.{Gave}
use Rattle.logic.proofs.Listings.{listing_both}

-- f of the first i
unfoldable pub mapped : (Necessity → Necessity) → ℕ → List Necessity → List Necessity
mapped f zero ns = ns
mapped f (suc i) [] = []
mapped f (suc i) (n ∷ ns) = f n ∷ mapped f i ns

mapped_at : (f : Necessity → Necessity) (i : ℕ) (ns : List Necessity) (none : Necessity) → get_or (mapped f i ns) i none ≡ get_or ns i none
unfolding mapped
mapped_at f zero ns none = refl
mapped_at f (suc i) [] none = refl
mapped_at f (suc i) (n ∷ ns) none = mapped_at f i ns none

-- entry i is still the old one
pub mapped_each : (P : Necessity → Type 0) (f : Necessity → Necessity) (i : ℕ) (ns : List Necessity) (none : Necessity) → Each P ns → i < length ns → P (get_or (mapped f i ns) i none)
mapped_each P f i ns none h low = subst P (sym (mapped_at f i ns none)) (each_get P ns none h i (λ past. absurd (omega (arith, past, low))))

mapped_set : (f : Necessity → Necessity) (i : ℕ) (ns : List Necessity) (none : Necessity) → i < length ns → set (mapped f i ns) i (f (get_or ns i none)) ≡ mapped f (suc i) ns
unfolding mapped
mapped_set f zero [] none h = absurd (omega arith)
mapped_set f zero (n ∷ ns) none h = refl
mapped_set f (suc i) [] none h = absurd (omega arith)
mapped_set f (suc i) (n ∷ ns) none h = ap (λ (l : List Necessity). f n ∷ l) (mapped_set f i ns none (omega arith))

pub mapped_length : (f : Necessity → Necessity) (i : ℕ) (ns : List Necessity) → length (mapped f i ns) ≡ length ns
unfolding mapped
mapped_length f zero ns = refl
mapped_length f (suc i) [] = refl
mapped_length f (suc i) (n ∷ ns) = omega (arith, mapped_length f i ns)

mapped_all : (f : Necessity → Necessity) (ns : List Necessity) → mapped f (length ns) ns ≡ map f ns
unfolding mapped
mapped_all f [] = refl
mapped_all f (n ∷ ns) = ap (λ (l : List Necessity). f n ∷ l) (mapped_all f ns)

module _ (t : List Node) (g : Graph) (fk : Fork) where
  abbrev pub after : Necessity → Necessity
  after n = cond (is_reapplied t fk n) (visiting t g n) n

  abbrev left : List Node → List Necessity → Reapplication
  left more rest = reapply_necessity_after_possibility t g fk (length (t ++ more)) rest

  -- the first i are done, and k are left
  pub record Again (ns : List Necessity) (goal : List Node) (rs : List Item) (subtrees : List Targeted) (k : ℕ) (u : ProofTree) (x : Items) (w : Necessities) : Type 0 where
    pub i : ℕ
    pub left_over : i + k ≡ length ns
    pub more : List Node
    pub done : List Targeted
    pub held : HasNodes (t ++ more) u
    pub nodes : (t ++ more) ++ (left more (drop i ns)).nodes ≡ goal
    pub items : done ++ (left more (drop i ns)).subtrees ≡ subtrees
    pub rows : u.len ≤ most_identifiers → Listing rs done x u.len
    pub stack : u.len ≤ most_identifiers → HasStack (mapped after i ns) w

  pub again_start : (more : List Node) (ns : List Necessity) (rs : List Item) {u : ProofTree} {x : Items} {w : Necessities} → HasStack ns w → HasNodes (t ++ more) u →
      (u.len ≤ most_identifiers → Listing rs [] x u.len) → Again ns ((t ++ more) ++ (left more ns).nodes) rs (left more ns).subtrees w.count u x w
  unfolding mapped
  again_start more ns rs s h l = record { i = 0; left_over = omega (arith, s.counted); more = more; done = []; held = h; nodes = refl; items = refl; rows = l; stack = λ _. s }

  module _ {ns : List Necessity} {goal : List Node} {rs : List Item} {subtrees : List Targeted} {k : ℕ} {u : ProofTree} {x : Items} {w : Necessities} (z : Again ns goal rs subtrees k u x w) where
    -- full
    pub again_full : most_identifiers < u.len → HasNodes goal u
    again_full big = held_long goal z.held big (omega (arith, ap length z.nodes, length-append (t ++ z.more) (left z.more (drop z.i ns)).nodes))

    -- the place of the next one in the stack
    pub again_at : (small : u.len ≤ most_identifiers) → (j : ℕ) → j + 1 ≡ k → z.i + j + 1 ≡ w.count
    again_at small j e = omega (arith, e, z.left_over, (z.stack small).counted, mapped_length after z.i ns)

    pub again_next : (none : Necessity) (j : ℕ) → j + 1 ≡ k → (small : u.len ≤ most_identifiers) {u' : ProofTree} {x' : Items} {w' : Necessities} → let m = mapped after z.i ns in
        Gave (t ++ z.more) (z.rows small).all (reapply_if_on_path t g fk (length (t ++ z.more)) (get_or m z.i none)) u' x' →
        (u'.len ≤ most_identifiers → HasStack (set m z.i (after (get_or m z.i none))) w') → Again ns goal rs subtrees j u' x' w'
    unfolding reapply_necessity_after_possibility
    again_next none j last small {u'} {x'} {w'} gave stack =
        let i = z.i in
        let low : i < length ns = omega (arith, last, z.left_over) in
        let o : suc i ≡ i + 1 = omega arith in
        let n = get_or ns i none in
        let e : get_or (mapped after i ns) i none ≡ n = mapped_at after i ns none in
        let d : drop i ns ≡ n ∷ drop (i + 1) ns = drop-cons ns i none low ∙ ap (λ (k : ℕ). n ∷ drop k ns) o in
        let base = t ++ z.more in
        let one = reapply_if_on_path t g fk (length base) n in
        let got = subst (λ (k : Necessity). Gave base (z.rows small).all (reapply_if_on_path t g fk (length base) k) u' x') e gave in
        let assoc : base ++ one.nodes ≡ t ++ (z.more ++ one.nodes) = append_assoc t z.more one.nodes in
        let len : length base + length one.nodes ≡ length (t ++ (z.more ++ one.nodes)) = omega (arith, length-append base one.nodes, ap length assoc) in
        let later = left (z.more ++ one.nodes) (drop (i + 1) ns) in
        record {
          i = i + 1;
          left_over = omega (arith, last, z.left_over);
          more = z.more ++ one.nodes;
          done = z.done ++ one.subtrees;
          held = held_as (t ++ (z.more ++ one.nodes)) assoc got.nodes;
          nodes = ap (λ (v : List Node). v ++ later.nodes) (sym assoc) ∙ append_assoc base one.nodes later.nodes
              ∙ ap (λ (k : ℕ). base ++ (one.nodes ++ (reapply_necessity_after_possibility t g fk k (drop (i + 1) ns)).nodes)) (sym len)
              ∙ ap (λ (l : List Necessity). base ++ (left z.more l).nodes) (sym d) ∙ z.nodes;
          items = append_assoc z.done one.subtrees later.subtrees
              ∙ ap (λ (k : ℕ). z.done ++ (one.subtrees ++ (reapply_necessity_after_possibility t g fk k (drop (i + 1) ns)).subtrees)) (sym len)
              ∙ ap (λ (l : List Necessity). z.done ++ (left z.more l).subtrees) (sym d) ∙ z.items;
          rows = λ fits. listing_both z.done one.subtrees (z.rows small) (got.rows fits);
          stack = λ fits.
              subst (λ (l : List Necessity). HasStack l w') (ap (λ (k : Necessity). set (mapped after i ns) i (after k)) e ∙ mapped_set after i ns none low ∙ ap (λ (k : ℕ). mapped after k ns) o) (stack fits);
        }

    pub again_end : k ≡ 0 → HasNodes goal u × (u.len ≤ most_identifiers → Listing rs subtrees x u.len) × (u.len ≤ most_identifiers → HasStack (map after ns) w)
    unfolding reapply_necessity_after_possibility
    again_end none =
        let i = z.i in
        let e : i ≡ length ns = omega (arith, none, z.left_over) in
        let d : drop i ns ≡ [] = drop_of_length-le ns (omega (arith, e)) in (
          held_as goal (sym (append-nil (t ++ z.more)) ∙ ap (λ (l : List Necessity). (t ++ z.more) ++ (left z.more l).nodes) (sym d) ∙ z.nodes) z.held,
          λ fits. subst (λ (l : List Targeted). Listing rs l x u.len) (sym (append-nil z.done) ∙ ap (λ (l : List Necessity). z.done ++ (left z.more l).subtrees) (sym d) ∙ z.items) (z.rows fits),
          λ fits. subst (λ (l : List Necessity). HasStack l w) (ap (λ (k : ℕ). mapped after k ns) e ∙ mapped_all after ns) (z.stack fits),
        )

  pub turned_after : (ns : List Necessity) {w : Necessities} → HasStack (reverse (map after ns)) w → HasStack (necessities_after_possibility t g fk ns) w
  unfolding necessities_after_possibility
  turned_after ns s = s

abbrev pub blank : Necessity
blank = record { formula = 0; world = 0; spawner = 0; leaves = []; visited = [] }
