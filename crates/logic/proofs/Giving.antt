-- The loop of `give_on`: what is still to be given on the paths that are left.
use Prim.Native.Nat.{ℕ, suc, ◌<◌, ◌≤◌, ◌+◌, ◌-◌}
use mathlib.Core.Path.{◌≡◌, refl, sym, ap, ap₂, ◌∙◌, subst}
use mathlib.Core.List.{List, [], ◌∷◌, ◌++◌, map, append-nil, append_assoc}
use mathlib.Core.Option.{Option}
use native.Mathlib.Omega.{arith}
use lib.ListN.{length, get_or, drop, length-append, length-map, drop_of_length-le}
use lib.Seq.{drop-cons}
use Rattle.definition.specs.Limits.{most_identifiers}
use Rattle.arrays.specs.Listed.{Listed}
use Rattle.arrays.proofs.Tabled.{tabled_count}
use Rattle.bits.specs.Bits.{bit_of}
use Rattle.bits.specs.Worlds.{no_world}
use Rattle.bits.specs.declared.WorldSet.{WorldSet}
use Rattle.definition.specs.Lists.{Each, filter}
use Rattle.definition.specs.Tree.{Node, new_node, path}
use Rattle.definition.specs.Subtree.{Targeted}
use Rattle.definition.specs.Modality.{Necessity, Fork, occurs, Reapplication, give_on}
use Rattle.tree.specs.Lay.{HasNodes}
use Rattle.tree.specs.declared.ProofTree.{ProofTree}
use Rattle.tree.proofs.Nodes.{held_ok, held_fits, held_as}
use Rattle.definition.proofs.Basics.Lists.{each_get}
use Rattle.subtree.specs.Items.{Item, HasItems, Listing}
use Rattle.subtree.specs.declared.Items.{Items}
use Rattle.modality.specs.Seen.{Seen}
use Rattle.modality.specs.declared.PathWorlds.{PathWorlds}
use Rattle.logic.specs.Gave.{Gave}
use Rattle.logic.proofs.Listings.{item, listing_as, listing_both, listing_self, listing_skip}

module _ (t : List Node) (fk : Option Fork) (n : Necessity) (ws : List ℕ) where
  abbrev here : ℕ → List ℕ
  here leaf = filter (occurs t fk (path t leaf)) ws

  abbrev made : ℕ → List Node
  made leaf = map (new_node n.spawner n.formula) (here leaf)

  -- what the paths of the leaves that are left give
  abbrev left : List Node → List ℕ → Reapplication
  left more rest = give_on t fk n ws (length (t ++ more)) rest

  pub record Giving (rest : List ℕ) (goal : List Node) (rs : List Item) (items : List Targeted) (u : ProofTree) (x : Items) : Type 0 where
    pub more : List Node
    pub done : List Targeted
    pub held : HasNodes (t ++ more) u
    pub nodes : (t ++ more) ++ (left more rest).nodes ≡ goal
    pub subtrees : done ++ (left more rest).subtrees ≡ items
    pub rows : u.len ≤ most_identifiers → Listing rs done x u.len

  module _ {goal : List Node} {rs : List Item} {items : List Targeted} {u : ProofTree} {x : Items} where
    pub giving_next : (leaf : ℕ) (rest : List ℕ) (g : Giving (leaf ∷ rest) goal rs items u x) {u' : ProofTree} {x' : Items} →
        HasNodes ((t ++ g.more) ++ made leaf) u' →
        ((rs' : List Item) → HasItems rs' x u.len → u'.len ≤ most_identifiers → Listing rs' (item leaf (u'.len - u.len) u.len ∷ []) x' u'.len) →
        Giving rest goal rs items u' x'
    unfolding give_on
    giving_next leaf rest g {u'} {x'} h push =
        let base = t ++ g.more in
        let one = made leaf in
        let k = length (here leaf) in
        let e : base ++ one ≡ t ++ (g.more ++ one) = append_assoc t g.more one in
        let d : length base + k ≡ length (t ++ (g.more ++ one)) =
        omega (arith, length-append base one, length-map (here leaf) (new_node n.spawner n.formula), ap length e) in
        let later = give_on t fk n ws (length (t ++ (g.more ++ one))) rest in
        record {
          more = g.more ++ one;
          done = g.done ++ (item leaf k (length base) ∷ []);
          held = held_as (t ++ (g.more ++ one)) e h;
          nodes = ap (λ (v : List Node). v ++ later.nodes) (sym e) ∙ append_assoc base one later.nodes
              ∙ ap (λ (m : ℕ). base ++ (one ++ (give_on t fk n ws m rest).nodes)) (sym d) ∙ g.nodes;
          subtrees = append_assoc g.done (item leaf k (length base) ∷ []) later.subtrees
              ∙ ap (λ (m : ℕ). g.done ++ (item leaf k (length base) ∷ (give_on t fk n ws m rest).subtrees)) (sym d) ∙ g.subtrees;
          rows = λ small.
              let lb = (held_ok h small).0 in
              let low : length base + k ≡ u'.len = omega (arith, lb, d, ap length e) in
              let fits = held_fits g.held (omega (arith, low, small)) in
              let at = (held_ok g.held fits).0 in
              let was = g.rows fits in
              let size : u'.len - u.len ≡ k = omega (arith, low, at) in
              let next = push was.all was.rows small in
              listing_both g.done (item leaf k (length base) ∷ []) was
              (listing_as {rs = was.all} leaf size (sym at) next);
        }

    pub giving_end : (g : Giving [] goal rs items u x) → HasNodes goal u × (u.len ≤ most_identifiers → Listing rs items x u.len)
    unfolding give_on
    giving_end g = (
      held_as goal (sym (append-nil (t ++ g.more)) ∙ g.nodes) g.held,
      λ small. subst (λ (v : List Targeted). Listing rs v x u.len) (sym (append-nil g.done) ∙ g.subtrees) (g.rows small),
    )

    giving_turn : {rest : List ℕ} (rest' : List ℕ) → rest ≡ rest' → Giving rest goal rs items u x → Giving rest' goal rs items u x
    giving_turn rest' e g =
        record {
          more = g.more;
          done = g.done;
          held = g.held;
          nodes = ap (λ (v : List ℕ). (t ++ g.more) ++ (left g.more v).nodes) (sym e) ∙ g.nodes;
          subtrees = ap (λ (v : List ℕ). g.done ++ (left g.more v).subtrees) (sym e) ∙ g.subtrees;
          rows = g.rows;
        }

    -- the path of entry j of the leaves
    pub giving_entry : (ls : List ℕ) {j k leaf spawner f : ℕ} {l : List ℕ} → Listed ls k l → k ≤ most_identifiers → j < k → leaf ≡ get_or ls j 0 → n.spawner ≡ spawner → n.formula ≡ f →
        (g : Giving (drop j ls) goal rs items u x) {u' : ProofTree} {x' : Items} →
        (HasNodes (t ++ g.more) u → HasNodes ((t ++ g.more) ++ map (new_node spawner f) (filter (occurs t fk (path t leaf)) ws)) u') →
        ((rs' : List Item) → HasItems rs' x u.len → u'.len ≤ most_identifiers → Listing rs' (item leaf (u'.len - u.len) u.len ∷ []) x' u'.len) →
        Giving (drop (j + 1) ls) goal rs items u' x'
    unfolding giving_turn
    giving_entry ls {j} {k} {leaf} lk small up e p q g h push =
        let o : suc j ≡ j + 1 = omega arith in
        let d = drop-cons ls j 0 (omega (arith, up, tabled_count lk small)) ∙ ap₂ (λ (v w : ℕ). v ∷ drop w ls) (sym e) o in
        giving_next leaf (drop (j + 1) ls) (giving_turn (leaf ∷ drop (j + 1) ls) d g)
        (held_as ((t ++ g.more) ++ made leaf) (sym (ap₂ (λ (y z : ℕ). (t ++ g.more) ++ map (new_node y z) (here leaf)) p q)) (h g.held)) push

    pub giving_ends : (ls : List ℕ) {j k : ℕ} {l : List ℕ} → Listed ls k l → k ≤ most_identifiers → k ≤ j → (g : Giving (drop j ls) goal rs items u x) → HasNodes goal u × (u.len ≤ most_identifiers → Listing rs items x u.len)
    giving_ends ls {j} lk small past g =
        let b : length ls ≤ j = omega (arith, past, tabled_count lk small) in
        giving_end (giving_turn [] (drop_of_length-le ls b) g)

-- no world, nothing is given
module _ (t : List Node) (fk : Option Fork) (n : Necessity) where
  nothing_made : (ls : List ℕ) (next : ℕ) → (give_on t fk n [] next ls).nodes ≡ []
  unfolding give_on
  nothing_made [] next = refl
  nothing_made (leaf ∷ ls) next = nothing_made ls (next + 0)

  nothing_listed : (ls : List ℕ) (next : ℕ) {rs : List Item} {x : Items} {len : ℕ} → Listing rs [] x len → Listing rs (give_on t fk n [] next ls).subtrees x len
  unfolding give_on
  nothing_listed [] next l = l
  nothing_listed (leaf ∷ ls) next l =
      let one = listing_skip leaf l in
      listing_both (item leaf 0 next ∷ []) (give_on t fk n [] (next + 0) ls).subtrees one (nothing_listed ls (next + 0) (listing_self one))

  pub nothing_given : (ls : List ℕ) (next : ℕ) {ms : List Node} {rs : List Item} {u : ProofTree} {x : Items} → HasNodes ms u → (u.len ≤ most_identifiers → Listing rs [] x u.len) →
      Gave ms rs (give_on t fk n [] next ls) u x
  nothing_given ls next {ms} h l =
      record { nodes = held_as (ms ++ (give_on t fk n [] next ls).nodes) (sym (append-nil ms) ∙ ap (λ (v : List Node). ms ++ v) (sym (nothing_made ls next))) h; rows = λ small. nothing_listed ls next (l small) }

-- the worlds that occur on the path of entry j
pub seen_entry : (t : List Node) (fk : Option Fork) (ls : List ℕ) (a : PathWorlds) (j leaf : ℕ) (w : WorldSet) → Each (Seen t fk a) ls → j < length ls → leaf ≡ get_or ls j 0 → (leaf < most_identifiers → w ≡ get_or a.sets leaf no_world) →
    (v : ℕ) → v < 32 → bit_of w.0 v ≡ occurs t fk (path t leaf) v
seen_entry t fk ls a j leaf w seen low e has v h =
    let s = subst (Seen t fk a) (sym e) (each_get (Seen t fk a) ls 0 seen j (λ past. absurd (omega (arith, past, low)))) in
    ap (λ (x : WorldSet). bit_of x.0 v) (has s.low) ∙ s.same v h
