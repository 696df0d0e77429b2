-- The pair of a path by its last node: what marks and placing leave of it, so that a step finds new pairs only below what it placed.
use mathlib.Core.Path.{◌≡◌, refl, sym, ap, ◌∙◌, subst}
use mathlib.Core.Bool.{Bool, true, false}
use mathlib.Core.List.{List, [], ◌∷◌, ◌++◌, map, reverse, append-nil}
use mathlib.Core.Option
use mathlib.Core.Option.{Option, none}
use mathlib.Core.Logic.{inr, ⊎_elim, ◌≢◌}
use Prim.Native.Nat.{ℕ, zero, suc, ◌<◌, ◌≤◌, ◌+◌}
use native.Mathlib.Omega.{arith}
use borrow.Author.Tests.{eq-eqb, ne_eqb, eqb-true, eqb-false}
use lib.ListN.{length, drop, take, length-append, get_or-append}
use Rattle.definition.specs.Lists.{Each, elem, find, or_else, filter}
use Rattle.definition.specs.Records.{nobody, is_nobody, Kind, Non, BiImply, Comment, Rec, number_of, is, arity, links, made, Unknown, rec_at, formula_of}
use Rattle.definition.specs.Setting.{Setting}
use Rattle.definition.specs.Tree.{Node, Place, Left, Middle, Right, node_at, placed_below, with_child, link, link_chain, change, upward, leaves, path}
use Rattle.definition.specs.Subtree.{Subtree, Targeted, flat, numbered, copied, append_subtree_on_leaf, push_subtree, append_copies, append_on, takes, append_subtree, append_logic_rule_result}
use Rattle.definition.specs.Contradiction.{atom_of, atoms_of, said, denied, are_formulas_contradictory, are_nodes_contradictory, Pair, pair, get_contradictory_node_ids, mark_all}
use Rattle.definition.specs.Queue.{Popped}
use Rattle.definition.specs.Run.{State, apply, appended, stops}
use Rattle.definition.specs.Fits.{Number}
use Rattle.definition.proofs.Basics.Lists.{either, alike, each_map, each_any, each_left, each_right, each_reverse}
use Rattle.definition.proofs.Basics.Records.{same_kind}
use Rattle.definition.proofs.Tree.Nodes.{change_other, change_keeps, length_leaf, node_append, Label, label, mark_keeps, length_marks, ext_append, ext_leaf, ext_subtree}
use Rattle.definition.proofs.Basics.Identifiers.{IssuedBetween, ids_numbered, issued_le, issued_front, apply_issued}
use Rattle.definition.proofs.Basics.Forms.{WellFormed}
use Rattle.definition.proofs.Call.Fields.{parent_number}
use Rattle.definition.specs.TreeShape.{spots, placed, In, Treed}
use Rattle.definition.proofs.Tree.Shape.{in_range, in_out, root_in, path_more, path_distinct}
use Rattle.definition.proofs.Run.TreeKept.{between, between_keeps}
use Rattle.definition.proofs.Call.Room.{Fit, ready}
use Rattle.definition.specs.Shortcuts.{earlier, partner, pair_of}

pub path_nobody : (t : List Node) → path t nobody ≡ []
unfolding path upward
path_nobody t = go (length t)
  where
    go : (k : ℕ) → upward k t nobody ≡ []
    go zero = refl
    go (suc k) = refl

module _ (t : List Node) (r : Treed t) where
  -- what a node has from its parent, from the root down
  pub climbing : (P : ℕ → Type 0) → P 0 → ((x : ℕ) → In (spots t) x → In (spots t) (node_at t x).parent → P (node_at t x).parent → P x) → (x : ℕ) → In (spots t) x → P x
  climbing P top next x i = go (r.depth x) x i refl
    where
      go : (n y : ℕ) → In (spots t) y → r.depth y ≡ n → P y
      go zero y j e = ⊎_elim (λ q. subst P (sym q) top) (λ q. absurd (omega (arith, e, (r.above y j q).deeper))) (alike y 0)
      go (suc n) y j e =
          ⊎_elim (λ q. subst P (sym q) top) (λ q. let a = r.above y j q in next y j a.there (go n (node_at t y).parent a.there (omega (arith, e, a.deeper)))) (alike y 0)

  -- a path goes on at the parent
  pub path_below : (x : ℕ) → In (spots t) x → path t x ≡ x ∷ path t (node_at t x).parent
  unfolding path upward
  path_below x i =
      let e : is_nobody x ≡ false = ne_eqb x nobody (in_out (spots t) x nobody i r.nobody_out) in
      sym (path_more t r (suc (length t)) x i (omega arith)) ∙ rw e

  pub path_root : path t 0 ≡ 0 ∷ []
  path_root = path_below 0 (root_in (spots t) r) ∙ rw (r.orphan, path_nobody t)

  pub path_there : (x : ℕ) → In (spots t) x → Each (In (spots t)) (path t x)
  path_there = climbing (λ x. Each (In (spots t)) (path t x)) (rw path_root (root_in (spots t) r, tt)) (λ x i j up. rw (path_below x i) (i, up))

  pub elem_self : (x : ℕ) → In (spots t) x → elem x (path t x) ≡ true
  elem_self x i = rw (path_below x i, eq-eqb x x refl)

  -- the pair of x: with its partner, or else the pair of its parent
  pub pair_below : (rs : List Rec) (x : ℕ) → In (spots t) x → pair_of rs t x ≡ or_else (Option.map (pair x) (partner rs t x)) (pair_of rs t (node_at t x).parent)
  unfolding pair_of partner earlier get_contradictory_node_ids
  pair_below rs x i = rw (path_below x i)

  pub pair_root : (rs : List Rec) → (partner rs t 0 ≡ none) × (pair_of rs t 0 ≡ none)
  unfolding pair_of partner earlier get_contradictory_node_ids
  pair_root rs = rw path_root (refl, refl)

-- paths of nodes that satisfy P, whose parents are the same and satisfy P
upward_like : (P : ℕ → Type 0) (t t' : List Node) → ((z : ℕ) → P z → z ≢ nobody → ((node_at t' z).parent ≡ (node_at t z).parent) × P (node_at t z).parent) →
    (k x : ℕ) → P x → upward k t' x ≡ upward k t x
unfolding upward
upward_like P t t' f zero x h = refl
upward_like P t t' f (suc k) x h =
    ⊎_elim (λ e. rw e) (λ e. let g = f x h (eqb-false x nobody e) in rw (e, g.0, upward_like P t t' f k (node_at t x).parent g.1)) (either (is_nobody x))

find_like : {A : Type 0} (p q : A → Bool) (xs : List A) → Each (λ x. p x ≡ q x) xs → find p xs ≡ find q xs
find_like p q [] h = refl
find_like p q (x ∷ xs) h = rw (h.0, find_like p q xs h.1)

-- of two states of formulas and nodes, the node x says and denies the same at the same world
module _ (rs rs' : List Rec) (t t' : List Node) where
  record Like (x : ℕ) : Type 0 where
    world : (node_at t' x).world ≡ (node_at t x).world
    says : said rs' (formula_of rs' (node_at t' x).formula) ≡ said rs (formula_of rs (node_at t x).formula)
    denies : denied rs' (formula_of rs' (node_at t' x).formula) ≡ denied rs (formula_of rs (node_at t x).formula)

  nodes_like : (x y : ℕ) → Like x → Like y → are_nodes_contradictory rs' t' x y ≡ are_nodes_contradictory rs t x y
  unfolding are_nodes_contradictory are_formulas_contradictory
  nodes_like x y h k = rw (h.world, h.says, h.denies, k.world, k.says, k.denies)

  find_nodes : (x : ℕ) (xs : List ℕ) → Like x → Each Like xs → find (are_nodes_contradictory rs' t' x) (reverse xs) ≡ find (are_nodes_contradictory rs t x) (reverse xs)
  find_nodes x xs h k = find_like _ _ (reverse xs) (each_map (λ y. nodes_like x y h) (reverse xs) (each_reverse Like xs k))

  pair_like : (xs : List ℕ) → Each Like xs → get_contradictory_node_ids rs' t' xs ≡ get_contradictory_node_ids rs t xs
  unfolding get_contradictory_node_ids
  pair_like [] h = refl
  pair_like (x ∷ xs) h = rw (find_nodes x xs h.0 h.1, pair_like xs h.1)

pub each_tail : {A : Type 0} (P : A → Type 0) (xs : List A) → Each P xs → Each P (drop 1 xs)
each_tail P [] h = tt
each_tail P (x ∷ xs) h = h.1

-- x has the path, the partner and the pair that it had
pub record Same (rs rs' : List Rec) (t t' : List Node) (x : ℕ) : Type 0 where
  pub same_path : path t' x ≡ path t x
  pub same_partner : partner rs' t' x ≡ partner rs t x
  pub same_pair : pair_of rs' t' x ≡ pair_of rs t x

same_by : (rs rs' : List Rec) (t t' : List Node) (x : ℕ) → path t' x ≡ path t x → Like rs rs' t t' x → Each (Like rs rs' t t') (path t x) → Same rs rs' t t' x
unfolding partner earlier pair_of
same_by rs rs' t t' x e h k =
    record {
      same_path = e;
      same_partner = rw e (find_nodes rs rs' t t' x (drop 1 (path t x)) h (each_tail (Like rs rs' t t') (path t x) k));
      same_pair = rw e (pair_like rs rs' t t' (path t x) k);
    }

-- marks change no parent, no world and no formula
pub marks_same : (rs : List Rec) (t : List Node) (ps : List (Option Pair)) (x : ℕ) → Same rs rs t (mark_all t ps) x
unfolding path
marks_same rs t ps x =
    let u = mark_all t ps in
    let like : (z : ℕ) → Like rs rs t u z = λ z.
    let e = mark_keeps label (λ j n. refl) ps t z in
    record { world = ap (λ (l : Label). l.world) e; says = rw (ap (λ (l : Label). l.formula) e); denies = rw (ap (λ (l : Label). l.formula) e) } in
    same_by rs rs t u x (rw length_marks (upward_like (λ z. Unit {0}) t u (λ z h e. (mark_keeps (λ (n : Node). n.parent) (λ j n. refl) ps t z, tt)) (length t) x tt))
    (like x) (each_any (Like rs rs t u) like (path t x))

-- appended records change nothing of what a formula says and denies: links go to earlier records
module _ (rs more : List Rec) (wf : WellFormed rs) where
  pub rec_append : (i : ℕ) → i < length rs → rec_at (rs ++ more) i ≡ rec_at rs i
  unfolding rec_at
  rec_append i h = get_or-append rs more (made Unknown 0 0) i h

  pub link_same : (k : Kind) (i : ℕ) → i < length rs → is k (rec_at rs i) ≡ true →
      Each (λ l. (l < length rs) × (rec_at (rs ++ more) l ≡ rec_at rs l)) (take (arity k) ((rec_at rs i).left ∷ (rec_at rs i).right ∷ []))
  link_same k i h q =
      let r = rec_at rs i in
      rw (← same_kind r.kind k (eqb-true (number_of r.kind) (number_of k) q)) (each_map (λ l (j : l < i). (omega arith, rec_append l (omega arith))) (links r) (wf i h))

  atoms_same : (i : ℕ) → i < length rs → atoms_of (rs ++ more) (rec_at rs i) ≡ atoms_of rs (rec_at rs i)
  unfolding atoms_of atom_of arity number_of
  atoms_same i h = ⊎_elim (λ q. let l = link_same BiImply i h q in rw (q, l.0.1, l.1.0.1)) (λ q. rw q) (either (is BiImply (rec_at rs i)))

  denied_same : (i : ℕ) → i < length rs → denied (rs ++ more) (rec_at rs i) ≡ denied rs (rec_at rs i)
  unfolding denied arity number_of
  denied_same i h =
      ⊎_elim (λ q. let l = link_same Non i h q in rw (q, l.0.1) (atoms_same (rec_at rs i).left l.0.0)) (λ q. rw q) (either (is Non (rec_at rs i)))

  said_same : (i : ℕ) → i < length rs → said (rs ++ more) (rec_at rs i) ≡ said rs (rec_at rs i)
  unfolding said atom_of arity number_of
  said_same i h =
      ⊎_elim
      (λ q.
      let l = link_same Non i h q in
      let j = (rec_at rs i).left in
      rw (q, l.0.1) (⊎_elim (λ d. let m = link_same Non j l.0.0 d in rw (d, m.0.1)) (λ d. rw d (atoms_same i h)) (either (is Non (rec_at rs j)))))
      (λ q. rw q (atoms_same i h)) (either (is Non (rec_at rs i)))

  -- r says and denies the same before and after
  abbrev Told : Rec → Rec → Type 0
  Told r r' = (said (rs ++ more) r' ≡ said rs r) × (denied (rs ++ more) r' ≡ denied rs r)

  comment_same : Told (made Comment 0 0) (made Comment 0 0)
  unfolding said denied atoms_of atom_of number_of
  comment_same = (refl, refl)

  formula_same : (f : ℕ) → Number (length rs) f → Told (formula_of rs f) (formula_of (rs ++ more) f)
  unfolding formula_of
  formula_same f n =
      ⊎_elim (λ q. rw q comment_same) (λ q.
      let h : f < length rs = ⊎_elim (λ e. absurd (eqb-false f nobody q e)) (λ h. h) n in
      rw (q, rec_append f h) (said_same f h, denied_same f h)) (either (is_nobody f))

-- all of a node but its children
pub record Stem : Type 0 where
  pub parent : ℕ
  pub place : Place
  pub world : ℕ
  pub formula : ℕ
  pub spawner : ℕ
  pub contrarian : ℕ

abbrev pub stem : Node → Stem
stem n = record { parent = n.parent; place = n.place; world = n.world; formula = n.formula; spawner = n.spawner; contrarian = n.contrarian }

-- the tree t' has the nodes of t, as they are but for their children, and perhaps more
pub record Grown (t t' : List Node) : Type 0 where
  pub longer : length t ≤ length t'
  pub stems : (z : ℕ) → z < length t → stem (node_at t' z) ≡ stem (node_at t z)

pub chain_stem : (cs : List ℕ) (t : List Node) (y : ℕ) (p : Place) (z : ℕ) → Each (λ c. z ≢ c) cs → stem (node_at (link_chain t y p cs) z) ≡ stem (node_at t z)
unfolding link_chain link
chain_stem [] t y p z h = refl
chain_stem (c ∷ cs) t y p z h =
    chain_stem cs (link t y p c) c Middle z h.1 ∙ change_keeps stem (change t c (placed_below y p)) y (with_child p c) (λ n. refl) z ∙ ap stem (change_other t c z (placed_below y p) h.0)

leaf_stem : (t : List Node) (y : ℕ) (s : Subtree) (z : ℕ) → Each (λ c. z ≢ c) (flat s) → stem (node_at (append_subtree_on_leaf t y s) z) ≡ stem (node_at t z)
unfolding append_subtree_on_leaf flat
leaf_stem t y s z h =
    let k = each_right (λ c. z ≢ c) s.left (s.middle ++ s.right) h in
    let b = link_chain t y Left s.left in
    chain_stem s.right (link_chain b y Middle s.middle) y Right z (each_right (λ c. z ≢ c) s.middle s.right k)
    ∙ chain_stem s.middle b y Middle z (each_left (λ c. z ≢ c) s.middle s.right k)
    ∙ chain_stem s.left t y Left z (each_left (λ c. z ≢ c) s.left (s.middle ++ s.right) h)

-- identifiers from lo on are none below it
others : (lo hi z : ℕ) (xs : List ℕ) → z < lo → Each (λ x. (lo ≤ x) × (x < hi)) xs → Each (λ x. z ≢ x) xs
others lo hi z xs l = each_map {Q = λ x. z ≢ x} (λ x (w : (lo ≤ x) × (x < hi)) (e : z ≡ x). omega (arith, w.0, e)) xs

copies_stem : (ls : List ℕ) (t : List Node) (q : List ℕ) (s : Subtree) (z : ℕ) → z < length t → stem (node_at (append_copies t q ls s).nodes z) ≡ stem (node_at t z)
unfolding append_copies
copies_stem [] t q s z h = refl
copies_stem (y ∷ ls) t q s z h =
    let n = length t in
    let c = numbered n s in
    let ns = map (copied t) (flat s) in
    let u = t ++ ns in
    copies_stem ls (append_subtree_on_leaf u y c) (push_subtree q c) s z (omega (arith, h, (ext_append t ns).longer, (ext_leaf u y c).longer))
    ∙ leaf_stem u y c z (others n (n + length (flat s)) z (flat c) h (ids_numbered n s).within) ∙ ap stem (node_append t ns z h)

on_stem : (ls : List ℕ) (t : List Node) (q : List ℕ) (s : Subtree) (z : ℕ) → z < length t → Each (λ c. z ≢ c) (flat s) → stem (node_at (append_on t q ls s).nodes z) ≡ stem (node_at t z)
unfolding append_on
on_stem [] t q s z h k = refl
on_stem (y ∷ ls) t q s z h k = copies_stem ls (append_subtree_on_leaf t y s) (push_subtree q s) s z (omega (arith, h, length_leaf t y s)) ∙ leaf_stem t y s z k

pub result_stem : (rs : List Targeted) (t : List Node) (q : List ℕ) (lo hi : ℕ) → IssuedBetween lo hi rs → hi ≤ length t → (z : ℕ) → z < lo → stem (node_at (append_logic_rule_result t q rs).nodes z) ≡ stem (node_at t z)
unfolding append_logic_rule_result append_subtree
result_stem [] t q lo hi i l z h = refl
result_stem (a ∷ rs) t q lo hi i l z h =
    let s = a.subtree in
    let p = append_subtree t q a.target s in
    let near = issued_le i.0 hi rs i.2 in
    result_stem rs p.nodes p.waiting i.0 hi i.2 (omega (arith, l, (ext_subtree t q a.target s).longer)) z (omega (arith, h, i.1.count))
    ∙ on_stem (filter (takes t a.target) (leaves t)) t q s z (omega (arith, h, l, near, i.1.count)) (others lo i.0 z (flat s) h i.1.within)

-- placing some of the subtrees of a step changes nothing of the nodes that were there but their children
between_grown : (F : Setting) (s : State) (x : ℕ) (q : List ℕ) (before after : List Targeted) → (apply F s x).subtrees ≡ before ++ after → Grown s.nodes (between F s x q before)
between_grown F s x q before after e =
    let t = s.nodes in
    let ns = (apply F s x).nodes in
    let i = issued_front (length t) (length t + length ns) before after (rw e at (apply_issued F s x)) in
    record {
      longer = (between_keeps F s x q before after e).longer;
      stems = λ z h. result_stem before (t ++ ns) q (length t) i.0 i.1 (omega (arith, i.2, length-append t ns)) z h ∙ ap stem (node_append t ns z h);
    }

pub appended_grown : (F : Setting) (s : State) (p : Popped) → Grown s.nodes (appended F s p).nodes
unfolding appended
appended_grown F s p = let rs = (apply F s p.node).subtrees in between_grown F s p.node p.others rs [] (sym (append-nil rs))

module _ (t t' : List Node) (r : Treed t) (g : Grown t t') where
  pub grown_in : (y : ℕ) → In (spots t) y → In (spots t') y
  grown_in y i = ap (λ (n : Stem). placed n.place) (g.stems y (in_range t y i)) ∙ i

  pub grown_parent : (y : ℕ) → In (spots t) y → (node_at t' y).parent ≡ (node_at t y).parent
  grown_parent y i = ap (λ (n : Stem). n.parent) (g.stems y (in_range t y i))

  -- no path of a node that was in the tree changes
  pub grown_path : (y : ℕ) → In (spots t) y → path t' y ≡ path t y
  unfolding path
  grown_path y i =
      upward_like (Number (length t)) t t'
      (λ z n e. (ap (λ (n : Stem). n.parent) (g.stems z (⊎_elim (λ d. absurd (e d)) (λ h. h) n)), parent_number t r z)) (length t') y (inr (in_range t y i))
      ∙ path_more t r (length t') y i g.longer

  -- nor any pair, where formulas are appended
  grown_same : (rs more : List Rec) → WellFormed rs → ((z : ℕ) → z < length t → Number (length rs) (node_at t z).formula) → (y : ℕ) → In (spots t) y → Same rs (rs ++ more) t t' y
  grown_same rs more wf k y i =
      let like : (z : ℕ) → z < length t → Like rs (rs ++ more) t t' z = λ z h.
      let e = g.stems z h in
      let told = formula_same rs more wf (node_at t z).formula (k z h) in
      record { world = ap (λ (n : Stem). n.world) e; says = rw (ap (λ (n : Stem). n.formula) e) told.0; denies = rw (ap (λ (n : Stem). n.formula) e) told.1 } in
      same_by rs (rs ++ more) t t' y (grown_path y i) (like y (in_range t y i)) (each_map like (path t y) (path_distinct t r y i).1)

-- a step changes no path, partner or pair of a node that was in the tree
module _ (F : Setting) (k : ℕ) (s : State) (h : Fit F k s) (e : stops F s ≡ false) (y : ℕ) (i : In (spots s.nodes) y) where
  pub appended_same : (p : Popped) → Same s.formulas (appended F s p).formulas s.nodes (appended F s p).nodes y
  unfolding appended
  appended_same p =
      let z = h.bounded.sizes in
      grown_same s.nodes (appended F s p).nodes (ready F k s h e).treed (appended_grown F s p) s.formulas (apply F s p.node).formulas z.wf (λ x l. (z.labels x l).formula) y i
