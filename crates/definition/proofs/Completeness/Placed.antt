-- Placing a rule's result: each open leaf goes on from one before it, with a chain of each subtree whose target its path holds, and nothing else.
use mathlib.Core.Path.{◌≡◌, refl, sym, ap, ◌∙◌, subst}
use mathlib.Core.Bool.{true, false, not}
use mathlib.Core.List.{[], List, ◌∷◌, ◌++◌, map, reverse, reverse_aux, append_assoc, reverse_aux-eq, reverse-reverse}
use mathlib.Core.Logic.{◌⊎◌, inl, inr, ⊎_map, ◌≢◌}
use Prim.Native.Nat.{ℕ, suc, ◌<◌, ◌≤◌, ◌+◌}
use native.Mathlib.Omega.{arith}
use lib.ListN.{length, length-append, length-reverse}
use lib.Seq.{get_or-append_seam}
use Rattle.definition.specs.Lists.{Each, Distinct, up_from, elem, filter}
use Rattle.definition.specs.Records.{nobody, is_nobody}
use Rattle.definition.specs.Tree.{Place, Left, Middle, Right, place_number, Node, node_at, set_child, link, link_chain, leaves, path, is_contradictory, child_at}
use Rattle.definition.specs.Subtree.{Subtree, Targeted, with_middle, with_left_right, flat, turned, numbered, copied, append_subtree_on_leaf, push_subtree, append_copies, append_on, takes, append_subtree, append_logic_rule_result}
use Rattle.definition.proofs.Basics.Lists.{true_false, alike, and_both, and_left, not_true_false, Some, Among, any_some, some_any, some_append_left, some_append_right, some_each, some_map, some_among, each_some, some_reverse, each_among, each_map, each_both, each_append, each_left, each_right, each_reverse, filter_keeps, filter_each, among_filter, elem_high, Full, full_reverse, some_of_map, each_by, Zip, zip_nil, zip_cons, zip_right, zip_left}
use Rattle.definition.proofs.Tree.Nodes.{blank, Label, label, Ext, ext_trans, ext_append, ext_leaf, ext_copies, ext_subtree, ext_result, length_leaf, leaf_keeps}
use Rattle.definition.proofs.Basics.Identifiers.{IssuedBetween, issued_le, ids_numbered, flat_numbered, length_from, distinct_left, distinct_filter}
use Rattle.definition.specs.TreeShape.{Spot, spots, placed, In, Out, Tree, Treed, Bare}
use Rattle.definition.proofs.Tree.Shape.{in_range, in_out, leaves_bare, leaves_distinct, path_distinct}
use Rattle.definition.proofs.Tree.Linking.{Slot, Free, Room, bare_room, link_other, link_new, link_at, parent_keeps, in_keeps, in_new, link_treed, room_new, free_keeps, chain_ready, hang_treed, leaf_other}
use Rattle.definition.proofs.Run.TreeKept.{append_spots, append_out, map_new, with_copy, copy_length, copy_other, copy_treed, bare_keeps, subtree_treed}
use Rattle.definition.proofs.Paths.Pairs.{climbing, path_below, path_root, Stem, Grown, grown_path}
use Rattle.definition.proofs.Paths.Takers.{closed, grown_append}
use Rattle.definition.proofs.Paths.Marks.{leaf_listed}

-- the nodes of t stay in the tree, on the paths that they had
abbrev Stays : List Node → List Node → Type 0
Stays t u = (z : ℕ) → In (spots t) z → In (spots u) z × (path u z ≡ path t z)

stays_trans : (a b c : List Node) → Stays a b → Stays b c → Stays a c
stays_trans a b c f g z i = let h = f z i in let k = g z h.0 in (k.0, k.1 ∙ h.1)

-- ---- chains
-- one link: x is a leaf in the place of y
link_ends : (t : List Node) (r : Treed t) (y : ℕ) (p : Place) (x : ℕ) (slot : Slot p) (room : Room t y p) (free : Free t x) →
    Stays t (link t y p x) × (path (link t y p x) x ≡ x ∷ path t y) × ((l : ℕ) → Bare (spots (link t y p x)) l → (l ≡ x) ⊎ (Bare (spots t) l × (l ≢ y)))
link_ends t r y p x slot room free =
    let u = link t y p x in
    let treed = link_treed t r y p x slot room free in
    let there = in_keeps t r y p x slot room free in
    let same = climbing t r (λ z. path u z ≡ path t z) (path_root u treed ∙ sym (path_root t r))
    (λ z i j up. rw (path_below u treed z (there z i), path_below t r z i, parent_keeps t r y p x slot room free z (in_out (spots t) z x i free.0), up)) in
    let has : child_at p (node_at u y).children ≡ x = ap (λ (n : Node). child_at p n.children) (link_at t r y p x slot room free) ∙ slot.1 x (node_at t y).children in (
      λ z i. (there z i, same z i),
      rw (path_below u treed x (in_new t r y p x slot room free), link_new t r y p x slot room free, same y room.0),
      λ l b. elim (alike l x) [
        | inl e ↦ inl e
        | inr ne ↦
            let off : l ≢ y = λ e. free.2 (sym has ∙ bare_room p (node_at u y).children (rw e at b.1)) in
            inr (bare_keeps u t l (sym (link_other t y p x l off ne)) b, off)
      ],
    )

empty : (xs : List ℕ) → (Full xs → ⊥) → xs ≡ []
empty [] f = refl
empty (x ∷ xs) f = absurd (f tt)

-- a chain of free nodes below y: the last one is a leaf in the place of y
pub record Chained (t u : List Node) (y : ℕ) (cs : List ℕ) : Type 0 where
  pub stays : Stays t u
  pub ends : (l : ℕ) → Bare (spots u) l → (Bare (spots t) l × (Full cs → l ≢ y)) ⊎ (Full cs × (path u l ≡ reverse_aux cs (path t y)))

pub chain_ends : (cs : List ℕ) (t : List Node) (y : ℕ) (p : Place) → Slot p → Treed t → Room t y p → Each (Free t) cs → Distinct cs → Chained t (link_chain t y p cs) y cs
unfolding link_chain child_at set_child placed
chain_ends [] t y p slot r room f d = record { stays = λ z i. (i, refl); ends = λ l b. inl (b, λ h. absurd h) }
chain_ends (c ∷ cs) t y p slot r room f d =
    let u = link t y p c in
    let v = link_chain u c Middle cs in
    let (stays, one, bare) = link_ends t r y p c slot room f.0 in
    let k = chain_ends cs u c Middle (refl, λ x e. refl) (link_treed t r y p c slot room f.0) (room_new t r y p c slot room f.0 Middle)
    (each_both (free_keeps t r y p c slot room f.0) cs f.1 d.0) d.1 in
    record {
      stays = stays_trans t u v stays k.stays;
      ends = λ l b. elim (k.ends l b) [
        | inr (h, q) ↦ inr (tt, q ∙ ap (reverse_aux cs) one)
        | inl (h, off) ↦ elim (bare l h) [
          | inl e ↦ inr (tt, ap (path v) e ∙ (k.stays c (in_new t r y p c slot room f.0)).1 ∙ one ∙ ap (λ (es : List ℕ). reverse_aux es (c ∷ path t y)) (sym (empty cs (λ q. off q e))))
          | inr (g, ne) ↦ inl (g, λ q. ne)
        ]
      ];
    }

-- ---- the chain that a path takes of a subtree
abbrev chains_of : Subtree → List (List ℕ)
chains_of s = s.left ∷ s.middle ∷ s.right ∷ []

-- one of the three, which has a node if any has
abbrev pub Pick : Subtree → List ℕ → Type 0
Pick s cs = Among cs (chains_of s) × (Some Full (chains_of s) → Full cs)

-- what holds of a subtree holds of the chain
pub pick_each : (P : ℕ → Type 0) (s : Subtree) (cs : List ℕ) → Pick s cs → Each P (flat s) → Each P cs
unfolding flat
pick_each P s cs p h =
    let r = each_right P s.left (s.middle ++ s.right) h in
    each_among (Each P) cs (chains_of s) (each_left P s.left _ h, (each_left P s.middle s.right r, (each_right P s.middle s.right r, tt))) p.0

-- the chain that is picked of a single one, of two sides, of a turned subtree
pub middle_pick : (fs ds : List ℕ) → Pick (with_middle fs) ds → ds ≡ fs
middle_pick fs ds (inr (inl e), f) = sym e
middle_pick fs ds (inl e, f) = sym e ∙ sym (empty fs (λ h. rw (← e) at (f (inr (inl h)))))
middle_pick fs ds (inr (inr (inl e)), f) = sym e ∙ sym (empty fs (λ h. rw (← e) at (f (inr (inl h)))))
middle_pick fs ds (inr (inr (inr e)), f) = elim e [ ]

pub sides_pick : (fs gs ds : List ℕ) → Pick (with_left_right fs gs) ds → (ds ≡ fs) ⊎ (ds ≡ gs)
sides_pick fs gs ds (inl e, f) = inl (sym e)
sides_pick fs gs ds (inr (inl e), f) = inl (sym e ∙ sym (empty fs (λ h. rw (← e) at (f (inl h)))))
sides_pick fs gs ds (inr (inr (inl e)), f) = inr (sym e)
sides_pick fs gs ds (inr (inr (inr e)), f) = elim e [ ]

pick_turned : (s : Subtree) (cs : List ℕ) → Pick (turned s) cs → Pick s (reverse cs)
unfolding turned
pick_turned s cs p =
    let back : (xs : List ℕ) → xs ≡ reverse (reverse xs) = λ xs. sym (reverse-reverse xs) in (
      each_among (λ cs. Among (reverse cs) (chains_of s)) cs (chains_of (turned s)) (inl (back s.left), (inr (inl (back s.middle)), (inr (inr (inl (back s.right))), tt))) p.0,
      λ h. full_reverse cs (p.1 (some_of_map Full reverse (chains_of s) (some_map full_reverse (chains_of s) h))),
    )

-- a subtree of free nodes is hung on a leaf: other leaves stay, and this one goes on with a chain
hang_ends : (t : List Node) (y : ℕ) (s : Subtree) → Treed t → Bare (spots t) y → Each (Free t) (flat s) → Distinct (flat s) →
    Stays t (append_subtree_on_leaf t y s) ×
    ((l : ℕ) → Bare (spots (append_subtree_on_leaf t y s)) l → (Bare (spots t) l × (l ≢ y)) ⊎ ((cs : List ℕ) × Pick s cs × (path (append_subtree_on_leaf t y s) l ≡ reverse_aux cs (path t y))))
unfolding append_subtree_on_leaf flat child_at set_child placed place_number
hang_ends t y s r e f d =
    let x = s.left in let m = s.middle in let z = s.right in
    let a = link_chain t y Left x in let b = link_chain a y Middle m in let c = link_chain b y Right z in
    let room : (p : Place) → Room t y p = λ p. (e.0, bare_room p (node_at t y).children e.1) in
    let r₁ = chain_ready x (m ++ z) t y Left y (Middle ∷ Right ∷ []) (refl, λ x c. refl) (room Left)
    (λ i q. omega (arith, ap place_number q), (λ i q. omega (arith, ap place_number q), tt)) (r, (room Middle, (room Right, tt)), f, d) in
    let r₂ = chain_ready m z a y Middle y (Right ∷ []) (refl, λ x c. refl) r₁.1.0 (λ i q. omega (arith, ap place_number q), tt) (r₁.0, r₁.1.1, r₁.2, r₁.3) in
    let k₁ = chain_ends x t y Left (refl, λ x c. refl) r (room Left) (each_left (Free t) x (m ++ z) f) (distinct_left x (m ++ z) d) in
    let k₂ = chain_ends m a y Middle (refl, λ x c. refl) r₁.0 r₁.1.0 (each_left (Free a) m z r₁.2) (distinct_left m z r₁.3) in
    let k₃ = chain_ends z b y Right (refl, λ x c. refl) r₂.0 r₂.1.0 r₂.2 r₂.3 in
    let ab = stays_trans t a b k₁.stays k₂.stays in let all = stays_trans t b c ab k₃.stays in (
      all,
      λ l h. elim (k₃.ends l h) [
        | inr (g, q) ↦ inr (z, (inr (inr (inl refl)), λ f. g), q ∙ ap (reverse_aux z) (ab y e.0).1)
        | inl (h₂, n₃) ↦ elim (k₂.ends l h₂) [
          | inr (g, q) ↦ inr (m, (inr (inl refl), λ f. g), (k₃.stays l h₂.0).1 ∙ q ∙ ap (reverse_aux m) (k₁.stays y e.0).1)
          | inl (h₁, n₂) ↦ elim (k₁.ends l h₁) [
            | inr (g, q) ↦ inr (x, (inl refl, λ f. g), (stays_trans a b c k₂.stays k₃.stays l h₁.0).1 ∙ q)
            | inl (h₀, n₁) ↦ elim (alike l y) [
              | inr q ↦ inl (h₀, q)
              | inl q ↦ inr (x, (inl refl, λ g. absurd (each_some Full (chains_of s) (λ f. n₁ f q, (λ f. n₂ f q, (λ f. n₃ f q, tt))) g)), (all l h₀.0).1 ∙ rw (q, empty x (λ f. n₁ f q)))
            ]
          ]
        ]
      ],
    )

-- ---- copies
module _ {A B : Type 0} (R : A → B → Type 0) where
  zip_full : {xs : List A} {ys : List B} → Zip R xs ys → (Full xs → Full ys) × (Full ys → Full xs)
  zip_full zip_nil = (λ h. h, λ h. h)
  zip_full (zip_cons h k) = (λ h. tt, λ h. tt)

  zip_split : (vs bs : List A) (cs ds : List B) → length vs ≡ length cs → Zip R (vs ++ bs) (cs ++ ds) → Zip R vs cs × Zip R bs ds
  zip_split [] bs [] ds e k = (zip_nil, k)
  zip_split [] bs (c ∷ cs) ds e k = absurd (omega arith)
  zip_split (a ∷ vs) bs [] ds e k = absurd (omega arith)
  zip_split (a ∷ vs) bs (c ∷ cs) ds e (zip_cons h k) = let m = zip_split vs bs cs ds (omega arith) k in (zip_cons h m.0, m.1)

zip_same : {R : ℕ → ℕ → Type 0} (xs : List ℕ) → Each (λ x. R x x) xs → Zip R xs xs
zip_same [] h = zip_nil
zip_same (x ∷ xs) h = zip_cons h.0 (zip_same xs h.1)

zip_map : {R S : ℕ → ℕ → Type 0} (P Q : ℕ → Type 0) {xs ys : List ℕ} → ((x y : ℕ) → P x → Q y → R x y → S x y) → Each P xs → Each Q ys → Zip R xs ys → Zip S xs ys
zip_map P Q f p q zip_nil = zip_nil
zip_map P Q f p q (zip_cons h k) = zip_cons (f _ _ p.0 q.0 h) (zip_map P Q f p.1 q.1 k)

-- the nodes xs stand in w from n on
abbrev pub LaidFrom : List Node → ℕ → List Node → Type 0
LaidFrom w n [] = Unit {0}
LaidFrom w n (x ∷ xs) = (node_at w n ≡ x) × LaidFrom w (suc n) xs

pub laid_end : (t ns : List Node) → LaidFrom (t ++ ns) (length t) ns
laid_end t [] = tt
laid_end t (x ∷ ns) = (
  get_or-append_seam t x ns blank,
  subst (λ (w : List Node). LaidFrom w (suc (length t)) ns) (append_assoc t (x ∷ []) ns) (subst (λ (n : ℕ). LaidFrom ((t ++ (x ∷ [])) ++ ns) n ns) (omega (arith, length-append t (x ∷ []))) (laid_end (t ++ (x ∷ [])) ns)),
)

pub laid_left : (w : List Node) (n : ℕ) (xs ys : List Node) → LaidFrom w n (xs ++ ys) → LaidFrom w n xs
laid_left w n [] ys h = tt
laid_left w n (x ∷ xs) ys h = (h.0, laid_left w (suc n) xs ys h.1)

pub laid_right : (w : List Node) (n m : ℕ) (xs ys : List Node) → n + length xs ≡ m → LaidFrom w n (xs ++ ys) → LaidFrom w m ys
laid_right w n m [] ys e h = subst (λ (k : ℕ). LaidFrom w k ys) (omega (arith, e)) h
laid_right w n m (x ∷ xs) ys e h = laid_right w (suc n) m xs ys (omega (arith, e)) h.1

pub laid_zip : (w : List Node) (f : ℕ → Node) (cs : List ℕ) (n : ℕ) → LaidFrom w n (map f cs) → Zip (λ z c. node_at w z ≡ f c) (up_from (length cs) n) cs
laid_zip w f [] n h = zip_nil
laid_zip w f (c ∷ cs) n h = zip_cons h.0 (laid_zip w f cs (suc n) h.1)

-- c has the shape of s, and its nodes are related to those of s
abbrev Copy : (ℕ → ℕ → Type 0) → Subtree → Subtree → Type 0
Copy R c s = Zip R (flat c) (flat s) × (length c.left ≡ length s.left) × (length c.middle ≡ length s.middle)

-- a chain of c is related to the chain of s at its place
copy_pick : (R : ℕ → ℕ → Type 0) (c s : Subtree) → Copy R c s → (cs : List ℕ) → Pick c cs → (ds : List ℕ) × Pick s ds × Each (λ d. Some (λ z. R z d) cs) ds
unfolding flat
copy_pick R c s k cs p =
    let a = zip_split R c.left (c.middle ++ c.right) s.left (s.middle ++ s.right) k.1 k.0 in
    let b = zip_split R c.middle c.right s.middle s.right k.2 a.1 in
    let m = some_among {P = Zip R cs} (chains_of s) (zip_left (Zip R) (chains_of c) (chains_of s) (zip_cons a.0 (zip_cons b.0 (zip_cons b.1 zip_nil))) cs p.0) in
    (m.0, (m.1, λ f. (zip_full R m.2).0 (p.1 (⊎_map (zip_full R a.0).1 (⊎_map (zip_full R b.0).1 (⊎_map (zip_full R b.1).1 (λ h. h))) f))), each_by _ m.0 (zip_right R cs m.0 m.2))

-- a numbered subtree is related to that for whose numbers its nodes were made
made_copy : (f : ℕ → Node) (t : List Node) (s : Subtree) → Copy (λ z d. node_at (t ++ map f (flat s)) z ≡ f d) (numbered (length t) s) s
unfolding numbered
made_copy f t s = (rw (flat_numbered (length t) s) (laid_zip _ f (flat s) (length t) (laid_end t (map f (flat s)))), length_from (length s.left) _, length_from (length s.middle) _)

-- ---- what a path shows
-- one of the nodes xs of u has this label
abbrev pub Shows : List Node → List ℕ → Label → Type 0
Shows u xs a = Some (λ z. label (node_at u z) ≡ a) xs

-- a chain of s, labelled as in t₀, is shown by the nodes xs of u
abbrev pub Side : List Node → Subtree → List Node → List ℕ → Type 0
Side t₀ s u xs = (cs : List ℕ) × Pick s cs × Each (λ c. Shows u xs (label (node_at t₀ c))) cs

side_more : (t₀ : List Node) (s : Subtree) (v u : List Node) (xs ys : List ℕ) → ((a : Label) → Shows v xs a → Shows u ys a) → Side t₀ s v xs → Side t₀ s u ys
side_more t₀ s v u xs ys f k = (k.0, k.1, each_map (λ c. f (label (node_at t₀ c))) k.0 k.2)

-- a chain that is shown of what a rule makes here is shown of the rule
pub here_side : (make : ℕ → Node) (t : List Node) (fs : Subtree) (u : List Node) (xs : List ℕ) → Side (t ++ map make (flat (turned fs))) (turned (numbered (length t) fs)) u xs →
    (ds : List ℕ) × Pick fs ds × Each (λ f. Shows u xs (label (make f))) ds
unfolding numbered turned
here_side make t fs u xs (cs, p, h) =
    let v = t ++ map make (flat (turned fs)) in
    let R : ℕ → ℕ → Type 0 = λ z d. node_at v z ≡ make d in
    let q : Pick (numbered (length t) (turned fs)) (reverse cs) = simp length-reverse (pick_turned (numbered (length t) fs) cs p) in
    let k = copy_pick R (numbered (length t) (turned fs)) (turned fs) (made_copy make t (turned fs)) (reverse cs) q in
    let shown = each_reverse (λ c. Shows u xs (label (node_at v c))) cs h in
    let each : (d : ℕ) → Some (λ z. R z d) (reverse cs) → Shows u xs (label (make d)) = λ d. each_some _ (reverse cs) (each_map (λ z g e. rw (← e) g) (reverse cs) shown) in
    (reverse k.0, pick_turned fs k.0 k.1, each_reverse (λ f. Shows u xs (label (make f))) k.0 (each_map each k.0 k.2))

-- ---- the leaves after a subtree is placed
-- the nodes of t are marked as they were
abbrev ContrariansKept : List Node → List Node → Type 0
ContrariansKept t u = (z : ℕ) → z < length t → (node_at u z).contrarian ≡ (node_at t z).contrarian

-- a path whose end is open was open
pub open_back : (t u : List Node) (l m : ℕ) (new : List ℕ) → Treed t → In (spots t) m → ContrariansKept t u → path u l ≡ new ++ path t m → closed u l ≡ false → closed t m ≡ false
unfolding is_contradictory
open_back t u l m new r i k e o =
    not_true_false (closed t m)
    (λ h. true_false (sym (some_any (λ x. is_contradictory (node_at u x)) (path u l) (rw e (some_append_right _ new (path t m)
    (some_each (λ z (c : is_contradictory (node_at t z) ≡ true) (b : z < length t). ap (λ (c : ℕ). not (is_nobody c)) (k z b) ∙ c) (path t m) (any_some _ (path t m) h) (path_distinct t r m i).1)))) ∙ o))

module _ (t₀ : List Node) (old : ℕ) where
  -- z is labelled in u as d in t₀
  abbrev Like : List Node → ℕ → ℕ → Type 0
  Like u z d = label (node_at u z) ≡ label (node_at t₀ d)

  -- a leaf l of u goes on from a leaf m of t: with a chain like one of s, if m is one of ls, and else with nothing
  abbrev Ends : List Node → List Node → List ℕ → Subtree → Type 0
  Ends t u ls s = ContrariansKept t u × ((l : ℕ) → Bare (spots u) l →
      (m : ℕ) × (cs : List ℕ) × Bare (spots t) m × (path u l ≡ cs ++ path t m) × (Among m ls → Side t₀ s u cs) × Each (λ z. (old ≤ z) × Among m ls × Some (Like u z) (flat s)) cs)

  -- t' is t, perhaps with nodes that are not in the tree; c, a copy of s, hangs on its leaf y
  ends_more : (t t' u : List Node) (y : ℕ) (ls : List ℕ) (s c : Subtree) → spots t' ≡ spots t → Grown t t' → Treed t → Bare (spots t) y →
      Each (Free t') (flat c) → Distinct (flat c) → Each (λ z. old ≤ z) (flat c) → Copy (Like u) c s → Ends (append_subtree_on_leaf t' y c) u ls s → Ends t u (y ∷ ls) s
  ends_more t t' u y ls s c same g r b f d high copy k =
      let hang = hang_ends t' y c (subst Tree (sym same) r) (subst (λ (g : ℕ → Spot). Bare g y) (sym same) b) f d in (
        λ z h. k.0 z (omega (arith, length_leaf t' y c))
            ∙ leaf_keeps (λ (n : Node). n.contrarian) (record { entering = λ y p n. refl; bearing = λ p x n. refl }) t' y c z ∙ ap (λ (n : Stem). n.contrarian) (g.stems z h),
        λ l bl.
            let (m, cs, a, e, side, all) = k.1 l bl in
            elim (hang.1 m a) [
              | inl (i, ne) ↦
                  let j = subst (λ (g : ℕ → Spot). Bare g m) same i in
                  (m, cs, j, rw (e, (hang.0 m i.0).1, grown_path t t' r g m j.0), λ h. elim h [ inl q ↦ absurd (ne (sym q)) | inr h ↦ side h ], each_map (λ z w. (w.0, inr w.1, w.2)) cs all)
              | inr (ds, p, q) ↦
                  let w = copy_pick (Like u) c s copy ds p in
                  let at : path u l ≡ (cs ++ reverse ds) ++ path t y = rw (e, q, grown_path t t' r g y b.0, reverse_aux-eq ds (path t y), append_assoc cs (reverse ds) (path t y)) in
                  let chain : Side t₀ s u (cs ++ reverse ds) = (w.0, w.1, each_map (λ d h. some_append_right _ cs (reverse ds) (some_reverse _ ds h)) w.0 w.2) in
                  let up = pick_each _ c ds p high in let like = pick_each _ c ds p (each_by _ (flat c) (zip_left (Like u) (flat c) (flat s) copy.0)) in
                  (y, cs ++ reverse ds, b, at, λ h. chain, each_append _ cs (reverse ds) (each_map (λ z w. (w.0, inl refl, w.2)) cs all) (each_reverse _ ds (each_both (λ z h w. (h, inl refl, w)) ds up like)))
            ],
      )

  -- copies of s on the leaves ls; it is labelled as in t₀
  copies_end : (ls : List ℕ) (t : List Node) (q : List ℕ) (s : Subtree) → Treed t → Each (Bare (spots t)) ls → Distinct ls → Ext t₀ t → Each (λ c. c < length t₀) (flat s) → old ≤ length t →
      length (append_copies t q ls s).nodes ≤ nobody → Ends t (append_copies t q ls s).nodes ls s
  unfolding append_copies
  copies_end [] t q s r b d ext low high few = (λ z h. refl, λ l b. (l, [], b, refl, λ h. absurd h, tt))
  copies_end (y ∷ ls) t q s r b d ext low high few =
      let n = length t in let c = numbered n s in let w = push_subtree q c in
      let ns = map (copied t) (flat s) in let t' = t ++ ns in let v = with_copy t y s in
      let new = map_new (copied t) (λ x. refl) (flat s) in
      let ids = ids_numbered n s in let copy = made_copy (copied t) t s in
      let len = copy_length t y s in let near = length_leaf t' y c in
      let long = ext_copies ls v w s in let labels = ext_trans t' v _ (ext_leaf t' y c) long in
      ends_more t t' _ y ls s c (append_spots t ns new) (grown_append t ns) r b.0
      (each_map {Q = Free t'} (λ x h. (append_out t ns new x h.0, omega arith, λ e. omega arith)) (flat c) ids.within) ids.distinct (each_map (λ x h. omega arith) (flat c) ids.within)
      (zip_map _ _ (λ z d h l e. labels.labelled z (omega arith) ∙ ap label e ∙ ext.labelled d l) ids.within low copy.0, copy.1, copy.2)
      (copies_end ls v w s (copy_treed t y s r b.0 (omega arith))
      (each_both {R = Bare (spots v)} (λ z g h. bare_keeps t v z (copy_other t y s z (in_range t z g.0) h) g) ls b.1 d.0) d.1
      (ext_trans t₀ t v ext (ext_trans t t' v (ext_append t ns) (ext_leaf t' y c))) low (omega arith) few)

  -- s itself on the first of them, copies on the others
  on_end : (ls : List ℕ) (t : List Node) (q : List ℕ) (s : Subtree) → Treed t → Each (Bare (spots t)) ls → Distinct ls → Ext t₀ t → Each (λ c. c < length t₀) (flat s) → old ≤ length t →
      Each (Free t) (flat s) → Distinct (flat s) → Each (λ c. old ≤ c) (flat s) → length (append_on t q ls s).nodes ≤ nobody → Ends t (append_on t q ls s).nodes ls s
  unfolding append_on
  on_end [] t q s r b d ext low high f one new few = (λ z h. refl, λ l b. (l, [], b, refl, λ h. absurd h, tt))
  on_end (y ∷ ls) t q s r b d ext low high f one new few =
      let v = append_subtree_on_leaf t y s in let w = push_subtree q s in
      let ext' = ext_trans t₀ t v ext (ext_leaf t y s) in
      let labels = ext_trans t₀ v _ ext' (ext_copies ls v w s) in
      ends_more t t _ y ls s s refl (record { longer = omega arith; stems = λ z h. refl }) r b.0 f one new
      (zip_same (flat s) (each_map labels.labelled (flat s) low), refl, refl)
      (copies_end ls v w s (hang_treed t y s r b.0 f one)
      (each_both {R = Bare (spots v)} (λ z g h. bare_keeps t v z (leaf_other t y s z h (each_map {Q = λ x. z ≢ x} (λ x a. in_out (spots t) z x g.0 a.0) (flat s) f)) g) ls b.1 d.0) d.1
      ext' low (omega (arith, length_leaf t y s)) few)

  -- the open leaf l of u goes on from the open leaf `from` of t
  pub record Grew (rs : List Targeted) (t u : List Node) (l : ℕ) : Type 0 where
    pub from : ℕ
    pub bare : Bare (spots t) from
    pub unmarked : closed t from ≡ false
    pub new : List ℕ
    pub is : path u l ≡ new ++ path t from
    pub shows : Each (λ (a : Targeted). elem a.target (path t from) ≡ true → Side t₀ a.subtree u (path u l)) rs
    pub only : Each (λ z. (old ≤ z) × Some (λ (a : Targeted). (elem a.target (path t from) ≡ true) × Some (λ c. label (node_at u z) ≡ label (node_at t₀ c)) (flat a.subtree)) rs) new

  -- one subtree more, before the others: the leaf from which l goes on in v goes on from m
  grew_more : (a : Targeted) (rs : List Targeted) (t v u : List Node) (l : ℕ) (up : Grew rs v u l) → Treed v → Ext v u → Each (λ (d : Targeted). d.target < old) rs →
      (m : ℕ) (cs : List ℕ) → Bare (spots t) m → closed t m ≡ false → path v up.from ≡ cs ++ path t m → (elem a.target (path t m) ≡ true → Side t₀ a.subtree v cs) →
      Each (λ z. (old ≤ z) × (elem a.target (path t m) ≡ true) × Some (Like v z) (flat a.subtree)) cs → Grew (a ∷ rs) t u l
  grew_more a rs t v u l up r ext low m cs b o e side all =
      let ys = path v up.from in
      let inside : Each (λ z. z < length v) ys = (path_distinct v r up.from up.bare.0).1 in
      let held : (d : Targeted) → d.target < old → elem d.target ys ≡ elem d.target (path t m) = λ d h. rw e (elem_high d.target cs (path t m) (each_map (λ z w q. omega arith) cs all)) in
      let shown : (b : Label) → Shows v ys b → Shows u (path u l) b = λ b w. rw up.is (some_append_right _ up.new ys (some_each (λ z (q : label (node_at v z) ≡ b) h. ext.labelled z h ∙ q) ys w inside)) in
      record {
        from = m;
        bare = b;
        unmarked = o;
        new = up.new ++ cs;
        is = rw (up.is, e, append_assoc up.new cs (path t m));
        shows = (
          λ g. side_more t₀ a.subtree v u cs (path u l) (λ b w. shown b (rw e (some_append_left _ cs (path t m) w))) (side g),
          each_both {R = λ (d : Targeted). elem d.target (path t m) ≡ true → Side t₀ d.subtree u (path u l)} (λ d f h g. f (held d h ∙ g)) rs up.shows low,
        );
        only = each_append _ up.new cs
            (each_map (λ z w. (w.0, inr (some_each (λ (d : Targeted) e h. (sym (held d h) ∙ e.0, e.1)) rs w.1 low))) up.new up.only)
            (each_both (λ z w h. (w.0, inl (w.1, some_map (λ c q. ext.labelled z h ∙ q) (flat a.subtree) w.2))) cs all (each_left _ cs (path t m) (rw e at inside)));
      }

  -- v is t with a's subtree on the leaves ls, those that are open and hold its target
  grew_on : (a : Targeted) (rs : List Targeted) (t v u : List Node) (l : ℕ) (ls : List ℕ) → Treed t → Treed v → Ext v u → Each (λ (d : Targeted). d.target < old) rs → Ends t v ls a.subtree →
      ((m : ℕ) → Bare (spots t) m → closed t m ≡ false → elem a.target (path t m) ≡ true → Among m ls) → ((m : ℕ) → Among m ls → elem a.target (path t m) ≡ true) → Grew rs v u l → Grew (a ∷ rs) t u l
  grew_on a rs t v u l ls r k ext low all taker holds up =
      let (m, cs, bare, e, side, new) = all.1 up.from up.bare in
      let fair = open_back t v up.from m cs r bare.0 all.0 e up.unmarked in
      grew_more a rs t v u l up k ext low m cs bare fair e (λ g. side (taker m bare fair g)) (each_map (λ z w. (w.0, holds m w.1, w.2)) cs new)

  -- the subtrees of a result, one after the other: nodes of t₀ that are not in the tree yet
  pub result_grew : (rs : List Targeted) (t : List Node) (q : List ℕ) (lo hi : ℕ) → Treed t → Ext t₀ t → IssuedBetween lo hi rs → ((z : ℕ) → lo ≤ z → z < hi → Out (spots t) z) → hi ≤ length t₀ → old ≤ lo →
      length (append_logic_rule_result t q rs).nodes ≤ nobody → Each (λ (a : Targeted). a.target < old) rs →
      (l : ℕ) → Bare (spots (append_logic_rule_result t q rs).nodes) l → closed (append_logic_rule_result t q rs).nodes l ≡ false → Grew rs t (append_logic_rule_result t q rs).nodes l
  unfolding append_logic_rule_result append_subtree takes
  result_grew [] t q lo hi r ext i o top low few tg l b c = record { from = l; bare = b; unmarked = c; new = []; is = refl; shows = tt; only = tt }
  result_grew (a ∷ rs) t q lo hi r ext i o top low few tg l b c =
      let x = a.target in let s = a.subtree in let ids = i.1 in
      let p = append_subtree t q x s in let v = p.nodes in
      let near = issued_le i.0 hi rs i.2 in
      let one = ext_subtree t q x s in let more = ext_result rs v p.waiting in
      let far : length v ≤ nobody = omega arith in
      let free = each_map {Q = Free t} (λ z w. (o z w.0 (omega arith), omega arith, λ e. omega arith)) (flat s) ids.within in
      let k = subtree_treed t q x s r free ids.distinct far in
      let up = result_grew rs v p.waiting i.0 hi k.0 (ext_trans t₀ t v ext one) i.2
      (λ z g e.
      let out = o z (omega arith) e in
      ap (λ (n : Node). placed n.place) (k.1 z out (omega arith) (each_map {Q = λ c. z ≢ c} (λ c w d. omega arith) (flat s) ids.within)) ∙ out)
      top (omega arith) few tg.1 l b c in
      let ls = filter (takes t x) (leaves t) in
      let all = on_end ls t q s r (filter_keeps (Bare (spots t)) (takes t x) (leaves t) (leaves_bare t r)) (distinct_filter (takes t x) (leaves t) (leaves_distinct t r)) ext
      (each_map (λ c w. omega arith) (flat s) ids.within) (omega arith) free ids.distinct (each_map (λ c w. omega arith) (flat s) ids.within) far in
      grew_on a rs t v _ l ls r k.0 more tg.1 all (λ m bare fair g. among_filter (takes t x) m (leaves t) (and_both (elem x (path t m)) _ g (ap not fair)) (leaf_listed t r m bare))
      (λ m j. and_left (elem x (path t m)) _ (each_among (λ y. takes t x y ≡ true) m ls (filter_each (takes t x) (leaves t)) j)) up
