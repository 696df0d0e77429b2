-- The check of a tree that was checked when it had fewer nodes: it marks by the new leaves alone, in the order of their identifiers.
use mathlib.Core.Path.{◌≡◌, refl, sym, ap, ap₂, ◌∙◌, subst, fun_ext}
use mathlib.Core.Bool.{Bool, true, false, not, cond, ◌&&◌}
use mathlib.Core.List.{List, ◌∷◌, map, []}
use mathlib.Core.Option.{Option, none, some}
use mathlib.Core.Logic.{◌⊎◌, inl, inr, ⊎_elim, ◌≢◌}
use Prim.Native.Nat.{ℕ, ◌<◌, ◌≤◌, ◌+◌, ◌-◌}
use native.Mathlib.Omega.{arith}
use lib.Dec.{leb, eqb}
use borrow.Author.Tests.{leb-true, leb-false, le-leb}
use lib.ListN.{length}
use lib.Seq.{ext_get_or, set-get_or}
use Rattle.definition.specs.Lists.{Each, all, filter, elem, up_from, empty}
use Rattle.definition.specs.Records.{nobody, Rec}
use Rattle.definition.specs.Setting.{Setting}
use Rattle.definition.specs.Tree.{Node, node_at, marked_against, change, is_leaf, leaves, path, child_at}
use Rattle.definition.specs.Contradiction.{Pair, is_pair, mark, mark_all, pairs}
use Rattle.definition.specs.Subtree.{takes}
use Rattle.definition.specs.Queue.{Popped}
use Rattle.definition.specs.Run.{State, appended, stops}
use Rattle.definition.proofs.Basics.Lists.{true_false, either, alike, and_left, and_right, and_both, or_true, not_true_false, all_each, Some, some_each, some_pick, some_of_map, each_map, each_any, each_both, each_filter, each_of_map, up_from_each, among_filter, among_from, some_or, each_all, some_from_map}
use Rattle.definition.proofs.Tree.Nodes.{blank, change_other, mark_keeps, length_marks}
use Rattle.definition.specs.TreeShape.{Spot, spot, spots, placed, In, Tree, Treed, Bare}
use Rattle.definition.proofs.Tree.Shape.{in_range, in_out, root_in, leaves_bare}
use Rattle.definition.proofs.Tree.Linking.{bare_room}
use Rattle.definition.proofs.Run.Stepping.{not_stopped}
use Rattle.definition.proofs.Run.TreeKept.{marks_keep}
use Rattle.definition.proofs.Call.Room.{Fit, ready}
use Rattle.definition.specs.Shortcuts.{partner, pair_of, RightMarks, bare_at, pair_at, new_pairs, closed_at, NoPairAbove, CheckedAt}
use Rattle.definition.proofs.Paths.Pairs.{climbing, path_below, path_root, marks_same, Stem, appended_grown, grown_in, appended_same}
use Rattle.definition.proofs.Paths.Takers.{closed, leaf_by, bare_before}
use Rattle.definition.proofs.Paths.Marks.{leaf_listed, leaf_each, each_from, pair_partner, Done, Exact, exact_mark, done_one, done_all, pair_exact, leaves_exact, marks_checked, Checked, closed_pair, open_none, marks_leaves, old_in, appended_hung, appended_right, MarksRight}

-- ---- lists
filter_all : (xs : List ℕ) → filter (leb 0) xs ≡ xs
filter_all [] = refl
filter_all (x ∷ xs) = rw (le-leb 0 x (omega arith), filter_all xs)

-- ---- marks that are there already
-- against partners: π names the partner of a node
module _ (π : ℕ → Option ℕ) where
  -- a mark that is there changes nothing
  done_again : (u : List Node) (o : Option Pair) → Done u o → mark u o ≡ u
  unfolding mark
  done_again u none d = refl
  done_again u (some p) d = rw (← d) (set-get_or u p.later blank)

  -- so that of the pairs of some leaves, those that are marked can be left out
  done_skip : {A : Type 0} (f : A → Option Pair) (p : A → Bool) (ls : List A) (u : List Node) → Each (λ l. Exact π (length u) (f l)) ls → Each (λ l. p l ≡ false → Done u (f l)) ls →
      mark_all u (map f ls) ≡ mark_all u (map f (filter p ls))
  unfolding mark_all
  done_skip f p [] u h d = refl
  done_skip f p (l ∷ ls) u h d =
      ⊎_elim (λ (e : p l ≡ true).
      rw e (done_skip f p ls (mark u (f l)) (each_map (λ m. exact_mark π u (f l) (f m)) ls h.1)
      (each_both {R = λ m. p m ≡ false → Done (mark u (f l)) (f m)} (λ m a b q. done_one π u (f l) (f m) h.0 a (b q)) ls h.1 d.1)))
      (λ (e : p l ≡ false). rw e (ap (λ (v : List Node). mark_all v (map f ls)) (done_again u (f l) (d.0 e)) ∙ done_skip f p ls u h.1 d.1)) (either (p l))

all_map : {A B : Type 0} (p : B → Bool) (q : A → Bool) (f : A → B) (xs : List A) → Each (λ x. p (f x) ≡ q x) xs → all p (map f xs) ≡ all q xs
all_map p q f [] h = refl
all_map p q f (x ∷ xs) h = rw (h.0, all_map p q f xs h.1)

-- "every path has a pair" is that every leaf's path is closed after the check
all_closed : (rs : List Rec) (t : List Node) → Treed t → length t ≤ nobody → RightMarks rs t →
    let u = mark_all t (pairs rs t (leaves t)) in all is_pair (pairs rs t (leaves t)) ≡ all (closed u) (leaves u)
unfolding pairs pair_of
all_closed rs t r few m =
    let found = pairs rs t (leaves t) in
    let u = mark_all t found in
    let k = marks_keep found t in
    let size : length u ≤ nobody = omega (arith, few, length_marks found t) in
    let stands : spots t ≡ spots u = fun_ext (λ x. sym (mark_keeps spot (λ j n. refl) found t x)) in
    rw (marks_leaves t found)
    (all_map is_pair (closed u) (pair_of rs t) (leaves t)
    (each_map (λ l (b : Bare (spots t) l).
    sym (closed_pair rs u (k.treed r size) size (marks_checked rs t r m) l (subst (λ (g : ℕ → Spot). Bare g l) stands b) ∙ ap is_pair (marks_same rs t found l).same_pair)) (leaves t) (leaves_bare t r)))

-- ---- marks, node by node
-- x is the later node of the pair
abbrev Later : ℕ → Option Pair → Type 0
Later x none = ⊥
Later x (some p) = p.later ≡ x

later_or : (x : ℕ) (o : Option Pair) → Later x o ⊎ (Later x o → ⊥)
later_or x none = inr (λ h. h)
later_or x (some p) = alike p.later x

marks_miss : (x : ℕ) (ps : List (Option Pair)) (t : List Node) → Each (λ o. Later x o → ⊥) ps → node_at (mark_all t ps) x ≡ node_at t x
unfolding mark_all mark
marks_miss x [] t h = refl
marks_miss x (none ∷ ps) t h = marks_miss x ps t h.1
marks_miss x (some p ∷ ps) t h =
    marks_miss x ps (change t p.later (marked_against p.earlier)) h.1 ∙ change_other t p.later x (marked_against p.earlier) (λ e. h.0 (sym e))

node_as : (m n : Node) → m.contrarian ≡ n.contrarian → marked_against nobody m ≡ marked_against nobody n → m ≡ n
node_as m n e h = ap₂ (λ (j : ℕ) (z : Node). marked_against j z) e h

some_inj : (x y : ℕ) → ◌≡◌ {A = Option ℕ} (some x) (some y) → x ≡ y
some_inj x y e = cc

-- pairs of partners: π names the partner of a node
module _ (π : ℕ → Option ℕ) (t : List Node) where
  hit_of : (v : List Node) (x n : ℕ) (o : Option Pair) → Later x o → Done v o → Exact π n o → π x ≡ some (node_at v x).contrarian
  hit_of v x n none l d e = absurd l
  hit_of v x n (some p) l d e = subst (λ (z : ℕ). π z ≡ some (node_at v z).contrarian) l (e.1 ∙ ap some (sym d))

  marks_hit : (x : ℕ) (ps : List (Option Pair)) → Each (Exact π (length t)) ps → Some (Later x) ps → π x ≡ some (node_at (mark_all t ps) x).contrarian
  marks_hit x ps e s =
      let v = mark_all t ps in
      (some_pick ps (some_each {R = λ o. π x ≡ some (node_at v x).contrarian} (λ o l (k : Done v o × Exact π (length t) o). hit_of v x (length t) o l k.0 k.1) ps s
      (each_both {R = λ o. Done v o × Exact π (length t) o} (λ o d k. (d, k)) ps (done_all π ps t e) e))).1

  -- lists that mark the same nodes leave the same tree
  same_marks : (ps qs : List (Option Pair)) → Each (Exact π (length t)) ps → Each (Exact π (length t)) qs →
      ((x : ℕ) → Some (Later x) ps → Some (Later x) qs) → ((x : ℕ) → Some (Later x) qs → Some (Later x) ps) → mark_all t ps ≡ mark_all t qs
  same_marks ps qs e k f g = ext_get_or blank (mark_all t ps) (mark_all t qs) (length_marks ps t ∙ sym (length_marks qs t)) (λ x b. at x (some_or (Later x) (later_or x) ps))
    where
      miss : (x : ℕ) → Each (λ o. Later x o → ⊥) ps → Some (Later x) qs ⊎ Each (λ o. Later x o → ⊥) qs → node_at (mark_all t ps) x ≡ node_at (mark_all t qs) x
      miss x n (inl s) = absurd (some_pick ps (some_each {R = λ o. ⊥} (λ o l (m : Later x o → ⊥). m l) ps (g x s) n)).1
      miss x n (inr m) = marks_miss x ps t n ∙ sym (marks_miss x qs t m)

      at : (x : ℕ) → Some (Later x) ps ⊎ Each (λ o. Later x o → ⊥) ps → node_at (mark_all t ps) x ≡ node_at (mark_all t qs) x
      at x (inl s) =
          node_as (node_at (mark_all t ps) x) (node_at (mark_all t qs) x) (some_inj _ _ (sym (marks_hit x ps e s) ∙ marks_hit x qs k (f x s)))
          (mark_keeps (marked_against nobody) (λ j n. refl) ps t x ∙ sym (mark_keeps (marked_against nobody) (λ j n. refl) qs t x))
      at x (inr n) = miss x n (some_or (Later x) (later_or x) qs)

bare_at_lem : (t : List Node) (x : ℕ) → bare_at t x ≡ true → Bare (spots t) x
bare_at_lem t x e = (and_left (placed (node_at t x).place) _ e, and_right (placed (node_at t x).place) _ e)

module _ (rs : List Rec) (t : List Node) (r : Treed t) where
  at_exact : (x : ℕ) → Exact (partner rs t) (length t) (pair_at rs t x)
  at_exact x = go (bare_at t x) refl
    where
      go : (b : Bool) → bare_at t x ≡ b → Exact (partner rs t) (length t) (cond b (pair_of rs t x) none)
      go true e = pair_exact rs t r x (bare_at_lem t x e).0
      go false e = tt

  module _ (old : ℕ) where
    abbrev n : ℕ
    n = length t - old

    listed_new : (x : ℕ) → Some (Later x) (pairs rs t (filter (leb old) (leaves t))) → Some (Later x) (new_pairs rs t old n)
    unfolding pairs pair_of
    listed_new x s =
        let ls = filter (leb old) (leaves t) in
        let k = some_pick ls (some_each {R = λ l. Later x (pair_of rs t l) × (Bare (spots t) l × (leb old l ≡ true))} (λ l a b. (a, b)) ls (some_from_map (Later x) (pair_of rs t) ls s)
        (each_filter (Bare (spots t)) (leb old) (leaves t) (leaves_bare t r))) in
        let l = k.0 in
        let b = k.1.1.0 in
        let e : pair_at rs t l ≡ pair_of rs t l = rw (and_both (placed (node_at t l).place) _ b.0 b.1) in
        let low = leb-true old l k.1.1.1 in
        let high = in_range t l b.0 in
        some_of_map (Later x) (pair_at rs t) (up_from n old)
        (some_each {R = λ z. Later x (pair_at rs t z)} (λ z (q : z ≡ l) (u : Unit {0}). rw (q, e) k.1.0) (up_from n old) (among_from n old l low (omega arith)) (each_any (λ z. Unit {0}) (λ z. tt) (up_from n old)))

    new_listed : (x : ℕ) → Some (Later x) (new_pairs rs t old n) → Some (Later x) (pairs rs t (filter (leb old) (leaves t)))
    unfolding pairs pair_of
    new_listed x s =
        let k = some_pick (up_from n old) (some_each {R = λ z. Later x (pair_at rs t z) × (old ≤ z)} (λ z a (b : (old ≤ z) × (z < old + n)). (a, b.0)) (up_from n old)
        (some_from_map (Later x) (pair_at rs t) (up_from n old) s) (up_from_each n old)) in
        go k.0 (bare_at t k.0) refl k.1.0 k.1.1
      where
        go : (z : ℕ) (b : Bool) → bare_at t z ≡ b → Later x (cond b (pair_of rs t z) none) → old ≤ z → Some (Later x) (map (pair_of rs t) (filter (leb old) (leaves t)))
        go z false e l h = absurd l
        go z true e l h =
            let ls = filter (leb old) (leaves t) in
            some_of_map (Later x) (pair_of rs t) ls
            (some_each {R = λ w. Later x (pair_of rs t w)} (λ w (q : w ≡ z) (u : Unit {0}). rw q l) ls (among_filter (leb old) z (leaves t) (le-leb old z h) (leaf_listed t r z (bare_at_lem t z e)))
            (each_any (λ w. Unit {0}) (λ w. tt) ls))

    -- the pairs of the new leaves, by identifier, mark what those of the listed ones do
    new_marks : mark_all t (pairs rs t (filter (leb old) (leaves t))) ≡ mark_all t (new_pairs rs t old n)
    unfolding pairs pair_of
    new_marks =
        let ls = filter (leb old) (leaves t) in
        same_marks (partner rs t) t (pairs rs t ls) (new_pairs rs t old n)
        (each_of_map (Exact (partner rs t) (length t)) (pair_of rs t) ls
        (each_map (λ l (b : Bare (spots t) l × (leb old l ≡ true)). pair_exact rs t r l b.0.0) ls (each_filter (Bare (spots t)) (leb old) (leaves t) (leaves_bare t r))))
        (each_of_map (Exact (partner rs t) (length t)) (pair_at rs t) (up_from n old) (each_any (λ z. Exact (partner rs t) (length t) (pair_at rs t z)) at_exact (up_from n old)))
        listed_new new_listed

-- ---- whether every path has a pair
all_true : {A : Type 0} (p : A → Bool) → ((x : A) → p x ≡ true) → (xs : List A) → all p xs ≡ true
all_true p h [] = refl
all_true p h (x ∷ xs) = and_both (p x) (all p xs) (h x) (all_true p h xs)

module _ (rs : List Rec) (t : List Node) (r : Treed t) where
  -- a leaf without a pair stands against it
  pub open_new : (n old : ℕ) → all (closed_at rs t) (up_from n old) ≡ false → all is_pair (pairs rs t (leaves t)) ≡ false
  unfolding pairs pair_of
  open_new n old e =
      not_true_false (all is_pair (map (pair_of rs t) (leaves t))) (λ h. true_false (sym (all_true (closed_at rs t)
      (λ z. go z (leaf_each t r (λ l. is_pair (pair_of rs t l) ≡ true) (each_from (λ o. is_pair o ≡ true) (pair_of rs t) (leaves t) (all_each is_pair (map (pair_of rs t) (leaves t)) h)) z)) (up_from n old)) ∙ e))
    where
      go : (z : ℕ) → (Bare (spots t) z → is_pair (pair_of rs t z) ≡ true) → closed_at rs t z ≡ true
      go z f = ⊎_elim (λ (b : bare_at t z ≡ true). or_true (not (bare_at t z)) (f (bare_at_lem t z b))) (λ (b : bare_at t z ≡ false). rw b) (either (bare_at t z))

root_on : (t : List Node) (r : Treed t) (x : ℕ) → In (spots t) x → elem 0 (path t x) ≡ true
root_on t r = climbing t r (λ x. elem 0 (path t x) ≡ true) (rw (path_root t r)) (λ x i j up. rw (path_below t r x i) (or_true (eqb 0 x) up))

empty_filter : (p q : ℕ → Bool) (xs : List ℕ) → Each (λ x. p x ≡ not (q x)) xs → empty (filter p xs) ≡ all q xs
empty_filter p q [] h = refl
empty_filter p q (x ∷ xs) h = ⊎_elim (λ (e : q x ≡ true). rw (h.0, e) (empty_filter p q xs h.1)) (λ (e : q x ≡ false). rw (h.0, e)) (either (q x))

-- no path is open
none_open : (t : List Node) → Treed t → empty (filter (takes t 0) (leaves t)) ≡ all (closed t) (leaves t)
unfolding takes
none_open t r =
    empty_filter (takes t 0) (closed t) (leaves t)
    (each_map {Q = λ l. takes t 0 l ≡ not (closed t l)} (λ l (b : Bare (spots t) l). rw (root_on t r l b.0)) (leaves t) (leaves_bare t r))

-- of a tree without marks, all is new
pub since_all : (rs : List Rec) (t : List Node) → Treed t → ((x : ℕ) → (node_at t x).contrarian ≡ nobody) → CheckedAt rs t 0
since_all rs t r h =
    record {
      over = record { treed = r; above = λ z i l. inl (omega arith) };
      right = λ x i. inl (h x);
      new = ap (λ (ls : List ℕ). mark_all t (pairs rs t ls)) (sym (filter_all (leaves t)));
      still = λ l. absurd (omega (arith, in_range t 0 (root_in (spots t) r), l));
    }

-- marks change none of this
module _ (rs : List Rec) (t : List Node) (old : ℕ) (ps : List (Option Pair)) where
  abbrev v : List Node
  v = mark_all t ps

  stands : spots v ≡ spots t
  stands = fun_ext (mark_keeps spot (λ j n. refl) ps t)

  pub above_marked : NoPairAbove rs t old → NoPairAbove rs v old
  above_marked a =
      record {
        treed = subst Tree (sym stands) a.treed;
        above = λ z i l. rw (ap (λ (g : ℕ → Spot). (g z).parent) stands, (marks_same rs t ps (node_at t z).parent).same_pair) (a.above z (subst (λ (g : ℕ → Spot). In g z) stands i) l);
      }

  bare_marked : (x : ℕ) → bare_at v x ≡ bare_at t x
  bare_marked x = ap (λ (g : ℕ → Spot). placed (g x).place && is_leaf (g x).children) stands

  pub pair_at_marked : (x : ℕ) → pair_at rs v x ≡ pair_at rs t x
  pair_at_marked x = rw (bare_marked x, (marks_same rs t ps x).same_pair)

  pub closed_at_marked : (x : ℕ) → closed_at rs v x ≡ closed_at rs t x
  closed_at_marked x = rw (bare_marked x, (marks_same rs t ps x).same_pair)

-- so the marks are those of the new leaves
pub since_marks : (rs : List Rec) (t : List Node) (old : ℕ) → CheckedAt rs t old → mark_all t (new_pairs rs t old (length t - old)) ≡ mark_all t (pairs rs t (leaves t))
since_marks rs t old s = sym (s.new ∙ new_marks rs t s.over.treed old)

-- and "every path has a pair" is that no path is open after them
pub since_open : (rs : List Rec) (t : List Node) (old : ℕ) → CheckedAt rs t old → length t ≤ nobody →
    let u = mark_all t (pairs rs t (leaves t)) in empty (filter (takes u 0) (leaves u)) ≡ all is_pair (pairs rs t (leaves t))
since_open rs t old s few =
    let found = pairs rs t (leaves t) in
    none_open (mark_all t found) ((marks_keep found t).treed s.over.treed (omega (arith, few, length_marks found t))) ∙ sym (all_closed rs t s.over.treed few s.right)

-- ---- the tree of a step before its check
module _ (F : Setting) (k : ℕ) (s : State) (p : Popped) (h : Fit F k s) (e : stops F s ≡ false) (few : length (appended F s p).nodes ≤ nobody) where
  abbrev t : List Node
  t = s.nodes

  abbrev u : List Node
  u = (appended F s p).nodes

  module _ (c : Checked s.formulas t) where
    -- an old leaf's pair is marked already
    old_done : (l : ℕ) → Bare (spots u) l → l < length t → Done u (pair_of (appended F s p).formulas u l)
    old_done l b q =
        let i = old_in F k s p h e few l b.0 q in
        rw (appended_same F k s h e l i p).same_pair (go (pair_of s.formulas t l) refl (c.whole l (i, bare_before t u (ready F k s h e).treed (appended_grown F s p) (appended_hung F k s p h e few).0 l i b.1)))
      where
        go : (o : Option Pair) → pair_of s.formulas t l ≡ o → Done t o → Done u o
        go none d m = tt
        go (some a) d m =
            let there = (pair_partner s.formulas t (ready F k s h e).treed l (old_in F k s p h e few l b.0 q) a d).there in
            ap (λ (n : Stem). n.contrarian) ((appended_grown F s p).stems a.later (in_range t a.later there)) ∙ m

    -- the check of a step marks the pairs of the new leaves
    marks_new : mark_all u (pairs (appended F s p).formulas u (leaves u)) ≡ mark_all u (pairs (appended F s p).formulas u (filter (leb (length t)) (leaves u)))
    unfolding pairs pair_of
    marks_new =
        let rs = (appended F s p).formulas in
        let r' = (appended_hung F k s p h e few).0 in
        done_skip (partner rs u) (pair_of rs u) (leb (length t)) (leaves u) u (leaves_exact rs u r')
        (each_map {Q = λ l. leb (length t) l ≡ false → Done u (pair_of rs u l)} (λ l (b : Bare (spots u) l) q. old_done l b (leb-false (length t) l q)) (leaves u) (leaves_bare u r'))

    -- and these pairs end at new nodes: the parent of a new node is new, or has no pair
    new_pair : (z : ℕ) → In (spots u) z → length t ≤ z → (length t ≤ (node_at u z).parent) ⊎ (pair_of (appended F s p).formulas u (node_at u z).parent ≡ none)
    new_pair z i l =
        ⊎_elim (λ q. inl q) (λ o.
        inr ((appended_same F k s h e (node_at u z).parent o.bare.0 p).same_pair ∙ open_none s.formulas t (ready F k s h e).treed (omega (arith, few, (appended_grown F s p).longer)) c (node_at u z).parent o)) ((appended_hung F k s p h e few).1.below z i l)

  -- where nothing is new, no leaf got a child
  bare_after : length u ≤ length t → (l : ℕ) → Bare (spots t) l → Bare (spots u) l
  bare_after short l b =
      let r = (ready F k s h e).treed in
      let r' = (appended_hung F k s p h e few).0 in
      let g = appended_grown F s p in (
        grown_in t u r g l b.0,
        leaf_by (node_at u l).children
            (λ at.
            let c = child_at at (node_at u l).children in
            ⊎_elim (λ q. q)
            (λ (ne : c ≢ nobody).
            let d = r'.below l at ne in
            let low : c < length t = omega (arith, in_range u c d.there, short) in
            let i = old_in F k s p h e few c d.there low in
            let stem = g.stems c low in
            let up : (node_at t c).parent ≡ l = sym (ap (λ (n : Stem). n.parent) stem) ∙ d.parent in
            let place : (node_at t c).place ≡ at = sym (ap (λ (n : Stem). n.place) stem) ∙ d.place in
            let a = (r.above c i (λ q. in_out (spots t) l nobody b.0 r.nobody_out (sym up ∙ ap (λ (z : ℕ). (node_at t z).parent) q ∙ r.orphan))).child in
            sym a ∙ rw (up, place) (bare_room at (node_at t l).children b.1)) (alike c nobody)),
      )

  pub since_step : MarksRight s → CheckedAt (appended F s p).formulas u (length t)
  unfolding pairs pair_of
  since_step w =
      record {
        over = record { treed = (appended_hung F k s p h e few).0; above = new_pair w.checked };
        right = appended_right F k s p h e few w.checked.right;
        new = marks_new w.checked;
        still = still;
      }
    where
      still : length u ≤ length t → all is_pair (pairs (appended F s p).formulas u (leaves u)) ≡ false
      still short =
          let rs = (appended F s p).formulas in
          let r = (ready F k s h e).treed in
          let r' = (appended_hung F k s p h e few).0 in
          not_true_false (all is_pair (map (pair_of rs u) (leaves u))) (λ q.
          let each = leaf_each u r' (λ l. is_pair (pair_of rs u l) ≡ true) (each_from (λ o. is_pair o ≡ true) (pair_of rs u) (leaves u) (all_each is_pair (map (pair_of rs u) (leaves u)) q)) in
          true_false (sym (each_all is_pair (map (pair_of s.formulas t) (leaves t)) (each_of_map (λ o. is_pair o ≡ true) (pair_of s.formulas t) (leaves t)
          (each_map {Q = λ l. is_pair (pair_of s.formulas t l) ≡ true} (λ l (b : Bare (spots t) l). ap is_pair (sym (appended_same F k s h e l b.0 p).same_pair) ∙ each l (bare_after short l b)) (leaves t) (leaves_bare t r))))
          ∙ sym w.told ∙ (not_stopped F s e).0.unproved))
