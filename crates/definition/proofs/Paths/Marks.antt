-- After a check, a path has a contradictory node just where it has a pair: at every state of a run that checks.
use mathlib.Core.Path.{◌≡◌, refl, sym, ap, ◌∙◌, subst, fun_ext}
use mathlib.Core.Bool.{Bool, true, false, not}
use mathlib.Core.List.{List, ◌∷◌, ◌++◌, map, reverse, append-nil, []}
use mathlib.Core.Option
use mathlib.Core.Option.{Option, none, some}
use mathlib.Core.Logic.{◌⊎◌, inl, inr, ⊎_elim, ◌≢◌}
use Prim.Native.Nat.{ℕ, zero, suc, ◌<◌, ◌≤◌}
use native.Mathlib.Omega.{arith}
use lib.Dec.{ltb}
use borrow.Author.Tests.{ne_eqb, ltb-true, ltb-false}
use lib.ListN.{length, drop}
use Rattle.definition.specs.Lists.{Each, any, all, or_else, empty}
use Rattle.definition.specs.Records.{nobody, is_nobody, Rec, marks}
use Rattle.definition.specs.Setting.{Setting}
use Rattle.definition.specs.Tree.{Node, Place, Root, Left, Middle, Right, Unplaced, Children, node_at, marked_against, is_leaf, is_contradictory, only, leaves_below, leaves, path, child_at}
use Rattle.definition.specs.Contradiction.{are_nodes_contradictory, Pair, pair, is_pair, mark, mark_all, pairs}
use Rattle.definition.specs.Queue.{Popped}
use Rattle.definition.specs.Run.{State, apply, checked_for_contradictions, check_for_contradictions, appended, step, stops, begun, start}
use Rattle.definition.proofs.Basics.Lists.{true_false, either, alike, Some, some_append_left, some_append_right, some_each, some_pick, each_map, each_both, each_of_map, each_reverse, find_each, among_some, some_any, any_none}
use Rattle.definition.proofs.Tree.Nodes.{change_other, change_same, mark_keeps, length_marks}
use Rattle.definition.specs.TreeShape.{Spot, spot, spots, placed, In, Treed, Bare}
use Rattle.definition.proofs.Tree.Shape.{in_range, in_out, leaves_bare, leaves_more, path_distinct}
use Rattle.definition.proofs.Tree.Linking.{bare_room}
use Rattle.definition.proofs.Run.TreeKept.{appended_keeps, begun_treed}
use Rattle.definition.proofs.Call.Fields.{begun_unmarked}
use Rattle.definition.proofs.Run.Stepping.{not_stopped, checked_is, checked_length, step_either}
use Rattle.definition.proofs.Call.Room.{Fit, ready}
use Rattle.definition.specs.Shortcuts.{earlier, partner, pair_of, RightMarks}
use Rattle.definition.proofs.Paths.Pairs.{climbing, path_below, path_root, path_there, pair_below, pair_root, each_tail, marks_same, Stem, Grown, appended_grown, appended_same}
use Rattle.definition.proofs.Paths.Takers.{closed, OpenLeaf, Hung, between_hung}

-- every leaf is listed
module _ (t : List Node) (r : Treed t) where
  listed_at : (k l x : ℕ) (c : Children) (p : Place) → x ≢ nobody → child_at p c ≡ x → Some (λ z. z ≡ l) (leaves_below k t x) →
      Some (λ z. z ≡ l) (leaves_below k t c.left ++ (leaves_below k t c.middle ++ leaves_below k t c.right))
  unfolding child_at
  listed_at k l x c Root ne e h = absurd (ne (sym e))
  listed_at k l x c Unplaced ne e h = absurd (ne (sym e))
  listed_at k l x c Left ne e h = some_append_left _ (leaves_below k t c.left) _ (rw e h)
  listed_at k l x c Middle ne e h = some_append_right _ (leaves_below k t c.left) _ (some_append_left _ (leaves_below k t c.middle) _ (rw e h))
  listed_at k l x c Right ne e h = some_append_right _ (leaves_below k t c.left) _ (some_append_right _ (leaves_below k t c.middle) _ (rw e h))

  listed_up : (k l x : ℕ) → In (spots t) x → x ≢ 0 → Some (λ z. z ≡ l) (leaves_below k t x) → Some (λ z. z ≡ l) (leaves_below (suc k) t (node_at t x).parent)
  unfolding leaves_below
  listed_up k l x i e h =
      let c = (node_at t (node_at t x).parent).children in
      let ne = in_out (spots t) x nobody i r.nobody_out in
      let a = (r.above x i e).child in
      ⊎_elim (λ (q : is_leaf c ≡ true). absurd (ne (sym a ∙ bare_room (node_at t x).place c q))) (λ (q : is_leaf c ≡ false). rw q (listed_at k l x c (node_at t x).place ne a h)) (either (is_leaf c))

  pub leaf_listed : (l : ℕ) → Bare (spots t) l → Some (λ z. z ≡ l) (leaves t)
  unfolding leaves_below only
  leaf_listed l b =
      let n = length t in
      let k = climbing t r (λ x. (k : ℕ) → n ≤ k → Some (λ z. z ≡ l) (leaves_below k t x) → (m : ℕ) × (n ≤ m) × Some (λ z. z ≡ l) (leaves_below m t 0)) (λ k q h. (k, q, h))
      (λ x i j up k q h. ⊎_elim (λ (e : x ≡ 0). (k, q, rw e at h)) (λ (e : x ≢ 0). up (suc k) (omega arith) (listed_up k l x i e h)) (alike x 0)) l b.0 (suc n) (omega arith)
      (rw (b.1, ne_eqb l nobody (in_out (spots t) l nobody b.0 r.nobody_out)) (inl refl)) in
      rw (leaves_more t r k.0 k.1) at k.2

  -- what holds of the listed leaves holds of every leaf
  pub leaf_each : (P : ℕ → Type 0) → Each P (leaves t) → (l : ℕ) → Bare (spots t) l → P l
  leaf_each P h l b = let k = some_pick (leaves t) (some_each {R = λ z. (z ≡ l) × P z} (λ z e p. (e, p)) (leaves t) (leaf_listed l b) h) in subst P k.1.0 k.1.1

else_some : (x : ℕ) (o : Option ℕ) (rest : Option Pair) (p : Pair) → or_else (Option.map (pair x) o) rest ≡ some p → ((p.later ≡ x) × (o ≡ some p.earlier)) ⊎ (rest ≡ some p)
else_some x none rest p e = inr e
else_some x (some y) rest p e = let d : pair x y ≡ p = cc in inl (sym (ap (λ (q : Pair). q.later) d), ap (λ (q : Pair). some q.earlier) d)

pub else_none : (x : ℕ) (o : Option ℕ) (rest : Option Pair) → or_else (Option.map (pair x) o) rest ≡ none → (o ≡ none) × (rest ≡ none)
else_none x none rest e = (refl, e)
else_none x (some y) rest e = let z : ◌≡◌ {A = ℕ} 0 1 = cc in absurd (omega arith)

-- the pair of x: its later node is on the path, and has the earlier one for a partner
pub record Paired (rs : List Rec) (t : List Node) (x : ℕ) (p : Pair) : Type 0 where
  pub there : In (spots t) p.later
  pub by : partner rs t p.later ≡ some p.earlier
  pub on : Some (λ z. z ≡ p.later) (path t x)

module _ (rs : List Rec) (t : List Node) (r : Treed t) where
  pub pair_partner : (x : ℕ) → In (spots t) x → (p : Pair) → pair_of rs t x ≡ some p → Paired rs t x p
  pair_partner =
      climbing t r (λ x. (p : Pair) → pair_of rs t x ≡ some p → Paired rs t x p) (λ p e. let z : ◌≡◌ {A = ℕ} 0 1 = cc (pair_root t r rs).1 in absurd (omega arith))
      (λ x i j up p e.
      ⊎_elim
      (λ (d : (p.later ≡ x) × (partner rs t x ≡ some p.earlier)). record { there = rw d.0 i; by = rw d.0 d.1; on = rw (path_below t r x i) (inl (sym d.0)) })
      (λ d. let k = up p d in record { there = k.there; by = k.by; on = rw (path_below t r x i) (inr k.on) })
      (else_some x (partner rs t x) _ p (sym (pair_below t r rs x i) ∙ e)))

  -- where there is no pair, no node of the path has a partner
  pub no_partner : (x : ℕ) → In (spots t) x → pair_of rs t x ≡ none → Each (λ z. partner rs t z ≡ none) (path t x)
  no_partner =
      climbing t r (λ x. pair_of rs t x ≡ none → Each (λ z. partner rs t z ≡ none) (path t x)) (λ e. rw (path_root t r) ((pair_root t r rs).0, tt))
      (λ x i j up e. let d = else_none x (partner rs t x) _ (sym (pair_below t r rs x i) ∙ e) in rw (path_below t r x i) (d.0, up d.1))

  partner_known : (x y : ℕ) → In (spots t) x → partner rs t x ≡ some y → y < length t
  unfolding partner earlier
  partner_known x y i e =
      find_each (λ z. z < length t) (are_nodes_contradictory rs t x) (reverse (drop 1 (path t x)))
      (each_reverse (λ z. z < length t) (drop 1 (path t x)) (each_tail (λ z. z < length t) (path t x) (path_distinct t r x i).1)) y e

-- the pair, if there is one, is marked
abbrev pub Done : List Node → Option Pair → Type 0
Done t none = Unit {0}
Done t (some p) = (node_at t p.later).contrarian ≡ p.earlier

-- the tree after a check: each mark is against the partner, and the pair of each leaf is marked
pub record Checked (rs : List Rec) (t : List Node) : Type 0 where
  pub right : RightMarks rs t
  pub whole : (l : ℕ) → Bare (spots t) l → Done t (pair_of rs t l)

module _ (rs : List Rec) (t : List Node) (r : Treed t) (few : length t ≤ nobody) (c : Checked rs t) where
  -- a leaf's path has a contradictory node just if it has a pair
  pub closed_pair : (l : ℕ) → Bare (spots t) l → closed t l ≡ is_pair (pair_of rs t l)
  unfolding is_pair is_contradictory
  closed_pair l b = go (pair_of rs t l) refl (c.whole l b)
    where
      marked : ℕ → Bool
      marked x = not (is_nobody (node_at t x).contrarian)

      alone : (x : ℕ) → In (spots t) x → partner rs t x ≡ none → marked x ≡ false
      alone x i e = ⊎_elim (λ q. rw q) (λ q. let z : ◌≡◌ {A = ℕ} 0 1 = cc in absurd (omega arith)) (c.right x i)

      go : (o : Option Pair) → pair_of rs t l ≡ o → Done t o → any marked (path t l) ≡ is_pair o
      go none e d = any_none marked (path t l) (each_both alone (path t l) (path_there t r l b.0) (no_partner rs t r l b.0 e))
      go (some p) e d =
          let k = pair_partner rs t r l b.0 p e in
          some_any marked (path t l) (among_some (λ x. marked x ≡ true) p.later (path t l) k.on (rw (d, ne_eqb p.earlier nobody (λ q. omega (arith, few, q, partner_known rs t r p.later p.earlier k.there k.by)))))

  -- so a leaf that takes a subtree has no pair
  pub open_none : (l : ℕ) → OpenLeaf t l → pair_of rs t l ≡ none
  unfolding is_pair
  open_none l o = go (pair_of rs t l) (sym (closed_pair l o.bare) ∙ o.unmarked)
    where
      go : (q : Option Pair) → is_pair q ≡ false → q ≡ none
      go none e = refl
      go (some p) e = true_false e

pub each_from : {A B : Type 0} (P : B → Type 0) (f : A → B) (xs : List A) → Each P (map f xs) → Each (λ x. P (f x)) xs
each_from P f [] h = tt
each_from P f (x ∷ xs) h = (h.0, each_from P f xs h.1)

-- marks against partners: π names the partner of a node
module _ (π : ℕ → Option ℕ) where
  abbrev pub Exact : ℕ → Option Pair → Type 0
  Exact n none = Unit {0}
  Exact n (some p) = (p.later < n) × (π p.later ≡ some p.earlier)

  -- a mark takes no other mark away
  pub done_one : (u : List Node) (o q : Option Pair) → Exact (length u) o → Exact (length u) q → Done u q → Done (mark u o) q
  unfolding mark
  done_one u none q a b d = d
  done_one u (some p) none a b d = tt
  done_one u (some p) (some q) a b d =
      ⊎_elim (λ (e : q.later ≡ p.later).
      let same : p.earlier ≡ q.earlier = cc (ap π e) in
      rw (e, change_same u p.later (marked_against p.earlier) a.0) same)
      (λ (e : q.later ≢ p.later). rw (change_other u p.later q.later (marked_against p.earlier) e) d) (alike q.later p.later)

  done_self : (u : List Node) (o : Option Pair) → Exact (length u) o → Done (mark u o) o
  unfolding mark
  done_self u none a = tt
  done_self u (some p) a = rw (change_same u p.later (marked_against p.earlier) a.0)

  pub exact_mark : (u : List Node) (o q : Option Pair) → Exact (length u) q → Exact (length (mark u o)) q
  unfolding mark_all
  exact_mark u o q = subst (λ (n : ℕ). Exact n q) (sym (length_marks (o ∷ []) u))

  done_more : (ps : List (Option Pair)) (u : List Node) (q : Option Pair) → Each (Exact (length u)) ps → Exact (length u) q → Done u q → Done (mark_all u ps) q
  unfolding mark_all
  done_more [] u q h b d = d
  done_more (o ∷ ps) u q h b d = done_more ps (mark u o) q (each_map (exact_mark u o) ps h.1) (exact_mark u o q b) (done_one u o q h.0 b d)

  pub done_all : (ps : List (Option Pair)) (u : List Node) → Each (Exact (length u)) ps → Each (Done (mark_all u ps)) ps
  unfolding mark_all
  done_all [] u h = tt
  done_all (o ∷ ps) u h =
      let k = each_map (exact_mark u o) ps h.1 in
      (done_more ps (mark u o) o k (exact_mark u o o h.0) (done_self u o h.0), done_all ps (mark u o) k)

  abbrev Against : List Node → ℕ → Type 0
  Against u x = ((node_at u x).contrarian ≡ nobody) ⊎ (π x ≡ some (node_at u x).contrarian)

  right_one : (u : List Node) (o : Option Pair) (x : ℕ) → Exact (length u) o → Against u x → Against (mark u o) x
  unfolding mark
  right_one u none x a h = h
  right_one u (some p) x a h =
      ⊎_elim (λ (e : x ≡ p.later). rw (e, change_same u p.later (marked_against p.earlier) a.0) (inr a.1))
      (λ (e : x ≢ p.later). rw (change_other u p.later x (marked_against p.earlier) e) h) (alike x p.later)

  right_all : (ps : List (Option Pair)) (u : List Node) (x : ℕ) → Each (Exact (length u)) ps → Against u x → Against (mark_all u ps) x
  unfolding mark_all
  right_all [] u x a h = h
  right_all (o ∷ ps) u x a h = right_all ps (mark u o) x (each_map (exact_mark u o) ps a.1) (right_one u o x a.0 h)

module _ (rs : List Rec) (t : List Node) (r : Treed t) where
  -- the pairs of the leaves are pairs of partners
  pub pair_exact : (l : ℕ) → In (spots t) l → Exact (partner rs t) (length t) (pair_of rs t l)
  pair_exact l i = go (pair_of rs t l) refl
    where
      go : (o : Option Pair) → pair_of rs t l ≡ o → Exact (partner rs t) (length t) o
      go none e = tt
      go (some p) e = let k = pair_partner rs t r l i p e in (in_range t p.later k.there, k.by)

  pub leaves_exact : Each (λ l. Exact (partner rs t) (length t) (pair_of rs t l)) (leaves t)
  leaves_exact = each_map (λ l (b : Bare (spots t) l). pair_exact l b.0) (leaves t) (leaves_bare t r)

  -- marking the pairs of the leaves makes the tree so
  pub marks_checked : RightMarks rs t → Checked rs (mark_all t (pairs rs t (leaves t)))
  unfolding pairs pair_of
  marks_checked h =
      let found = pairs rs t (leaves t) in
      let u = mark_all t found in
      let exact = each_of_map (Exact (partner rs t) (length t)) (pair_of rs t) (leaves t) leaves_exact in
      let stands : spots u ≡ spots t = fun_ext (mark_keeps spot (λ j n. refl) found t) in
      record {
        right = λ x i.
            rw (marks_same rs t found x).same_partner (right_all (partner rs t) found t x exact (h x (subst (λ (g : ℕ → Spot). In g x) stands i)));
        whole = λ l b.
            rw (marks_same rs t found l).same_pair (leaf_each t r (λ m. Done u (pair_of rs t m)) (each_from (Done u) (pair_of rs t) (leaves t) (done_all (partner rs t) found t exact)) l (subst (λ (g : ℕ → Spot). Bare g l) stands b));
      }

leaves_like : (t t' : List Node) → ((x : ℕ) → (node_at t' x).children ≡ (node_at t x).children) → (k x : ℕ) → leaves_below k t' x ≡ leaves_below k t x
unfolding leaves_below
leaves_like t t' e zero x = refl
leaves_like t t' e (suc k) x =
    let c = (node_at t x).children in
    rw (e x, leaves_like t t' e k c.left, leaves_like t t' e k c.middle, leaves_like t t' e k c.right)

-- marks change no leaf
pub marks_leaves : (t : List Node) (ps : List (Option Pair)) → leaves (mark_all t ps) ≡ leaves t
unfolding leaves
marks_leaves t ps = rw length_marks (leaves_like t (mark_all t ps) (mark_keeps (λ (n : Node). n.children) (λ j n. refl) ps t) (length t) 0)

-- the tree of a step before its check
module _ (F : Setting) (k : ℕ) (s : State) (p : Popped) (h : Fit F k s) (e : stops F s ≡ false) (few : length (appended F s p).nodes ≤ nobody) where
  abbrev t : List Node
  t = s.nodes

  abbrev u : List Node
  u = (appended F s p).nodes

  r : Treed t
  r = (ready F k s h e).treed

  g : Grown t u
  g = appended_grown F s p

  pub appended_hung : Treed u × Hung t u
  unfolding appended
  appended_hung =
      let rs = (apply F s p.node).subtrees in
      ((appended_keeps F s p).treed r few, between_hung F s p.node p.others rs [] (sym (append-nil rs)) r few)

  pub old_in : (x : ℕ) → In (spots u) x → x < length t → In (spots t) x
  old_in x i l = sym (ap (λ (n : Stem). placed n.place) (g.stems x l)) ∙ i

  pub appended_right : RightMarks s.formulas t → RightMarks (appended F s p).formulas u
  appended_right m x i =
      ⊎_elim (λ q.
      let l = ltb-true x (length t) q in
      let j = old_in x i l in
      rw (ap (λ (n : Stem). n.contrarian) (g.stems x l), (appended_same F k s h e x j p).same_partner) (m x j))
      (λ q. inl (appended_hung.1.plain x (ltb-false x (length t) q))) (either (ltb x (length t)))

-- ---- the states of a run that checks
pub record MarksRight (s : State) : Type 0 where
  pub checked : Checked s.formulas s.nodes
  pub told : s.proved ≡ all is_pair (pairs s.formulas s.nodes (leaves s.nodes))

abbrev pub RunMarksRight : Setting → State → Type 0
RunMarksRight F s = F.skip ≡ false → length s.nodes ≤ nobody → MarksRight s

pairs_marked : (rs : List Rec) (t : List Node) (ps : List (Option Pair)) → pairs rs (mark_all t ps) (leaves (mark_all t ps)) ≡ pairs rs t (leaves t)
unfolding pairs pair_of
pairs_marked rs t ps =
    rw (marks_leaves t ps) (ap (λ (f : ℕ → Option Pair). map f (leaves t)) (fun_ext (λ x. (marks_same rs t ps x).same_pair)))

check_watched : (F : Setting) (s : State) → F.skip ≡ false → Treed s.nodes → RightMarks s.formulas s.nodes → s.proved ≡ false → MarksRight (check_for_contradictions F s)
unfolding checked_for_contradictions
check_watched F s e r m h =
    subst MarksRight (sym (checked_is F s e))
    (record {
      checked = marks_checked s.formulas s.nodes r m;
      told = rw h (ap (all is_pair) (sym (pairs_marked s.formulas s.nodes (pairs s.formulas s.nodes (leaves s.nodes)))));
    })

pub watch_start : (F : Setting) (rs : List Rec) → empty (marks rs) ≡ false → RunMarksRight F (start F rs)
unfolding start begun
watch_start F rs b e few = check_watched F (begun rs) e (begun_treed rs b (omega (arith, few, checked_length F (begun rs)))) (λ x i. inl (begun_unmarked rs x)) refl

pub watch_step : (F : Setting) (k : ℕ) (s : State) → Fit F k s → stops F s ≡ false → RunMarksRight F s → RunMarksRight F (step F s)
unfolding appended
watch_step F k s h q w =
    step_either F s (RunMarksRight F) w (λ p t e few.
    let m : length (appended F s p).nodes ≤ nobody = omega (arith, few, checked_length F (appended F s p)) in
    let was = w e (omega (arith, (ready F k s h q).nodes)) in
    check_watched F (appended F s p) e (appended_hung F k s p h q m).0 (appended_right F k s p h q m was.checked.right) (not_stopped F s q).0.unproved)
