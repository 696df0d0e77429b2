-- A step of a run that checks: each open leaf after it goes on from one before it, and what the step leaves of its path.
use mathlib.Core.Path.{◌≡◌, refl, sym, ap, ◌∙◌, subst, fun_ext}
use mathlib.Core.Bool.{true, false, not}
use mathlib.Core.List.{List, [], ◌∷◌, ◌++◌}
use mathlib.Core.Option.{Option, none, some}
use mathlib.Core.Logic.{⊎_elim, ◌≢◌}
use Prim.Native.Nat.{ℕ, ◌<◌, ◌≤◌, ◌+◌}
use native.Mathlib.Omega.{arith}
use borrow.Author.Tests.{ne_eqb}
use lib.ListN.{length, length-append}
use Rattle.definition.specs.Lists.{Each, elem}
use Rattle.definition.specs.Records.{Rec, nobody, is_nobody}
use Rattle.definition.specs.Formula.{Form, form_at}
use Rattle.definition.specs.Setting.{Setting}
use Rattle.definition.specs.Graph.{Graph}
use Rattle.definition.specs.Tree.{Node, new_node, node_at, leaves, path, is_contradictory}
use Rattle.definition.specs.Rules.{Rule, nothing, down, split, as_possible, as_necessary, priest, expansion, written_rule}
use Rattle.definition.specs.Subtree.{Targeted, flat}
use Rattle.definition.specs.Modality.{Necessity, Fork, Reapplication, occurs, unvisited, give_on, leaves_of, reapply_necessity, is_reapplied, reapply_if_on_path, reapply_necessity_after_possibility}
use Rattle.definition.specs.Queue.{Popped}
use Rattle.definition.specs.Contradiction.{Pair, pairs}
use Rattle.definition.specs.Run.{State, LogicRuleResult, apply_here, apply_possibility, apply_necessity, apply_rule, apply, appended, checked_for_contradictions, stops}
use Rattle.definition.proofs.Basics.Lists.{true_false, Some, some_append_right, some_each, some_map, some_among, each_among, each_map, each_both, each_append, filter_keeps, cond_both, any_none, elem_high, among_elem, some_cases, Among}
use Rattle.definition.proofs.Tree.Nodes.{Label, label, node_append, mark_keeps, length_marks, ext_refl}
use Rattle.definition.proofs.Basics.Identifiers.{apply_issued}
use Rattle.definition.proofs.Run.Popping.{Taken}
use Rattle.definition.proofs.Basics.Forms.{form_append}
use Rattle.definition.proofs.Soundness.Priest
use Rattle.definition.proofs.Soundness.Priest.{rule_is_priest, rule_known, made_two}
use Rattle.definition.proofs.Call.Bounds.{apply_made}
use Rattle.definition.specs.TreeShape.{Spot, spot, spots, In, Treed, Bare}
use Rattle.definition.proofs.Tree.Shape.{leaves_within, path_distinct}
use Rattle.definition.proofs.Run.TreeKept.{append_spots, append_out, apply_new, new_treed}
use Rattle.definition.proofs.Call.Room.{Fit, ready}
use Rattle.definition.specs.Shortcuts.{partner, pair_of, RightMarks}
use Rattle.definition.proofs.Paths.Pairs.{grown_path, marks_same, Stem, appended_grown, path_there}
use Rattle.definition.proofs.Paths.Takers.{closed, grown_append}
use Rattle.definition.proofs.Paths.Marks.{MarksRight, no_partner, open_none, appended_hung, appended_right, old_in}
use Rattle.definition.proofs.Completeness.On.{Says, On, OpenLeaf, occurs_some, elem_occurs}
use Rattle.definition.proofs.Completeness.Placed.{Shows, Side, open_back, result_grew}

-- where marks are right, a path without a pair has no contradictory node
right_open : (rs : List Rec) (t : List Node) → Treed t → RightMarks rs t → (l : ℕ) → In (spots t) l → pair_of rs t l ≡ none → closed t l ≡ false
unfolding is_contradictory
right_open rs t r m l i e = any_none (λ x. is_contradictory (node_at t x)) (path t l) (each_both alone (path t l) (path_there t r l i) (no_partner rs t r l i e))
  where
    alone : (x : ℕ) → In (spots t) x → partner rs t x ≡ none → not (is_nobody (node_at t x).contrarian) ≡ false
    alone x i e = ⊎_elim (λ q. rw q) (λ q. let z : ◌≡◌ {A = ℕ} 0 1 = cc in absurd (omega arith)) (m x i)

-- ---- targets are nodes of the tree
abbrev Aimed : ℕ → List Targeted → Type 0
Aimed n rs = Each (λ (a : Targeted). a.target < n) rs

give_aimed : (ls : List ℕ) (t : List Node) (k : Option Fork) (n : Necessity) (worlds : List ℕ) (next : ℕ) (b : ℕ) → Each (λ l. l < b) ls → Aimed b (give_on t k n worlds next ls).subtrees
unfolding give_on
give_aimed [] t k n worlds next b h = tt
give_aimed (leaf ∷ ls) t k n worlds next b h = (h.0, give_aimed ls t k n worlds _ b h.1)

module _ (t : List Node) (r : Treed t) where
  reapply_aimed : (g : Graph) (k : Option Fork) (next : ℕ) (n : Necessity) → Aimed (length t) (reapply_necessity t g k next n).subtrees
  unfolding reapply_necessity leaves_of
  reapply_aimed g k next n = give_aimed (leaves_of t n) t k n (unvisited g n) next (length t) (filter_keeps (λ l. l < length t) _ (leaves t) (leaves_within t r))

  after_aimed : (ns : List Necessity) (g : Graph) (k : Fork) (next : ℕ) → Aimed (length t) (reapply_necessity_after_possibility t g k next ns).subtrees
  unfolding reapply_necessity_after_possibility reapply_if_on_path
  after_aimed [] g k next = tt
  after_aimed (n ∷ ns) g k next =
      let one = reapply_if_on_path t g k next n in
      each_append _ one.subtrees _
      (cond_both (λ (m : Reapplication). Aimed (length t) m.subtrees) (is_reapplied t k n) (reapply_necessity t g (some k) next n) (record { nodes = []; subtrees = [] }) (reapply_aimed g (some k) next n) tt)
      (after_aimed ns g k (next + length one.nodes))

rule_aimed : (F : Setting) (s : State) (x : ℕ) (more : List Rec) (c : Rule ℕ) → Treed s.nodes → x < length s.nodes → Aimed (length s.nodes) (apply_rule F s x more c).subtrees
unfolding apply_rule apply_here apply_possibility apply_necessity
rule_aimed F s x more nothing r h = (h, tt)
rule_aimed F s x more (down fs) r h = (h, tt)
rule_aimed F s x more (split fs gs) r h = (h, tt)
rule_aimed F s x more (as_possible f) r h = (h, after_aimed s.nodes r s.necessities _ _ _)
rule_aimed F s x more (as_necessary f) r h = reapply_aimed s.nodes r _ none _ _

apply_aimed : (F : Setting) (s : State) (x : ℕ) → Treed s.nodes → x < length s.nodes → Aimed (length s.nodes) (apply F s x).subtrees
unfolding apply
apply_aimed F s x r h = let e = expansion s.formulas (node_at s.nodes x).formula in rule_aimed F s x e.made e.rule r h

-- ---- the step
-- a state of a run that goes on, its marks right, and the node that is taken
pub record Stepping (F : Setting) (k : ℕ) (s : State) (p : Popped) : Type 0 where
  pub fit : Fit F k s
  pub going : stops F s ≡ false
  pub few : length (appended F s p).nodes ≤ nobody
  pub watched : MarksRight s
  pub known : p.node < length s.nodes
  pub taken : Taken s.waiting p

-- the state after the step
abbrev pub after : Setting → State → Popped → State
after F s p = checked_for_contradictions (appended F s p)

-- what a path xs takes of a result r, and then is ys: a chain of each subtree whose target it holds
abbrev pub Shown : State → LogicRuleResult → List Node → List ℕ → List ℕ → Type 0
Shown s r u ys xs = Each (λ (a : Targeted). elem a.target xs ≡ true → Side (s.nodes ++ r.nodes) a.subtree u ys) r.subtrees

-- and what is new on it is labelled as a node of one of them
abbrev pub Only : State → LogicRuleResult → List Node → List ℕ → ℕ → Type 0
Only s r u xs z =
    (length s.nodes ≤ z) × Some (λ (a : Targeted). (elem a.target xs ≡ true) × Some (λ c. label (node_at u z) ≡ label (node_at (s.nodes ++ r.nodes) c)) (flat a.subtree)) r.subtrees

-- the leaf l, open after the step, goes on from one that was open
pub record Next (F : Setting) (s : State) (p : Popped) (l : ℕ) : Type 0 where
  pub from : ℕ
  pub was : OpenLeaf s from
  pub new : List ℕ
  pub is : path (appended F s p).nodes l ≡ new ++ path s.nodes from
  pub shows : Shown s (apply F s p.node) (appended F s p).nodes (path (appended F s p).nodes l) (path s.nodes from)
  pub only : Each (Only s (apply F s p.node) (appended F s p).nodes (path s.nodes from)) new

module _ {F : Setting} {k : ℕ} {s : State} {p : Popped} (h : Stepping F k s p) where
  abbrev t : List Node
  t = s.nodes

  abbrev u : List Node
  u = (appended F s p).nodes

  abbrev s' : State
  s' = after F s p

  abbrev found : List (Option Pair)
  found = pairs (appended F s p).formulas (appended F s p).nodes (leaves (appended F s p).nodes)

  pub tree : Treed t
  tree = (ready F k s h.fit h.going).treed

  -- ---- formulas
  pub form_next : {f : ℕ} → f < length s.formulas → form_at s'.formulas f ≡ form_at s.formulas f
  unfolding checked_for_contradictions appended
  form_next {f} l = form_append s.formulas (apply F s p.node).formulas f l

  pub known_next : {f : ℕ} → f < length s.formulas → f < length s'.formulas
  unfolding checked_for_contradictions appended
  known_next l = omega (arith, length-append s.formulas (apply F s p.node).formulas)

  abbrev f : ℕ
  f = (node_at t p.node).formula

  formulas_are : s'.formulas ≡ s.formulas ++ (expansion s.formulas f).made
  unfolding checked_for_contradictions appended
  formulas_are = ap (λ (more : List Rec). s.formulas ++ more) (apply_made F s p.node)

  few_formulas : length s'.formulas < nobody
  few_formulas =
      omega (arith, (ready F k s h.fit h.going).formulas, ap length formulas_are, length-append s.formulas (expansion s.formulas f).made, made_two s.formulas f)

  -- the rule of the taken node is Priest's, and its formulas are known
  pub rule_form : f < length s.formulas → is_nobody f ≡ false → written_rule (form_at s'.formulas) (expansion s.formulas f).rule ≡ priest (form_at s.formulas f)
  rule_form l z = ap (λ (all : List Rec). written_rule (form_at all) (expansion s.formulas f).rule) formulas_are ∙ rule_is_priest s.formulas h.fit.bounded.sizes.wf f l z

  pub rule_low : Priest.Known (length s'.formulas) (expansion s.formulas f).rule
  rule_low = subst (λ (all : List Rec). Priest.Known (length all) (expansion s.formulas f).rule) (sym formulas_are) (rule_known s.formulas h.fit.bounded.sizes.wf f)

  -- a node's formula is known, if it has one
  pub named_known : (x : ℕ) → x < length t → is_nobody (node_at t x).formula ≡ false → (node_at t x).formula < length s.formulas
  named_known x i z = ⊎_elim (λ (d : (node_at t x).formula ≡ nobody). true_false (sym (ap is_nobody d) ∙ z)) (λ d. d) (h.fit.bounded.sizes.labels x i).formula

  -- ---- the check changes no label, path or place
  relabel : (z : ℕ) → label (node_at s'.nodes z) ≡ label (node_at u z)
  unfolding checked_for_contradictions
  relabel z = mark_keeps label (λ j n. refl) found u z

  same_spots : spots s'.nodes ≡ spots u
  unfolding checked_for_contradictions
  same_spots = fun_ext (mark_keeps spot (λ j n. refl) found u)

  same_path : (l : ℕ) → path s'.nodes l ≡ path u l
  unfolding checked_for_contradictions
  same_path l = (marks_same (appended F s p).formulas u found l).same_path

  same_pair : (l : ℕ) → pair_of s'.formulas s'.nodes l ≡ pair_of (appended F s p).formulas u l
  unfolding checked_for_contradictions
  same_pair l = (marks_same (appended F s p).formulas u found l).same_pair

  pub after_length : length s'.nodes ≡ length u
  unfolding checked_for_contradictions
  after_length = length_marks found u

  pub old_label : (z : ℕ) → z < length t → label (node_at s'.nodes z) ≡ label (node_at t z)
  old_label z l = relabel z ∙ ap (λ (n : Stem). record { world = n.world; formula = n.formula; spawner = n.spawner }) ((appended_grown F s p).stems z l)

  pub old_inside : (x : ℕ) → In (spots s'.nodes) x → x < length t → In (spots t) x
  old_inside x i l = old_in F k s p h.fit h.going h.few x (subst (λ (g : ℕ → Spot). In g x) same_spots i) l

  pub next : (l : ℕ) → OpenLeaf s' l → Next F s p l
  unfolding appended
  next l o =
      let ns = (apply F s p.node).nodes in
      let rs = (apply F s p.node).subtrees in
      let v = t ++ ns in
      let n = length t in
      let new = apply_new F s p.node in
      let len = length-append t ns in
      let bare : Bare (spots u) l = subst (λ (g : ℕ → Spot). Bare g l) same_spots o.bare in
      let g = result_grew v n rs v p.others n (n + length ns) (new_treed t ns new tree) (ext_refl v) (apply_issued F s p.node) (λ z a c. append_out t ns new z a) (omega arith) (omega arith) h.few
      (apply_aimed F s p.node tree h.known) l bare
      (right_open (appended F s p).formulas u (appended_hung F k s p h.fit h.going h.few).0 (appended_right F k s p h.fit h.going h.few h.watched.checked.right) l bare.0 (sym (same_pair l) ∙ o.unpaired)) in
      let was : Bare (spots t) g.from = subst (λ (q : ℕ → Spot). Bare q g.from) (append_spots t ns new) g.bare in
      let same : path v g.from ≡ path t g.from = grown_path t v tree (grown_append t ns) g.from was.0 in
      record {
        from = g.from;
        was = record {
          bare = was;
          unpaired = open_none s.formulas t tree (omega (arith, (ready F k s h.fit h.going).nodes)) h.watched.checked g.from
              (record { bare = was; unmarked = open_back t v g.from g.from [] tree was.0 (λ z l. ap (λ (n : Node). n.contrarian) (node_append t ns z l)) same g.unmarked });
        };
        new = g.new;
        is = subst (λ (ys : List ℕ). path u l ≡ g.new ++ ys) same g.is;
        shows = subst (Shown s (apply F s p.node) u (path u l)) same g.shows;
        only = subst (λ (xs : List ℕ). Each (Only s (apply F s p.node) u xs) g.new) same g.only;
      }

  -- a node that is shown says its formula at its world
  pub shows_on : (l y g b : ℕ) → g < length s'.formulas → Shows u (path u l) (label (new_node y g b)) →
      On s'.formulas s'.nodes l b (form_at s'.formulas g)
  shows_on l y g b low q =
      subst (Some (λ z. Says s'.formulas b (form_at s'.formulas g) (label (node_at s'.nodes z)))) (sym (same_path l))
      (some_map (λ z (e : label (node_at u z) ≡ label (new_node y g b)). subst (Says s'.formulas b (form_at s'.formulas g)) (sym (relabel z ∙ e)) (record { world = refl; known = low; named = named; form = refl })) (path u l) q)
    where
      named : is_nobody g ≡ false
      named = ne_eqb g nobody (λ e. omega (arith, few_formulas))

  module _ {l : ℕ} (n : Next F s p l) where
    inside : Each (λ z. z < length t) (path t n.from)
    inside = (path_distinct t tree n.from n.was.bare.0).1

    path_is : path s'.nodes l ≡ n.new ++ path t n.from
    path_is = same_path l ∙ n.is

    -- whether an old node is on the path is as it was
    pub old_on : (x : ℕ) → x < length t → elem x (path s'.nodes l) ≡ elem x (path t n.from)
    old_on x i = ap (elem x) path_is ∙ elem_high x n.new (path t n.from) (each_map {Q = λ z. z ≢ x} (λ z (q : Only s (apply F s p.node) u (path t n.from) z) d. omega arith) n.new n.only)

    -- what the path showed stays
    pub on_next : (v : ℕ) (q : Form) → On s.formulas t n.from v q → On s'.formulas s'.nodes l v q
    on_next v q y =
        let Q : Label → Type 0 = Says s'.formulas v q in
        subst (Some (λ z. Q (label (node_at s'.nodes z)))) (sym path_is) (some_append_right _ n.new (path t n.from)
        (some_each {R = λ z. Q (label (node_at s'.nodes z))} (λ z (a : Says s.formulas v q (label (node_at t z))) (b : z < length t).
        subst Q (sym (old_label z b)) (record { world = a.world; known = known_next a.known; named = a.named; form = form_next a.known ∙ a.form })) (path t n.from) y inside))

    -- a world of the path after the step occurred on it before, or comes with what was placed
    pub worlds_next : (r : LogicRuleResult) → apply F s p.node ≡ r → (Q : ℕ → Type 0) → ((v : ℕ) → occurs t none (path t n.from) v ≡ true → Q v) →
        Each (λ (a : Targeted). elem a.target (path t n.from) ≡ true → Each (λ c. Q (node_at (s.nodes ++ r.nodes) c).world) (flat a.subtree)) r.subtrees →
        (v : ℕ) → occurs s'.nodes none (path s'.nodes l) v ≡ true → Q v
    worlds_next r is Q old new v q =
        let z = some_among (path s'.nodes l) (occurs_some s'.nodes (path s'.nodes l) v q) in
        subst Q (sym (ap (λ (a : Label). a.world) (relabel z.0)) ∙ z.2) (⊎_elim (fresh z.0) (kept z.0) (some_cases (λ y. y ≡ z.0) n.new (path t n.from) (subst (Among z.0) path_is z.1)))
      where
        kept : (y : ℕ) → Among y (path t n.from) → Q (node_at u y).world
        kept y a = subst Q (ap (λ (a : Label). a.world) (sym (old_label y (each_among (λ z. z < length t) y (path t n.from) inside a)) ∙ relabel y)) (old (node_at t y).world (elem_occurs t (path t n.from) y (among_elem y (path t n.from) a)))

        fresh : (y : ℕ) → Among y n.new → Q (node_at u y).world
        fresh y a =
            let o = subst (λ (r : LogicRuleResult). Only s r u (path t n.from) y) is (each_among _ y n.new n.only a) in
            let b = some_among r.subtrees o.1 in
            let c = some_among (flat b.0.subtree) b.2.1 in
            subst Q (sym (ap (λ (a : Label). a.world) c.2)) (each_among (λ c. Q (node_at (t ++ r.nodes) c).world) c.0 (flat b.0.subtree) (each_among _ b.0 r.subtrees new b.1 b.2.0) c.1)
