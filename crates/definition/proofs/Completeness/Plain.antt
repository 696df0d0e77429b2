-- A branch without a modal connective: its run makes no world, so that its verdict is in time, and an open path gives an assignment.
use mathlib.Core.Path.{◌≡◌, refl, sym, ap, ap₂, ◌∙◌, subst}
use mathlib.Core.Bool.{Bool, true, false, not, ◌&&◌, ◌||◌, beq}
use mathlib.Core.List.{List, [], ◌++◌}
use mathlib.Core.Logic.{◌↔◌, inl, inr}
use Prim.Native.Nat.{ℕ, ◌<◌, ◌≤◌, ◌+◌}
use native.Mathlib.Omega.{arith}
use borrow.Author.Tests.{ne_eqb}
use lib.ListN.{length, length-append}
use Rattle.definition.specs.Limits.{most_records}
use Rattle.definition.specs.Lists.{Each}
use Rattle.definition.specs.Records.{Rec, nobody, is_nobody, decode, marks}
use Rattle.definition.specs.Checks.{Lengths}
use Rattle.definition.specs.Formula.{Form, atom, non, and, or, imply, bi_imply, strict_imply, possible, necessary, form_at}
use Rattle.definition.specs.Setting.{Setting, setting_of}
use Rattle.definition.specs.Models.{Model, truth}
use Rattle.definition.specs.Graph.{empty_graph}
use Rattle.definition.specs.Tree.{Node, new_node, node_at, leaves}
use Rattle.definition.specs.Rules.{Rule, nothing, down, split, as_possible, as_necessary, priest, priest_non, expansion, written_rule}
use Rattle.definition.specs.Subtree.{flat, turned}
use Rattle.definition.specs.Queue.{Popped}
use Rattle.definition.specs.Contradiction.{pairs}
use Rattle.definition.specs.Run.{State, LogicRuleResult, apply_here, apply, appended, checked_for_contradictions, stops, step, branch_nodes, begun, start, run, final, enough_steps}
use Rattle.definition.specs.Trays.{Trays}
use Rattle.definition.specs.Call.{Verdict, Answer, refusal, verdict, answer_of, answer, lengths_of, late}
use Rattle.definition.specs.Claim.{Proved}
use Rattle.definition.specs.Countermodel.{read_off}
use Rattle.definition.specs.Completeness.{ChecksContradictions}
use Rattle.definition.specs.Propositional.{Plain, PlainBranch, assigned, Satisfies}
use Rattle.definition.proofs.Basics.Lists.{either, each_both, each_append, each_of_map, each_from_map}
use Rattle.definition.proofs.Tree.Nodes.{Label, label}
use Rattle.definition.proofs.Basics.Records.{marks_known}
use Rattle.definition.proofs.Basics.Identifiers.{each_turned, apply_issued}
use Rattle.definition.proofs.Run.Stepping.{checked_both, run_keeps}
use Rattle.definition.proofs.Run.Counting.{known_taken}
use Rattle.definition.proofs.Tree.Labels.{Every, every_append, every_result, every_marks, rooted_every}
use Rattle.definition.proofs.Run.Accepted.{Accepted}
use Rattle.definition.proofs.Basics.Forms.{form_append}
use Rattle.definition.proofs.Soundness.Priest.{rule_is_priest, rule_known, made_two}
use Rattle.definition.proofs.Soundness.Theorem.{demand_3}
use Rattle.definition.proofs.Call.Room.{Fit, fit_start, fit_step, ready}
use Rattle.definition.proofs.Call.Outcomes.{answered}
use Rattle.definition.proofs.Call.Late.{nothing_waits}
use Rattle.definition.proofs.Completeness.Steps.{after}
use Rattle.definition.proofs.Completeness.Here.{Here, chains, known_flat, apply_here_lem}
use Rattle.definition.proofs.Completeness.Run.{due}
use Rattle.definition.proofs.Completeness.Whole.{run_complete}

-- ---- plain formulas
abbrev Plains : Rule Form → Type 0
Plains nothing = Unit {0}
Plains (down ps) = Each Plain ps
Plains (split ps qs) = Each Plain ps × Each Plain qs
Plains (as_possible p) = ⊥
Plains (as_necessary p) = ⊥

plain_non : (p : Form) → Plain p → Plains (priest_non p)
unfolding priest_non
plain_non (atom a) h = tt
plain_non (non p) h = (h, tt)
plain_non (and p q) h = ((h.0, tt), (h.1, tt))
plain_non (or p q) h = (h.0, (h.1, tt))
plain_non (imply p q) h = (h.0, (h.1, tt))
plain_non (bi_imply p q) h = ((h.0, (h.1, tt)), (h.0, (h.1, tt)))
plain_non (strict_imply p q) h = h
plain_non (possible p) h = absurd h
plain_non (necessary p) h = absurd h

plain_priest : (p : Form) → Plain p → Plains (priest p)
unfolding priest
plain_priest (atom a) h = tt
plain_priest (non p) h = plain_non p h
plain_priest (and p q) h = (h.0, (h.1, tt))
plain_priest (or p q) h = ((h.0, tt), (h.1, tt))
plain_priest (imply p q) h = ((h.0, tt), (h.1, tt))
plain_priest (bi_imply p q) h = ((h.0, (h.1, tt)), (h.0, (h.1, tt)))
plain_priest (strict_imply p q) h = h
plain_priest (possible p) h = h
plain_priest (necessary p) h = h

-- a rule whose formulas are plain acts here
plain_here : (form : ℕ → Form) (c : Rule ℕ) → Plains (written_rule form c) → Here c × Each (λ g. Plain (form g)) (flat (chains c))
unfolding written_rule flat
plain_here form nothing h = (tt, tt)
plain_here form (down fs) h = (tt, each_append (λ g. Plain (form g)) fs [] (each_from_map Plain form fs h) tt)
plain_here form (split fs gs) h = (tt, each_append (λ g. Plain (form g)) fs gs (each_from_map Plain form fs h.0) (each_from_map Plain form gs h.1))
plain_here form (as_possible f) h = absurd h
plain_here form (as_necessary f) h = absurd h

-- at a world of a model a plain formula is true just if its atoms' values there make it so
plain_truth : (M : Model) (w : ℕ) (p : Form) → Plain p → truth (assigned (M.value w)) p 0 ≡ truth M p w
unfolding truth
plain_truth M w (atom a) h = refl
plain_truth M w (non p) h = ap not (plain_truth M w p h)
plain_truth M w (and p q) h = ap₂ ◌&&◌ (plain_truth M w p h.0) (plain_truth M w q h.1)
plain_truth M w (or p q) h = ap₂ ◌||◌ (plain_truth M w p h.0) (plain_truth M w q h.1)
plain_truth M w (imply p q) h = ap₂ (λ a b. not a || b) (plain_truth M w p h.0) (plain_truth M w q h.1)
plain_truth M w (bi_imply p q) h = ap₂ beq (plain_truth M w p h.0) (plain_truth M w q h.1)
plain_truth M w (strict_imply p q) h = absurd h
plain_truth M w (possible p) h = absurd h
plain_truth M w (necessary p) h = absurd h

-- ---- the run
-- a label whose formula is plain
record PlainLabel (rs : List Rec) (a : Label) : Type 0 where
  known : a.formula < length rs
  named : is_nobody a.formula ≡ false
  plain : Plain (form_at rs a.formula)

abbrev AllPlain : State → Type 0
AllPlain s = Every (PlainLabel s.formulas) s.nodes × (s.graph.worlds ≡ 0)

module _ (F : Setting) (k : ℕ) (s : State) (p : Popped) (fit : Fit F k s) (a : AllPlain s) (e : stops F s ≡ false) (known : p.node < length s.nodes) where
  abbrev x : ℕ
  x = p.node

  abbrev rs : List Rec
  rs = s.formulas

  abbrev f : ℕ
  f = (node_at s.nodes p.node).formula

  abbrev more : List Rec
  more = (expansion rs f).made

  abbrev c : Rule ℕ
  c = (expansion rs f).rule

  here : Here c × Each (λ g. Plain (form_at (rs ++ more) g)) (flat (chains c))
  here =
      let q = a.0 x known in
      plain_here (form_at (rs ++ more)) c (subst Plains (sym (rule_is_priest rs fit.bounded.sizes.wf f q.known q.named)) (plain_priest (form_at rs f) q.plain))

  result : LogicRuleResult
  result = apply_here s x more (chains c)

  -- the nodes that the rule makes are plain, and those that were there stay so
  plain_made : Every (PlainLabel (rs ++ more)) (s.nodes ++ result.nodes)
  unfolding apply_here result
  plain_made =
      let low : length (rs ++ more) < nobody = omega (arith, (ready F k s fit e).formulas, length-append rs more, made_two rs f) in
      let make : ℕ → Node = λ h. new_node x h (node_at s.nodes x).world in
      every_append (PlainLabel (rs ++ more)) s.nodes result.nodes
      (λ y h. let q = a.0 y h in record { known = omega (arith, length-append rs more); named = q.named; plain = rw (form_append rs more (node_at s.nodes y).formula q.known) q.plain })
      (each_of_map (λ (m : Node). PlainLabel (rs ++ more) (label m)) make (flat (turned (chains c))) (each_turned (λ h. PlainLabel (rs ++ more) (label (make h))) (chains c)
      (each_both (λ h (l : h < length (rs ++ more)) (q : Plain (form_at (rs ++ more) h)). record { known = l; named = ne_eqb h nobody (omega arith); plain = q }) (flat (chains c)) (known_flat (length (rs ++ more)) c (rule_known rs fit.bounded.sizes.wf f)) here.1)))

  plain_step : AllPlain (after F s p)
  unfolding checked_for_contradictions appended apply_here result
  plain_step =
      let t = s.nodes in
      let r = apply F s x in
      let is = apply_here_lem F s x c here.0 refl in
      let u = (appended F s p).nodes in
      let made = subst (λ (r : LogicRuleResult). Every (PlainLabel (rs ++ r.formulas)) (t ++ r.nodes)) (sym is) plain_made in
      let placed = every_result (PlainLabel (rs ++ r.formulas)) r.subtrees (t ++ r.nodes) p.others (length t) (length t + length r.nodes) (apply_issued F s x) (omega (arith, length-append t r.nodes)) made in
      let found = pairs (appended F s p).formulas u (leaves u) in (
        every_marks (PlainLabel (rs ++ r.formulas)) found u placed,
        ap (λ (r : LogicRuleResult). r.graph.worlds) is ∙ a.1,
      )

plain_start : (F : Setting) (rs : List Rec) → length rs ≤ most_records → PlainBranch rs → AllPlain (start F rs)
unfolding start begun branch_nodes empty_graph checked_for_contradictions
plain_start F rs small h =
    let first = rooted_every (PlainLabel rs) (branch_nodes rs) (each_of_map (λ (n : Node). PlainLabel rs (label n)) (λ f. new_node nobody f 0) (marks rs)
    (each_both (λ f (l : f < 0 + length rs) (q : Plain (form_at rs f)). record { known = omega arith; named = ne_eqb f nobody (omega arith); plain = q }) (marks rs) (marks_known rs 0) h)) in
    let found = pairs rs (begun rs).nodes (leaves (begun rs).nodes) in
    checked_both AllPlain F (begun rs) (first, refl)
    (every_marks (PlainLabel rs) found (begun rs).nodes first, refl)

-- so no world is made
plain_worlds : (branch : List ℕ) (flags : ℕ) (lent : Lengths) → Accepted branch flags lent → ChecksContradictions (setting_of flags) → PlainBranch (decode branch) → late (setting_of flags) (final (setting_of flags) (decode branch)) ≡ false
unfolding final late
plain_worlds branch flags lent a skip plain = rw none refl
  where
    F : Setting
    F = setting_of flags

    k : ℕ
    k = length (decode branch)

    PlainState : State → Type 0
    PlainState s = Fit F k s × AllPlain s

    one : (s : State) → stops F s ≡ false → PlainState s → PlainState (step F s)
    one s e h =
        let q = due F s skip e in
        (fit_step F k s e h.0, subst AllPlain (sym q.2) (plain_step F k s q.0 h.0 h.1 e (known_taken s q.0 h.0.bounded.known q.1)))

    none : (run enough_steps F (start F (decode branch))).graph.worlds ≡ 0
    none = (run_keeps stops F PlainState one enough_steps (start F (decode branch)) (fit_start F (decode branch) a.few (λ i l. (a.records i l).links) a.marked, plain_start F (decode branch) a.few plain)).1.1

-- ---- the verdict
abbrev Unproved : Answer → Type 0
Unproved (refusal number place) = ⊥
Unproved (verdict v) = v.proved ≡ false

-- one that is not proved has an assignment
pub has_assignment : (branch : List ℕ) (flags : ℕ) (lent : Trays) (v : Verdict) → answer branch flags lent ≡ verdict v → ChecksContradictions (setting_of flags) → PlainBranch (decode branch) →
    v.proved ≡ false → (a : ℕ → Bool) × Satisfies a (decode branch)
unfolding answer_of
has_assignment branch flags lent v h checks plain unproved =
    let rs = decode branch in
    let (a, room, open_end) = answered Unproved (λ n i q. q) branch flags lent (subst Unproved (sym h) unproved) in
    let idle = nothing_waits (setting_of flags) rs open_end (plain_worlds branch flags (lengths_of lent) a checks plain) room in
    let (l, k) = run_complete branch flags (lengths_of lent) a checks room open_end idle in
    let M = read_off (setting_of flags) (final (setting_of flags) rs) l in
    (M.value 0, each_of_map _ (form_at rs) (marks rs) (each_both (λ f (q : Plain (form_at rs f)) (t : truth M (form_at rs f) 0 ≡ true). plain_truth M 0 (form_at rs f) q ∙ t) (marks rs) plain (each_from_map _ (form_at rs) (marks rs) k.satisfied)))

pub decides : (branch : List ℕ) (flags : ℕ) (lent : Trays) (v : Verdict) → answer branch flags lent ≡ verdict v → ChecksContradictions (setting_of flags) → PlainBranch (decode branch) →
    ((v.proved ≡ true) ↔ ((a : ℕ → Bool) → Satisfies a (decode branch) → ⊥))
decides branch flags lent v h checks plain = (
  λ proved a sat. demand_3 branch flags lent (subst Proved (sym h) proved) (assigned a) (record { reflexive = λ q u l. refl; symmetric = λ q u v l m e. refl; transitive = λ q u v w l m n d e. refl }) 0 (omega arith) (λ q. (0, omega arith, refl)) sat,
  λ never. elim (either v.proved) [ inl q ↦ q | inr q ↦ let (a, sat) = has_assignment branch flags lent v h checks plain q in absurd (never a sat) ],
)
