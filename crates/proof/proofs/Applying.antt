-- A rule applied, its result placed, and the contradictions checked.
use Prim.Native.Nat.{ℕ, ◌≤◌}
use mathlib.Core.Path.{◌≡◌, refl, sym, ap, ◌∙◌, subst}
use mathlib.Core.Bool.{Bool, true, false, cond, ◌||◌}
use mathlib.Core.List.{List}
use mathlib.Core.Option.{Option}
use lib.ListN.{length}
use Rattle.definition.specs.Limits.{most_identifiers}
use Rattle.definition.specs.Lists.{all}
use Rattle.definition.specs.Setting.{Setting}
use Rattle.definition.specs.Records.{Rec}
use Rattle.definition.specs.Tree.{Node, node_at, leaves}
use Rattle.definition.specs.Rules.{Rule, nothing, down, split, as_possible, as_necessary}
use Rattle.definition.specs.Subtree.{Subtree, turned, numbered, append_subtree, append_logic_rule_result}
use Rattle.definition.specs.Contradiction.{Pair, pairs, mark_all, is_pair}
use Rattle.definition.specs.Run.{State, LogicRuleResult, apply_here, apply_possibility, apply_necessity, apply_rule, checked_for_contradictions, check_for_contradictions}
use Rattle.definition.specs.TreeShape.{Treed}
use Rattle.definition.proofs.Run.TreeKept.{here_treed}
use Rattle.arrays.specs.Listed.{HasList}
use Rattle.arrays.specs.Listed.{Numbers}
use Rattle.tree.specs.declared.ProofTreeNode.{ProofTreeNode}
use Rattle.tree.specs.Lay.{Held, HasNodes}
use Rattle.tree.specs.declared.ProofTree.{ProofTree}
use Rattle.subtree.specs.declared.ProofSubtree.{ProofSubtree}
use Rattle.subtree.specs.Subtree.{subtree_of, Chained, Left}
use Rattle.rules.specs.Here.{here_of, Here}
use Rattle.logic.specs.declared.Tableau.{Tableau}
use Rattle.logic.specs.Applied.{Before, After}
use Rattle.logic.proofs.Forked.{before_held}

pub here_after : (s : State) (x : ℕ) (recs : List Rec) (fs : Subtree) (q : List ℕ) {A : Tableau} {t u : ProofTree} {w : Numbers} {h : ProofSubtree} → Before A s q →
    (HasNodes s.nodes A.tree → Here s.nodes x (node_at s.nodes x).world fs h t) →
    ((ns : List Node) (q : List ℕ) (f : Subtree) → HasNodes ns t → (t.len ≤ most_identifiers → HasList q A.waiting) → (length ns ≤ most_identifiers → Chained h f (length ns)) → (length ns ≤ most_identifiers → Treed ns) → Left (append_subtree ns q x f) u w) →
    After (record { tree = u; graph = A.graph; necessities = A.necessities; waiting = w }) s q (apply_here s x recs fs)
unfolding apply_here append_logic_rule_result subtree_of
here_after s x recs fs q b make place =
    let h = make (before_held b) in
    let out = place _ q (turned (numbered (length s.nodes) fs)) h.nodes (λ _. b.waiting)
    (λ i. record { are = h.chains i; within = h.below i }) (λ _. here_treed s x recs fs b.treed) in
    record { nodes = out.nodes; rest = λ small. record { waiting = out.queue small; graph = b.graph; necessities = b.necessities } }

-- the rules at the formula's own world
abbrev pub Plain : Rule ℕ → Type 0
Plain nothing = Unit {0}
Plain (down fs) = Unit {0}
Plain (split fs gs) = Unit {0}
Plain (as_possible f) = ⊥
Plain (as_necessary f) = ⊥

module _ (F : Setting) (s : State) (x : ℕ) (recs : List Rec) where
  rule_here : (r : Rule ℕ) → Plain r → apply_here s x recs (here_of r) ≡ apply_rule F s x recs r
  unfolding apply_rule
  rule_here nothing h = refl
  rule_here (down fs) h = refl
  rule_here (split fs gs) h = refl
  rule_here (as_possible f) h = absurd h
  rule_here (as_necessary f) h = absurd h

  pub rule_possible : (f : ℕ) → apply_possibility F s x recs f ≡ apply_rule F s x recs (as_possible f)
  unfolding apply_rule
  rule_possible f = refl

  pub rule_necessary : (f : ℕ) → apply_necessity F s x recs f ≡ apply_rule F s x recs (as_necessary f)
  unfolding apply_rule
  rule_necessary f = refl

pub after_as : (s : State) (q : List ℕ) {r r' : LogicRuleResult} {A : Tableau} → r ≡ r' → After A s q r → After A s q r'
after_as s q {A = A} e h = subst (λ (r : LogicRuleResult). After A s q r) e h

pub after_here : (F : Setting) (s : State) (x : ℕ) (recs : List Rec) (q : List ℕ) (r : Rule ℕ) → Plain r → {A : Tableau} →
    After A s q (apply_here s x recs (here_of r)) → After A s q (apply_rule F s x recs r)
after_here F s x recs q r plain h = after_as s q (rule_here F s x recs r plain) h

-- contradictions
module _ (F : Setting) (s : State) where
  pub check_skipped : F.skip ≡ true → s ≡ check_for_contradictions F s
  unfolding check_for_contradictions
  check_skipped t = rw t refl

  abbrev found : List (Option Pair)
  found = pairs s.formulas s.nodes (leaves s.nodes)

  pub check_made : {r : Bool} {len old : ℕ} {a : List ProofTreeNode} → F.skip ≡ false → Held (mark_all s.nodes found) len a → (old ≤ most_identifiers → r ≡ (s.proved || all is_pair found)) →
      Held (check_for_contradictions F s).nodes len a × (old ≤ most_identifiers → r ≡ (check_for_contradictions F s).proved)
  unfolding check_for_contradictions checked_for_contradictions
  check_made {r = r} {len} {old} {a} t h k =
      subst (λ (c : Bool). Held (cond c s (checked_for_contradictions s)).nodes len a × (old ≤ most_identifiers → r ≡ (cond c s (checked_for_contradictions s)).proved)) (sym t) (h, k)

-- one path more, or none, where the run has proved and where it has not
module _ (s : State) where
  pub or_yes : (v : Bool) {proved : Bool} → proved ≡ s.proved → proved ≡ true → proved ≡ (s.proved || v)
  or_yes v e t = t ∙ ap (λ (c : Bool). c || v) (sym t ∙ e)

  pub or_no : (v : Bool) {proved : Bool} → proved ≡ s.proved → proved ≡ false → v ≡ (s.proved || v)
  or_no v e t = ap (λ (c : Bool). c || v) (sym t ∙ e)
