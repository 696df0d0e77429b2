-- What is proved of the definition, beside demand 3 (Rattle.definition.specs.Claim) and what late and open say (Rattle.definition.specs.Finished, Completeness).
-- It imports definitions only; proofs/ proves each claim.
use Rattle.std.specs.Prelude.{◌≡◌, Bool, true, false, not, ◌&&◌, List, ◌++◌, ◌⊎◌, ◌↔◌, ◌≢◌, ℕ, suc, ◌<◌, ◌≤◌, ◌+◌, ◌^◌, leb, length}
use Rattle.std.proofs.Math.Option.{none}
use Rattle.definition.specs.Limits.{most_identifiers, world_limit, graph_width, most_formulas}
use Rattle.definition.specs.RefusalNumbers.{too_many_identifiers}
use Rattle.definition.specs.Lists.{Each, Distinct, empty}
use Rattle.definition.specs.Records.{Rec, nobody, is_nobody, decode, marks}
use Rattle.definition.specs.Formula.{form_at, branch_of}
use Rattle.definition.specs.Setting.{Setting, setting_of}
use Rattle.definition.specs.Checks.{Lengths, LongEnough, Check, refused}
use Rattle.definition.specs.Models.{Model, Has}
use Rattle.definition.specs.Tree.{Node, Place, Root, Unplaced, node_at, child_at, leaves_below, upward, leaves, path}
use Rattle.definition.specs.Rules.{expansion, written_rule, priest}
use Rattle.definition.specs.Subtree.{Targeted, append_logic_rule_result}
use Rattle.definition.specs.Run.{State, apply, step, full, run, unlimited_run, start, Passes, final}
use Rattle.definition.specs.Trays.{Trays, row_number, trays_of, zero_trays, laid_over}
use Rattle.definition.specs.Fits.{Number, RecordFits, Sized, TraysKept}
use Rattle.definition.specs.Call.{Refused, Ended, outcome, late, Verdict, verdict, refusal, answer, trays_left, lengths_of}
use Rattle.definition.specs.Claim.{Proved, Reaching, Satisfied}
use Rattle.definition.specs.Completeness.{ChecksContradictions}
use Rattle.definition.specs.Propositional.{PlainBranch, Satisfies}
use Rattle.definition.specs.Cases.{bytes, dead_end}

-- "whose rules are Priest's tableau rules": at every state of an accepted run, the rule that a formula's record chooses, written out, is the row
-- of Priest's table. Of closing, worlds and edges this says nothing: there demand 3 speaks
abbrev pub RulesArePriests : Type 0
RulesArePriests =
    (branch : List ℕ) (flags : ℕ) (lent : Lengths) → refused branch flags lent ≡ none → (n : ℕ) → let rs = (run n (setting_of flags) (start (setting_of flags) (decode branch))).formulas in
    (f : ℕ) → f < length rs → is_nobody f ≡ false →
    written_rule (form_at (rs ++ (expansion rs f).made)) (expansion rs f).rule ≡ priest (form_at rs f)

-- the run stops by itself: where it stops, it is proved, nothing waits, as many worlds exist as the limit, or it is full; more steps change nothing
abbrev pub Stops : Type 0
Stops =
    (F : Setting) (rs : List Rec) →
    ((final F rs).proved ≡ true) ⊎ ((empty (final F rs).waiting ≡ true) ⊎ ((world_limit ≤ (final F rs).graph.worlds) ⊎ (most_identifiers < length (final F rs).nodes)))

abbrev pub StaysStopped : Type 0
StaysStopped = (k : ℕ) (F : Setting) (rs : List Rec) → most_identifiers < k → run k F (start F rs) ≡ final F rs

-- "full" comes exactly when the paper's own loop passes `most_identifiers`; otherwise the two runs are one
abbrev pub FullExactly : Type 0
FullExactly = (F : Setting) (rs : List Rec) → (full (final F rs) ≡ true) ↔ Passes F rs

abbrev pub NotFullExactly : Type 0
NotFullExactly = (k : ℕ) (F : Setting) (rs : List Rec) → most_identifiers < k → full (final F rs) ≡ false → unlimited_run k F (start F rs) ≡ final F rs

-- so the call refuses with `too_many_identifiers` exactly if no check applies and that loop passes the limit, and zeroes the three lengths
abbrev pub TwelveExactly : Type 0
TwelveExactly =
    (branch : List ℕ) (flags : ℕ) (lent : Trays) →
    (answer branch flags lent ≡ refusal too_many_identifiers 0) ↔ ((refused branch flags (lengths_of lent) ≡ none) × Passes (setting_of flags) (decode branch))

abbrev pub TwelveZeroes : Type 0
TwelveZeroes = (branch : List ℕ) (flags : ℕ) (lent : Trays) (place : ℕ) → answer branch flags lent ≡ refusal too_many_identifiers place → trays_left branch flags lent ≡ laid_over zero_trays lent

-- "each identifier once": at every state, those that steps have taken and those that wait are as many as there are, if each marked record has a number
abbrev pub QueueCounts : Type 0
QueueCounts = (n : ℕ) (F : Setting) (rs : List Rec) → length (marks rs) ≤ nobody → let s = unlimited_run n F (start F rs) in s.steps + length s.waiting ≡ length s.nodes

-- at every state with as many worlds as the limit a node waits: the step that made the last world queued its formula and its comment
abbrev pub WaitsAtLimit : Type 0
WaitsAtLimit = (n : ℕ) (F : Setting) (rs : List Rec) → let s = unlimited_run n F (start F rs) in world_limit ≤ s.graph.worlds → empty s.waiting ≡ false

-- so late's third condition follows from its first: no state tells the three from "the world limit is reached, proved is false"
abbrev pub LateAtLimit : Type 0
LateAtLimit = (n : ℕ) (F : Setting) (rs : List Rec) → let s = unlimited_run n F (start F rs) in late F s ≡ (leb world_limit s.graph.worlds && not s.proved)

-- no step, and no part of a step, takes an identifier back
abbrev pub StepsGrow : Type 0
StepsGrow = (F : Setting) (s : State) → length s.nodes ≤ length (step F s).nodes

abbrev pub PartsGrow : Type 0
PartsGrow =
    (before after : List Targeted) (t : List Node) (q : List ℕ) →
    (length t ≤ length (append_logic_rule_result t q before).nodes) × (length (append_logic_rule_result t q before).nodes ≤ length (append_logic_rule_result t q (before ++ after)).nodes)

abbrev pub child_of : List Node → ℕ → Place → ℕ
child_of t y p = child_at p (node_at t y).children

-- the tree is a tree: node 0 is its root, parents and children agree, each node is one deeper than its parent, and a node that was never placed
-- has no parent and no child; its leaves are distinct and no more than its nodes, and no bound of depth decides
pub record IsTree (t : List Node) : Type 0 where
  pub root : ((node_at t 0).place ≡ Root) × ((node_at t 0).parent ≡ nobody)
  pub down : (y : ℕ) (p : Place) → child_of t y p ≢ nobody → ((node_at t (child_of t y p)).parent ≡ y) × ((node_at t (child_of t y p)).place ≡ p)
  pub up : (x : ℕ) → (node_at t x).place ≢ Unplaced → x ≢ 0 → child_of t (node_at t x).parent (node_at t x).place ≡ x
  pub depth : ℕ → ℕ
  pub deeper : (x : ℕ) → (node_at t x).place ≢ Unplaced → x ≢ 0 → depth x ≡ suc (depth (node_at t x).parent)
  pub loose : (x : ℕ) → (node_at t x).place ≡ Unplaced → ((node_at t x).parent ≡ nobody) × ((p : Place) → child_of t x p ≡ nobody)
  pub distinct : Distinct (leaves t)
  pub few : length (leaves t) ≤ length t
  pub unbounded : (k : ℕ) → length t ≤ k → (leaves_below k t 0 ≡ leaves t) × Each (λ l. upward k t l ≡ path t l) (leaves t)

-- at every state of a run of a marked branch, and between two placings of one step, as long as 65535, which is nobody, is not issued
abbrev pub TreesOfRun : Type 0
TreesOfRun = (F : Setting) (rs : List Rec) (n : ℕ) → empty (marks rs) ≡ false → length (unlimited_run n F (start F rs)).nodes ≤ nobody → IsTree (unlimited_run n F (start F rs)).nodes

abbrev pub TreesOfStep : Type 0
TreesOfStep =
    (F : Setting) (rs : List Rec) (n : ℕ) → empty (marks rs) ≡ false → let s = unlimited_run n F (start F rs) in
    (x : ℕ) (q : List ℕ) (before after : List Targeted) → (apply F s x).subtrees ≡ before ++ after →
    length (append_logic_rule_result (s.nodes ++ (apply F s x).nodes) q before).nodes ≤ nobody → IsTree (append_logic_rule_result (s.nodes ++ (apply F s x).nodes) q before).nodes

-- a node of a run with n identifiers and m formulas
pub record NodeFits (n m : ℕ) (x : Node) : Type 0 where
  pub parent : Number n x.parent
  pub world : x.world < world_limit
  pub formula : Number m x.formula
  pub spawner : Number n x.spawner
  pub contrarian : Number n x.contrarian

-- the bounds of a run that ended, with every number that the trays hold
pub record StateFits (s : State) : Type 0 where
  pub identifiers : length s.nodes ≤ most_identifiers
  pub steps : s.steps ≤ most_identifiers
  pub formulas : length s.formulas ≤ most_formulas
  pub worlds : s.graph.worlds ≤ world_limit
  pub nodes : (x : ℕ) → x < length s.nodes → NodeFits (length s.nodes) (length s.formulas) (node_at s.nodes x)
  pub records : Each RecordFits s.formulas
  pub rows : Each (λ (row : List Bool). row_number row < 2 ^ graph_width) s.graph.rows

abbrev pub RunsFit : Type 0
RunsFit =
    (branch : List ℕ) (flags : ℕ) (lent : Lengths) (s : State) → Each (λ b. b < 256) branch → outcome branch flags lent ≡ Ended s → StateFits s

-- "Only these lengths are written; anything beyond stays"
abbrev pub TraysKeep : Type 0
TraysKeep = (branch : List ℕ) (flags : ℕ) (lent : Trays) → TraysKept lent (trays_left branch flags lent)

-- what a run that ended writes has exactly the three lengths
abbrev pub TraysSized : Type 0
TraysSized = (branch : List ℕ) (flags : ℕ) (lent : Lengths) (s : State) → outcome branch flags lent ≡ Ended s → Sized (trays_of s)

-- "Refusals 1 to 11 write nothing"
abbrev pub RefusalsWriteNothing : Type 0
RefusalsWriteNothing = (branch : List ℕ) (flags : ℕ) (lent : Trays) (c : Check) → outcome branch flags (lengths_of lent) ≡ Refused c → trays_left branch flags lent ≡ lent

-- demand 3 is not empty: every set of flags has a model with a world of which it speaks
abbrev pub ModelsExist : Type 0
ModelsExist = (F : Setting) (value : ℕ → ℕ → Bool) → (M : Model) × Has F M × (0 < M.size) × Reaching F M 0 × (M.value ≡ value)

-- and its second half is needed: the starred branch with flags 6 is proved, and true at a world that reaches nothing
abbrev pub DeadEnd : Type 0
DeadEnd =
    let branch = bytes dead_end in
    ((lent : Trays) → LongEnough (lengths_of lent) → Proved (answer branch 6 lent)) ×
    ((M : Model) × Has (setting_of 6) M × (0 < M.size) × ((v : ℕ) → M.reach 0 v ≡ false) × Satisfied (branch_of (decode branch)) M 0)

-- a branch without a modal connective, whatever the frame properties and with no bound on its atoms: a verdict of a run that checks contradictions is proved
-- exactly if no assignment makes every formula of the branch true
abbrev pub Decides : Type 0
Decides =
    (branch : List ℕ) (flags : ℕ) (lent : Trays) (v : Verdict) → answer branch flags lent ≡ verdict v → ChecksContradictions (setting_of flags) → PlainBranch (decode branch) →
    ((v.proved ≡ true) ↔ ((a : ℕ → Bool) → Satisfies a (decode branch) → ⊥))

-- and where it is not proved, there is one
abbrev pub HasAssignment : Type 0
HasAssignment =
    (branch : List ℕ) (flags : ℕ) (lent : Trays) (v : Verdict) → answer branch flags lent ≡ verdict v → ChecksContradictions (setting_of flags) → PlainBranch (decode branch) →
    v.proved ≡ false → (a : ℕ → Bool) × Satisfies a (decode branch)
