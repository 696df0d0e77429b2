-- The tables of specs/Cases and specs/Refusals, computed.
use mathlib.Core.Path.{◌≡◌, refl, ap, ap₂, ◌∙◌}
use mathlib.Core.List.{List, [], ◌∷◌, map}
use Prim.Native.Nat.{ℕ}
use native.Mathlib.Omega.{arith}
use Rattle.definition.specs.Limits.{PaperLengths}
use Rattle.definition.specs.Lists
use Rattle.definition.specs.Records
use Rattle.definition.specs.Checks
use Rattle.definition.specs.Checks.{Lengths, LongEnough}
use Rattle.definition.specs.Setting
use Rattle.definition.specs.Setting.{setting_of}
use Rattle.definition.specs.Graph
use Rattle.definition.specs.Tree
use Rattle.definition.specs.Rules
use Rattle.definition.specs.Subtree
use Rattle.definition.specs.Modality
use Rattle.definition.specs.Queue
use Rattle.definition.specs.Contradiction
use Rattle.definition.specs.Run
use Rattle.definition.specs.Trays
use Rattle.definition.specs.Trays.{Trays, laid_over}
use Rattle.definition.specs.Call
use Rattle.definition.specs.Call.{Outcome, outcome, answer_of, answer, trays_after, trays_left, late, lengths_of}
use Rattle.definition.specs.Cases.{Case, bytes, listing, table, contradictory_from, contradictory_in, Starred, listing_trays, ListingTrays}
use Rattle.definition.specs.Refusals.{exactly, Refusals}
use Rattle.definition.proofs.Call.Outcomes.{long_outcome}

-- the outcome; to unfold this is to unfold the whole definition of a call
unfoldable pub computed : List ℕ → ℕ → Lengths → Outcome
unfolding
    outcome Call.outcome_by Call.outcome_of_run Setting.setting_of
    Records.kind_of Records.number_of Records.arity Records.record_at Records.decode Records.rec_at Records.formula_of Records.marks_from
    Checks.is_short Checks.expanded_size Checks.non_zero_field Checks.record_checks Checks.checks Checks.refused
    Graph.edge Graph.graph_of Graph.empty_graph Graph.add_missing_reflexive_vertices Graph.add_missing_symmetric_vertices Graph.paired Graph.add_missing_transitive_vertices Graph.add_missing_graph_vertices Graph.initialize_graph_if_needed Graph.fork Graph.reached
    Tree.set_child Tree.is_contradictory Tree.link Tree.link_chain Tree.is_leaf Tree.only Tree.leaves_below Tree.upward Tree.leaves Tree.path
    Rules.non_expansion Rules.expansion_by Rules.expansion
    Subtree.flat Subtree.turned Subtree.numbered Subtree.append_subtree_on_leaf Subtree.push_subtree Subtree.append_copies Subtree.append_on Subtree.takes Subtree.append_subtree Subtree.append_logic_rule_result
    Modality.runs_through Modality.forked_on Modality.occurs Modality.unvisited Modality.give_on Modality.leaves_of Modality.reapply_necessity Modality.visiting Modality.is_reapplied Modality.reapply_if_on_path Modality.reapply_necessity_after_possibility Modality.necessities_after_possibility
    Queue.priority_of Queue.get_node_priority Queue.pop_first Queue.pop_class Queue.pop Queue.push_tree_node
    Contradiction.atom_of Contradiction.atoms_of Contradiction.said Contradiction.denied Contradiction.opposed Contradiction.are_formulas_contradictory Contradiction.are_nodes_contradictory Contradiction.get_contradictory_node_ids Contradiction.is_pair Contradiction.mark Contradiction.mark_all Contradiction.pairs
    Run.apply_here Run.apply_possibility Run.apply_necessity Run.apply_rule Run.apply Run.checked_for_contradictions Run.check_for_contradictions Run.appended Run.step_by Run.step Run.ended Run.full Run.steps Run.stops Run.rooted Run.branch_nodes Run.begun Run.start Run.final
computed branch flags lent = outcome branch flags lent

is_computed : (branch : List ℕ) (flags : ℕ) (lent : Lengths) → outcome branch flags lent ≡ computed branch flags lent
unfolding computed
is_computed branch flags lent = refl

exactly_long : LongEnough exactly
exactly_long = record { nodes = omega arith; formulas = omega arith; edges = omega arith }

-- with trays that are long enough, the outcome is what is computed for the paper's lengths
same_outcome : (branch : List ℕ) (flags : ℕ) (lent : Lengths) → LongEnough lent → outcome branch flags lent ≡ computed branch flags exactly
same_outcome branch flags lent h = long_outcome branch flags lent exactly h exactly_long ∙ is_computed branch flags exactly

pub same_answer : (branch : List ℕ) (flags : ℕ) (lent : Trays) → LongEnough (lengths_of lent) → answer branch flags lent ≡ answer_of (setting_of flags) (computed branch flags exactly)
unfolding answer
same_answer branch flags lent h = ap (answer_of (setting_of flags)) (same_outcome branch flags (lengths_of lent) h)

map_same : {A B : Type 0} (f g : A → B) → ((x : A) → f x ≡ g x) → (xs : List A) → map f xs ≡ map g xs
map_same f g h [] = refl
map_same f g h (x ∷ xs) = ap₂ (λ (b : _) (bs : List _). b ∷ bs) (h x) (map_same f g h xs)

starred_answers : map (λ (c : Case). answer_of (setting_of c.flags) (computed (bytes c.records) c.flags exactly)) table ≡ map (λ (c : Case). c.answered) table
unfolding computed answer_of late
starred_answers = refl

starred_marks : map (λ (c : Case). contradictory_in (computed (bytes c.records) c.flags exactly)) table ≡ map (λ (c : Case). c.contradictory) table
unfolding computed contradictory_in contradictory_from
starred_marks = refl

pub starred : Starred
starred =
    record {
      answers = λ lent h. map_same _ _ (λ (c : Case). same_answer (bytes c.records) c.flags lent h) table ∙ starred_answers;
      marked = λ lent h. map_same _ _ (λ (c : Case). ap contradictory_in (same_outcome (bytes c.records) c.flags lent h)) table ∙ starred_marks;
    }

listing_left : (lent : Trays) → trays_after (computed (bytes listing) 1 exactly) lent ≡ laid_over listing_trays lent
unfolding computed trays_after Trays.trays_of Lists.padded Trays.node_bytes Trays.record_bytes Trays.row_number Tree.place_number
listing_left lent = refl

pub listing_trays_lem : ListingTrays
unfolding trays_left
listing_trays_lem lent h = ap (λ (o : Outcome). trays_after o lent) (same_outcome (bytes listing) 1 (lengths_of lent) h) ∙ listing_left lent

pub refusals : Refusals
unfolding computed answer_of
refusals = refl

pub paper_lengths : PaperLengths
paper_lengths = (refl, refl, refl, refl)
