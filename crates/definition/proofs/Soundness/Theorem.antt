-- Soundness: where a run ends proved, no world of a model with the flagged properties makes every marked formula true.
use mathlib.Core.Path.{◌≡◌, refl, sym, ap, ◌∙◌, subst}
use mathlib.Core.Bool.{Bool, true, false, cond}
use mathlib.Core.List.{List, [], ◌∷◌, map}
use mathlib.Core.Option.{Option, none, some}
use mathlib.Core.Logic.{◌⊎◌, inl, inr}
use Prim.Native.Nat.{ℕ, zero, suc, ◌<◌, ◌≤◌, ◌+◌}
use native.Mathlib.Omega.{arith}
use lib.Dec.{eqb}
use borrow.Author.Tests.{eqb-true, ne_eqb}
use lib.ListN.{length}
use Rattle.definition.specs.Lists.{Each, up_from, empty}
use Rattle.definition.specs.Records.{Rec, nobody, is_nobody, decode, marks}
use Rattle.definition.specs.Formula.{form_at, branch_of}
use Rattle.definition.specs.Setting.{Setting, setting_of, partial_equivalence}
use Rattle.definition.specs.Models.{Model, Has, truth}
use Rattle.definition.specs.Checks.{Check, refused}
use Rattle.definition.specs.Graph.{empty_graph}
use Rattle.definition.specs.Tree.{Node, Root, Middle, new_node, node_at, placed_below, link_chain, is_leaf}
use Rattle.definition.specs.Run.{State, step, steps, full, stops, rooted, branch_nodes, begun, start, final, enough_steps}
use Rattle.definition.specs.Call.{Full, Ended, outcome_of_run, outcome_by, outcome, answer_of, answer, lengths_of}
use Rattle.definition.specs.Claim.{Proved, NoModel, Demand3}
use Rattle.definition.proofs.Basics.Lists.{true_false, either, each_map, each_both, each_of_map, each_from_map, up_from_each}
use Rattle.definition.proofs.Basics.Records.{marks_known}
use Rattle.definition.proofs.Tree.Nodes.{Label, label}
use Rattle.definition.proofs.Tree.Labels.{Every, rooted_every}
use Rattle.definition.proofs.Run.Queueing.{length_rooted}
use Rattle.definition.proofs.Run.Fullness.{steps_grow}
use Rattle.definition.proofs.Run.Stepping.{checked_length, not_full, step_keeps, run_keeps}
use Rattle.definition.proofs.Run.Counting.{Known, known_step, known_taken, known_start, start_length, appended_grows}
use Rattle.definition.proofs.Basics.Forms.{WellFormed}
use Rattle.definition.proofs.Soundness.Clash.{Sat}
use Rattle.definition.proofs.Soundness.Edges.{no_edges, init_worlds}
use Rattle.definition.proofs.Soundness.OpenSets.{Whole, New, adds, slot_middle, chain_in}
use Rattle.definition.proofs.Run.Accepted.{Accepted, accepted}
use Rattle.definition.proofs.Soundness.Invariant.{Inv, inv_checked, inv_appended}
use Rattle.definition.proofs.Soundness.Rules.{apply_faithful}

module _ (F : Setting) (M : Model) (has : Has F M) (w : ℕ) (begun' : F.symmetric ≡ true → F.transitive ≡ true → M.reach w w ≡ true) where
  -- as long as nobody is not issued
  abbrev Modelled : State → Type 0
  Modelled s = length s.nodes ≤ nobody → Inv F M w s

  step_inv : (s : State) → Known s.nodes s.waiting → Modelled s → Modelled (step F s)
  step_inv s k i =
      step_keeps F s Modelled (λ p t few.
      let j = i (omega (arith, few, appended_grows F s p)) in
      inv_appended F M w s p j (apply_faithful F M has w begun' s j p.node (known_taken s p k t)) few)
      (λ z j few. inv_checked F M w z (j (omega (arith, few, checked_length F z)))) i

  run_inv : (test : Setting → State → Bool) (n : ℕ) (s : State) → Known s.nodes s.waiting → Modelled s → Modelled (steps test n F s)
  run_inv test n s k i = (run_keeps test F (λ (z : State). Known z.nodes z.waiting × Modelled z) (λ z e h. (known_step F z h.0, step_inv z h.0 h.1)) n s (k, i)).1

-- every node of the branch is at world 0, and its formula is marked
module _ (M : Model) (w : ℕ) (rs : List Rec) (holds : Each (λ f. truth M (form_at rs f) w ≡ true) (marks rs)) where
  abbrev First : Label → Type 0
  First l = (l.world ≡ 0) × Sat M rs w l.formula

  branch_first : Each (λ (n : Node). First (label n)) (branch_nodes rs)
  unfolding branch_nodes
  branch_first =
      each_of_map (λ (n : Node). First (label n)) (λ f. new_node nobody f 0) (marks rs)
      (each_both (λ f (a : f < 0 + length rs) (b : truth M (form_at rs f) w ≡ true). (refl, inr (record { known = omega (arith, a); holds = b }))) (marks rs) (marks_known rs 0) holds)

alone : ℕ → Bool
alone x = eqb x 0

rooted_whole : (n : Node) (ns : List Node) → length (n ∷ ns) ≤ nobody → Whole (rooted (n ∷ ns)) (adds alone (up_from (length ns) 1))
unfolding rooted alone is_leaf link_chain
rooted_whole n ns small = go (length ns) refl
  where
    t : List Node
    t = placed_below nobody Root n ∷ ns

    base : Whole t alone
    base e =
        record {
          root = refl;
          known = λ x h. omega (arith, eqb-true x 0 h);
          named = λ x h. ne_eqb x nobody (omega (arith, eqb-true x 0 h));
          up = λ x h. inl (subst (λ (y : ℕ). is_nobody (node_at t y).parent ≡ true) (sym (eqb-true x 0 h)) refl);
          down = λ x h d. inl (subst (λ (y : ℕ). is_leaf (node_at t y).children ≡ true) (sym (eqb-true x 0 h)) refl);
        }

    new : (m : ℕ) → length ns ≡ m → Each (New (length t)) (up_from m 1)
    new m e = each_map (λ x (q : (1 ≤ x) × (x < 1 + m)). (omega (arith, q.1, e), ne_eqb x nobody (omega (arith, q.1, e, small)))) (up_from m 1) (up_from_each m 1)

    go : (m : ℕ) → length ns ≡ m → Whole (link_chain t 0 Middle (up_from m 1)) (adds alone (up_from m 1))
    go zero e = base
    go (suc m) e = chain_in alone t 0 Middle 1 (up_from m 2) slot_middle (base 0) refl (new (suc m) e)

begun_inv : (F : Setting) (M : Model) (w : ℕ) → w < M.size → (rs : List Rec) → WellFormed rs → empty (marks rs) ≡ false →
    Each (λ f. truth M (form_at rs f) w ≡ true) (marks rs) → length (begun rs).nodes ≤ nobody → Inv F M w (begun rs)
unfolding begun branch_nodes
begun_inv F M w inside rs wf some_marked holds small = go (branch_nodes rs) refl (full_branch (marks rs) some_marked)
  where
    full_branch : (fs : List ℕ) → empty fs ≡ false → empty (map (λ f. new_node nobody f 0) fs) ≡ false
    full_branch [] e = e
    full_branch (f ∷ fs) e = refl

    first : Every (First M w rs holds) (rooted (branch_nodes rs))
    first = rooted_every (First M w rs holds) (branch_nodes rs) (branch_first M w rs holds)

    go : (ns : List Node) → branch_nodes rs ≡ ns → empty (branch_nodes rs) ≡ false → Inv F M w (begun rs)
    go [] e q = true_false (sym (ap (empty {A = Node}) e) ∙ q)
    go (n ∷ ns) e q =
        let t = rooted (branch_nodes rs) in
        let S = adds alone (up_from (length ns) 1) in
        let whole : Whole t S = subst (λ (l : List Node). Whole (rooted l) S) (sym e) (rooted_whole n ns (omega (arith, small, length_rooted (branch_nodes rs), ap length e))) in
        record {
          wf = wf;
          set = S;
          par = λ v. 0;
          img = λ v. w;
          put = record {
            whole = whole;
            fine = λ x h. let f = first x ((whole 0).known x h) in (record { inside = inside; above = inl f.0 }, f.1);
          };
          edges = no_edges F (λ v. 0);
          low = λ x h. omega (arith, (first x h).0, (init_worlds F empty_graph).0);
          origin = refl;
          ground = (first 0 ((whole 0).known 0 (whole 0).root)).0;
          stand = tt;
          unproved = refl;
        }

partial : (F : Setting) → F.symmetric ≡ true → F.transitive ≡ true → F.reflexive ≡ false → partial_equivalence F ≡ true
unfolding partial_equivalence
partial F s t r = rw (s, t, r) refl

-- the run of a branch
run_sound : (F : Setting) (rs : List Rec) → WellFormed rs → empty (marks rs) ≡ false → (test : Setting → State → Bool) (n : ℕ) →
    length (steps test n F (start F rs)).nodes ≤ nobody → (steps test n F (start F rs)).proved ≡ true → NoModel F (branch_of rs)
unfolding start
run_sound F rs wf some_marked test n small proved M has w inside reaching holds =
    true_false (sym proved ∙ (run_inv F M has w reflexive_here test n (start F rs) (known_start F rs (omega (arith, small, steps_grow test F n (start F rs), start_length F rs))) start_inv small).unproved)
  where
    start_inv : length (start F rs).nodes ≤ nobody → Inv F M w (start F rs)
    start_inv few = inv_checked F M w (begun rs) (begun_inv F M w inside rs wf some_marked (each_from_map _ (form_at rs) (marks rs) holds) (omega (arith, few, checked_length F (begun rs))))

    reflexive_here : F.symmetric ≡ true → F.transitive ≡ true → M.reach w w ≡ true
    reflexive_here s t = go (either F.reflexive)
      where
        go : (F.reflexive ≡ true) ⊎ (F.reflexive ≡ false) → M.reach w w ≡ true
        go (inl r) = has.reflexive r w inside
        go (inr r) =
            let v = reaching (partial F s t r) in
            has.transitive t w v.0 w inside v.1 inside v.2 (has.symmetric s w v.0 inside v.1 v.2)

-- demand 3
pub demand_3 : Demand3
unfolding answer answer_of outcome outcome_by outcome_of_run final
demand_3 branch flags lent proved = go (refused branch flags (lengths_of lent)) refl proved
  where
    F : Setting
    F = setting_of flags

    rs : List Rec
    rs = decode branch

    z : State
    z = final F rs

    run : Accepted branch flags (lengths_of lent) → (b : Bool) → full z ≡ b → Proved (answer_of (setting_of flags) (cond b Full (Ended z))) → NoModel F (branch_of rs)
    run a true e p = absurd p
    run a false e p =
        run_sound F rs (λ i h. (a.records i h).links) a.marked stops enough_steps (omega (arith, not_full z e)) p

    go : (o : Option Check) → refused branch flags (lengths_of lent) ≡ o → Proved (answer_of (setting_of flags) (outcome_by branch flags o)) → NoModel F (branch_of rs)
    go (some c) e p = absurd p
    go none e p = run (accepted branch flags (lengths_of lent) e) (full z) refl p
