-- At the end of a run that checks contradictions, not proved, where nothing waits, the first open path gives a model of the branch; so a verdict in time is exact.
use mathlib.Core.Path.{◌≡◌, refl, sym, ap, ◌∙◌, subst}
use mathlib.Core.Bool.{Bool, ◌&&◌, true, false, not, cond, beq}
use mathlib.Core.List.{List, [], ◌∷◌, map}
use mathlib.Core.Option.{Option, none, some}
use mathlib.Core.Logic.{◌⊎◌, inl, inr, ⊎_map}
use Prim.Native.Nat.{ℕ, ◌≤◌}
use native.Mathlib.Omega.{arith}
use lib.ListN.{length}
use Rattle.definition.specs.Limits.{most_identifiers}
use Rattle.definition.specs.Lists.{Each, all, find, elem, empty}
use Rattle.definition.specs.Records.{Rec, Unknown, decode, marks, made, number_of, rec_at}
use Rattle.definition.specs.Checks.{Lengths}
use Rattle.definition.specs.Formula.{Form, form_at, branch_of}
use Rattle.definition.specs.Setting.{Setting, setting_of, partial_equivalence}
use Rattle.definition.specs.Models.{Model, Has, truth}
use Rattle.definition.specs.Graph.{edge}
use Rattle.definition.specs.Tree.{Node, node_at, leaves, path}
use Rattle.definition.specs.Rules.{Rule, nothing, down, split, as_possible, as_necessary, priest}
use Rattle.definition.specs.Modality.{occurs}
use Rattle.definition.specs.Contradiction.{Pair, is_pair, pairs, get_contradictory_node_ids}
use Rattle.definition.specs.Run.{State, full, final, enough_steps}
use Rattle.definition.specs.Call.{Answer, refusal, verdict, answer_of, answer, lengths_of}
use Rattle.definition.specs.Claim.{Proved}
use Rattle.definition.specs.Countermodel.{keeps_edges, read_off, first_open, Countermodel}
use Rattle.definition.specs.Finished.{InTime, Open, Finished}
use Rattle.definition.specs.Completeness.{HasCountermodel, HasModel, Complete, ExactInTime}
use Rattle.definition.specs.Fits.{RecordFits}
use Rattle.definition.proofs.Basics.Lists.{true_false, either, and_left, and_right, and_both, some_among, each_map, each_of_map, each_of, each_among, among_elem}
use Rattle.definition.proofs.Run.Accepted.{Accepted}
use Rattle.definition.proofs.Soundness.Priest.{Claims}
use Rattle.definition.proofs.Soundness.Edges.{init_worlds}
use Rattle.definition.proofs.Soundness.Theorem.{demand_3}
use Rattle.definition.proofs.Run.Stepping.{not_full}
use Rattle.definition.specs.TreeShape.{spots, In, Treed, Bare}
use Rattle.definition.proofs.Tree.Shape.{leaves_bare}
use Rattle.definition.specs.Shortcuts.{pair_of}
use Rattle.definition.proofs.Paths.Pairs.{path_there}
use Rattle.definition.proofs.Call.Outcomes.{answered, final_bounded}
use Rattle.definition.proofs.Call.Late.{open_is_finished_lem}
use Rattle.definition.proofs.Completeness.On.{On, OpenLeaf, on_occurs, elem_occurs, keeps_of}
use Rattle.definition.proofs.Completeness.Hintikka.{hintikka}
use Rattle.definition.proofs.Completeness.Atoms.{on_says, denies}
use Rattle.definition.proofs.Completeness.Frames.{Frame}
use Rattle.definition.proofs.Completeness.Queued.{Waits}
use Rattle.definition.proofs.Completeness.Settled.{begun, Occurs, Met, Served}
use Rattle.definition.proofs.Completeness.Run.{Good, good_run}

-- ---- the model that a path shows
beq_refl : (a : Bool) → beq a a ≡ true
beq_refl true = refl
beq_refl false = refl

beq_eq : (a b : Bool) → beq a b ≡ true → a ≡ b
beq_eq true true e = refl
beq_eq true false e = sym e
beq_eq false true e = e
beq_eq false false e = refl

module _ (F : Setting) (s : State) (l : ℕ) where
  abbrev M : Model
  M = read_off F s l

  abbrev live : Bool
  live = keeps_edges F s.nodes (path s.nodes l)

  abbrev there : ℕ → Bool
  there = occurs s.nodes none (path s.nodes l)

  -- an edge of it: the model has edges, there is one in the graph, and both ends occur on the path, or neither does
  reach_is : (u v : ℕ) → live ≡ true → edge (begun F s) u v ≡ true → there u ≡ there v → M.reach u v ≡ true
  unfolding read_off
  reach_is u v y e o = and_both live _ y (and_both (edge (begun F s) u v) _ e (subst (λ (b : Bool). beq (there u) b ≡ true) o (beq_refl (there u))))

  reach_of : (u v : ℕ) → M.reach u v ≡ true → (live ≡ true) × (edge (begun F s) u v ≡ true) × (there u ≡ there v)
  unfolding read_off
  reach_of u v e = let r = and_right live _ e in (and_left live _ e, and_left (edge (begun F s) u v) _ r, beq_eq (there u) (there v) (and_right (edge (begun F s) u v) _ r))

  read_has : Frame F (begun F s) → Has F M
  unfolding read_off partial_equivalence
  read_has f =
      record {
        reflexive = λ q u i. reach_is u u (keeps_of F s.nodes (path s.nodes l) (inl (loops F.symmetric F.transitive q))) (f.reflexive q u i) refl;
        symmetric = λ q u v i j e. let a = reach_of u v e in reach_is v u a.0 (f.symmetric q u v a.1) (sym a.2);
        transitive = λ q u v w i j k e d. let a = reach_of u v e in let b = reach_of v w d in reach_is u w a.0 (f.transitive q u v w a.1 b.1) (a.2 ∙ b.2);
      }
    where
      loops : (a b : Bool) → F.reflexive ≡ true → (a && (b && not F.reflexive)) ≡ false
      loops false b q = refl
      loops true false q = refl
      loops true true q = ap not q

-- ---- the end of the run
module _ (F : Setting) (rs₀ : List Rec) (s : State) (g : Good F rs₀ s) (small : length s.nodes ≤ most_identifiers) (skip : F.skip ≡ false) (kinds : Each (λ (r : Rec). number_of r.kind ≤ 8) s.formulas) (idle : empty s.waiting ≡ true) where
  abbrev t : List Node
  t = s.nodes

  abbrev rs : List Rec
  rs = s.formulas

  tree : Treed t
  tree = g.fit.treed small

  -- an open leaf, the first one
  open_leaf : s.proved ≡ false → (l : ℕ) × (first_open s ≡ some l) × OpenLeaf s l
  unfolding pairs first_open is_pair pair_of
  open_leaf e = go (leaves t) (leaves_bare t tree) (sym (g.watch skip (omega arith)).told ∙ e)
    where
      pair : ℕ → Option Pair
      pair l = get_contradictory_node_ids rs t (path t l)

      go : (ls : List ℕ) → Each (Bare (spots t)) ls → all is_pair (map pair ls) ≡ false → (l : ℕ) × (find (λ l. not (is_pair (pair l))) ls ≡ some l) × OpenLeaf s l
      go [] b h = true_false h
      go (l ∷ ls) b h = at (pair l) refl h (go ls b.1)
        where
          at : (o : Option Pair) → pair l ≡ o → all is_pair (o ∷ map pair ls) ≡ false → (all is_pair (map pair ls) ≡ false → (m : ℕ) × (find (λ l. not (is_pair (pair l))) ls ≡ some m) × OpenLeaf s m) →
              (m : ℕ) × (cond (not (is_pair o)) (some l) (find (λ l. not (is_pair (pair l))) ls) ≡ some m) × OpenLeaf s m
          at none d h f = (l, refl, record { bare = b.0; unpaired = d })
          at (some q) d h f = f h

  module _ (l : ℕ) (o : OpenLeaf s l) where
    abbrev P : ℕ → Form → Type 0
    P = On s.formulas s.nodes l

    -- what a rule asks is what it claims in the model
    met_claims : (x w : ℕ) (r : Rule Form) → elem x (path t l) ≡ true → Occurs s l w → Met F s l x w r → Claims (read_off F s l) P w r
    unfolding read_off
    met_claims x w nothing on oc m = tt
    met_claims x w (down ps) on oc m = m
    met_claims x w (split ps qs) on oc m = m
    met_claims x w (as_possible p) on oc m =
        let v = m.0 in
        let ov = on_occurs rs t l v p m.3 in
        (v, (g.saturated.frame.within w v m.2).1, reach_is F s l w v (keeps_of F t (path t l) (inr (v, m.1, ov))) m.2 (oc ∙ sym ov), m.3)
    met_claims x w (as_necessary p) on oc m = λ v few reach.
        let a = reach_of F s l w v reach in
        let ov = sym a.2 ∙ oc in
        let (n, i, stored) = some_among s.necessities m in
        let y = each_among (Served F s) n s.necessities g.saturated.served i in
        let through = subst (λ (z : ℕ). elem z (path t l) ≡ true) (sym stored.spawner) on in
        subst (P v) stored.form (y.given l v o through (y.reached l v o through a.0 (subst (λ (z : ℕ). edge (begun F s) z v ≡ true) (sym stored.world) a.1) ov) ov)

    none_waits : (x : ℕ) (q : List ℕ) → empty q ≡ true → Waits q x → ⊥
    none_waits x [] e h = h
    none_waits x (y ∷ q) e h = true_false (sym e)

    closed : (w : ℕ) (p : Form) → P w p → Claims (read_off F s l) P w (priest p)
    closed w p h =
        let (x, i, says) = some_among (path t l) h in
        let on = among_elem x (path t l) i in
        elim (g.saturated.settled x (each_among (In (spots t)) x (path t l) (path_there t tree l o.bare.0) i)) [
          | inl a ↦ absurd (none_waits x s.waiting idle a)
          | inr a ↦
              subst (λ (w : ℕ). Claims (read_off F s l) P w (priest p)) says.world (subst (λ (f : Form). Claims (read_off F s l) P (node_at t x).world (priest f)) says.form
              (met_claims x (node_at t x).world (priest (form_at rs (node_at t x).formula)) on (elem_occurs t (path t l) x on) (a l o on says.named)))
        ]

    -- every formula that the path shows is true in the model read off it
    path_true : (w : ℕ) (p : Form) → P w p → truth (read_off F s l) p w ≡ true
    unfolding read_off pair_of
    path_true w p h =
        (hintikka (read_off F s l) P closed (on_says rs g.fit.bounded.sizes.wf kinds t l) (denies rs g.fit.bounded.sizes.wf kinds t l o.unpaired) p).0 w h

    countermodel : first_open s ≡ some l → Countermodel F rs₀ s l
    unfolding read_off
    countermodel first = record { first = first; has = read_has F s l g.saturated.frame; world_zero = (init_worlds F s.graph).0; satisfied = each_of_map _ (form_at rs₀) (marks rs₀) (each_map (λ f. path_true 0 (form_at rs₀ f)) (marks rs₀) (g.roots l o)) }

-- ---- the run of an accepted branch
accepted_kinds : (branch : List ℕ) (flags : ℕ) (lent : Lengths) → Accepted branch flags lent → Each (λ (r : Rec). number_of r.kind ≤ 8) (decode branch)
unfolding rec_at
accepted_kinds branch flags lent a = each_of (λ (r : Rec). number_of r.kind ≤ 8) (made Unknown 0 0) (decode branch) (λ i h. (a.records i h).kind)

pub run_complete : (branch : List ℕ) (flags : ℕ) (lent : Lengths) → let z = final (setting_of flags) (decode branch) in
    Accepted branch flags lent → (setting_of flags).skip ≡ false → full z ≡ false → z.proved ≡ false → Finished (setting_of flags) (decode branch) → HasCountermodel (setting_of flags) (decode branch)
unfolding final
run_complete branch flags lent a skip room unproved idle =
    let F = setting_of flags in
    let rs = decode branch in
    let z = final F rs in
    let few = not_full z room in
    let g = good_run F rs skip a.marked a.few (λ i l. (a.records i l).links) enough_steps (omega arith) in
    let kinds = (final_bounded branch flags lent a room (λ (r : Rec). number_of r.kind ≤ 8) (λ r (q : RecordFits r). q.kind) (accepted_kinds branch flags lent a)).sizes.records in
    let l = open_leaf F rs z g few skip kinds idle unproved in
    (l.0, countermodel F rs z g few skip kinds idle l.0 l.2 l.1)

-- ---- the call
pub complete : Complete
unfolding answer_of
complete branch flags lent skip h = let (a, room, (unproved, _)) = answered Open (λ n i q. q) branch flags lent h in run_complete branch flags (lengths_of lent) a skip room unproved (open_is_finished_lem branch flags lent h)

-- what is read off the first open path is a model
pub has_model : (F : Setting) (rs : List Rec) → HasCountermodel F rs → HasModel F (branch_of rs)
has_model F rs (l, k) = (read_off F (final F rs) l, k.has, 0, k.world_zero, k.satisfied)

in_time : (a : Answer) → InTime a → Proved a ⊎ Open a
in_time (refusal number place) h = absurd h
in_time (verdict v) h = ⊎_map (λ q. q) (λ q. (q, h)) (either v.proved)

pub exact : ExactInTime
exact branch flags lent checks total timely = (
  demand_3 branch flags lent,
  λ never. elim (in_time (answer branch flags lent) timely) [
    | inl q ↦ q
    | inr q ↦ let (l, k) = complete branch flags lent checks q in absurd (never (read_off (setting_of flags) (final (setting_of flags) (decode branch)) l) k.has 0 k.world_zero (λ e. true_false (sym e ∙ total)) k.satisfied)
  ],
)
