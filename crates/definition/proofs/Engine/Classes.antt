-- What a step queues stands behind what waits, and a waiting node keeps its class.
use mathlib.Core.Path.{◌≡◌, refl, sym, ap, ◌∙◌}
use mathlib.Core.List.{List, [], ◌∷◌, ◌++◌, map, append-nil, append_assoc}
use mathlib.Core.Logic.{⊎_elim}
use Prim.Native.Nat.{ℕ, ◌<◌}
use borrow.Author.Tests.{eqb-false}
use lib.ListN.{length}
use Rattle.definition.specs.Lists.{Each, filter}
use Rattle.definition.specs.Records.{nobody, is_nobody, Non, Rec, number_of, is, arity, rec_at, formula_of}
use Rattle.definition.specs.Setting.{Setting}
use Rattle.definition.specs.Tree.{Node, node_at, leaves}
use Rattle.definition.specs.Contradiction.{pairs}
use Rattle.definition.specs.Subtree.{Subtree, Targeted, flat, turned, numbered, copied, append_subtree_on_leaf, push_subtree, append_copies, append_on, takes, append_subtree, append_logic_rule_result}
use Rattle.definition.specs.Queue.{Popped, priority_of, get_node_priority}
use Rattle.definition.specs.Run.{State, apply, checked_for_contradictions, check_for_contradictions, appended}
use Rattle.definition.specs.Fits.{Number}
use Rattle.definition.proofs.Basics.Lists.{either, each_map, each_any}
use Rattle.definition.proofs.Tree.Nodes.{mark_keeps}
use Rattle.definition.proofs.Run.Stepping.{checked_both}
use Rattle.definition.proofs.Basics.Forms.{WellFormed}
use Rattle.definition.proofs.Call.Room.{Fit}
use Rattle.definition.proofs.Paths.Pairs.{rec_append, link_same, Stem, appended_grown}

-- w is q, and perhaps more behind it
abbrev Behind : List ℕ → List ℕ → Type 0
Behind q w = (more : List ℕ) × (w ≡ q ++ more)

behind_push : (q xs : List ℕ) {w : List ℕ} → Behind (q ++ xs) w → Behind q w
behind_push q xs (more, e) = (xs ++ more, e ∙ append_assoc q xs more)

copies_behind : (ls : List ℕ) (t : List Node) (q : List ℕ) (s : Subtree) → Behind q (append_copies t q ls s).waiting
unfolding append_copies push_subtree
copies_behind [] t q s = ([], sym (append-nil q))
copies_behind (y ∷ ls) t q s =
    let c = numbered (length t) s in
    behind_push q (flat (turned c)) (copies_behind ls (append_subtree_on_leaf (t ++ map (copied t) (flat s)) y c) (q ++ flat (turned c)) s)

on_behind : (ls : List ℕ) (t : List Node) (q : List ℕ) (s : Subtree) → Behind q (append_on t q ls s).waiting
unfolding append_on push_subtree
on_behind [] t q s = (flat (turned s), refl)
on_behind (y ∷ ls) t q s = behind_push q (flat (turned s)) (copies_behind ls (append_subtree_on_leaf t y s) (q ++ flat (turned s)) s)

result_behind : (rs : List Targeted) (t : List Node) (q : List ℕ) → Behind q (append_logic_rule_result t q rs).waiting
unfolding append_logic_rule_result append_subtree
result_behind [] t q = ([], sym (append-nil q))
result_behind (r ∷ rs) t q =
    let ls = filter (takes t r.target) (leaves t) in
    let p = append_on t q ls r.subtree in
    let one = on_behind ls t q r.subtree in
    let rest = result_behind rs p.nodes p.waiting in
    (one.0 ++ rest.0, rest.1 ∙ ap (λ (w : List ℕ). w ++ rest.0) one.1 ∙ append_assoc q one.0 rest.0)

-- what a step queues stands behind the others
pub queued : (F : Setting) (s : State) (p : Popped) → (more : List ℕ) × ((appended F s p).waiting ≡ p.others ++ more)
unfolding appended
queued F s p = result_behind (apply F s p.node).subtrees (s.nodes ++ (apply F s p.node).nodes) p.others

-- appended records change no class: links go to earlier records
module _ (F : Setting) (rs more : List Rec) (wf : WellFormed rs) where
  record_class : (i : ℕ) → i < length rs → priority_of F (rs ++ more) (rec_at rs i) ≡ priority_of F rs (rec_at rs i)
  unfolding priority_of arity number_of
  record_class i h = ⊎_elim (λ q. let l = link_same rs more wf Non i h q in rw (q, l.0.1)) (λ q. rw q) (either (is Non (rec_at rs i)))

  formula_class : (f : ℕ) → Number (length rs) f → priority_of F (rs ++ more) (formula_of (rs ++ more) f) ≡ priority_of F rs (formula_of rs f)
  unfolding formula_of priority_of number_of
  formula_class f n =
      ⊎_elim (λ q. rw q refl) (λ q.
      let h : f < length rs = ⊎_elim (λ e. absurd (eqb-false f nobody q e)) (λ h. h) n in
      rw (q, rec_append rs more wf f h) (record_class f h)) (either (is_nobody f))

map_like : (f g : ℕ → ℕ) (q : List ℕ) → Each (λ x. f x ≡ g x) q → map f q ≡ map g q
map_like f g [] h = refl
map_like f g (x ∷ q) h = rw (h.0, map_like f g q h.1)

pub classes_appended : (F : Setting) (k : ℕ) (s : State) (p : Popped) → Fit F k s → (q : List ℕ) → Each (λ x. x < length s.nodes) q →
    map (get_node_priority F (appended F s p).formulas (appended F s p).nodes) q ≡ map (get_node_priority F s.formulas s.nodes) q
unfolding appended get_node_priority
classes_appended F k s p fit q known =
    let z = fit.bounded.sizes in
    let g = appended_grown F s p in
    map_like _ _ q (each_map {Q = λ x. get_node_priority F (appended F s p).formulas (appended F s p).nodes x ≡ get_node_priority F s.formulas s.nodes x}
    (λ x (l : x < length s.nodes).
    ap (λ (f : ℕ). priority_of F (appended F s p).formulas (formula_of (appended F s p).formulas f)) (ap (λ (n : Stem). n.formula) (g.stems x l))
    ∙ formula_class F s.formulas (apply F s p.node).formulas z.wf (node_at s.nodes x).formula (z.labels x l).formula) q known)

pub classes_checked : (F : Setting) (s : State) (q : List ℕ) →
    map (get_node_priority F (check_for_contradictions F s).formulas (check_for_contradictions F s).nodes) q ≡ map (get_node_priority F s.formulas s.nodes) q
unfolding checked_for_contradictions get_node_priority
classes_checked F s q =
    checked_both (λ (z : State). map (get_node_priority F z.formulas z.nodes) q ≡ map (get_node_priority F s.formulas s.nodes) q) F s refl
    (map_like _ _ q (each_any (λ x. get_node_priority F s.formulas (checked_for_contradictions s).nodes x ≡ get_node_priority F s.formulas s.nodes x)
    (λ x. ap (λ (f : ℕ). priority_of F s.formulas (formula_of s.formulas f)) (mark_keeps (λ (n : Node). n.formula) (λ j n. refl) (pairs s.formulas s.nodes (leaves s.nodes)) s.nodes x)) q))
