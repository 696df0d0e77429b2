-- A necessity given on its paths: the worlds that it has still to visit.
use Prim.Native.Nat.{ℕ, zero, suc, ◌≤◌}
use mathlib.Core.Path.{◌≡◌, refl, sym, ap, ◌∙◌, subst}
use mathlib.Core.Bool.{Bool, true, false, cond}
use mathlib.Core.List.{List, [], ◌∷◌, ◌++◌, append-nil}
use mathlib.Core.Option.{Option, some}
use native.Mathlib.Omega.{arith}
use lib.ListN.{length, get_or, set, length-append}
use Rattle.definition.specs.Limits.{most_identifiers}
use Rattle.definition.specs.Lists.{Each, empty, filter, elem}
use Rattle.definition.specs.Graph.{Graph}
use Rattle.definition.specs.Tree.{Node, leaves, path}
use Rattle.definition.specs.Modality.{Necessity, Fork, Reapplication, runs_through, unvisited, give_on, leaves_of, reapply_necessity, visiting, is_reapplied, reapply_if_on_path}
use Rattle.definition.proofs.Basics.Lists.{cond_both, filter_keeps}
use Rattle.definition.specs.TreeShape.{Treed}
use Rattle.definition.proofs.Tree.Shape.{leaves_few}
use Rattle.definition.specs.Shortcuts.{ThroughSpawner}
use Rattle.definition.proofs.Engine.Reapplied.{spawned_leaves}
use Rattle.arrays.specs.Listed.{Listed}
use Rattle.arrays.proofs.Tabled.{tabled_fits}
use Rattle.tree.specs.Lay.{Laid, HasNodes}
use Rattle.tree.specs.declared.ProofTree.{ProofTree}
use Rattle.tree.proofs.Paths.{listed_as}
use Rattle.tree.proofs.Nodes.{held_lays, held_as}
use Rattle.necessities.specs.Stack.{HasStack, visits}
use Rattle.necessities.specs.declared.Necessities.{Necessities}
use Rattle.subtree.specs.Items.{Item, Listing}
use Rattle.subtree.specs.declared.Items.{Items}
use Rattle.tree.specs.Stands.{Stands}
use Rattle.logic.specs.Gave.{Gave}
use Rattle.logic.proofs.Giving.{nothing_given}

pub filter_few : {A : Type 0} (p : A → Bool) (xs : List A) → length (filter p xs) ≤ length xs
filter_few p [] = omega arith
filter_few p (x ∷ xs) = go (p x) (filter_few p xs)
  where
    go : (b : Bool) → length (filter p xs) ≤ length xs → length (cond b (x ∷ filter p xs) (filter p xs)) ≤ length (x ∷ xs)
    go true h = omega (arith, h)
    go false h = omega (arith, h)

-- what is given
pub gave_again : (t : List Node) (fk : Option Fork) (g : Graph) (n : Necessity) {ws : List ℕ} → ws ≡ unvisited g n → {ns : List Node} {rs : List Item} {u : ProofTree} {x : Items} →
    Gave ns rs (give_on t fk n ws (length ns) (leaves_of t n)) u x → Gave ns rs (reapply_necessity t g fk (length ns) n) u x
unfolding reapply_necessity
gave_again t fk g n e {ns} {rs} {u} {x} h = subst (λ (ws : List ℕ). Gave ns rs (give_on t fk n ws (length ns) (leaves_of t n)) u x) e h

-- and what is stored then
no_length : {A : Type 0} (xs : List A) → length xs ≡ 0 → xs ≡ []
no_length [] e = refl
no_length (x ∷ xs) e = absurd (omega (arith, e))

module _ (t : List Node) (g : Graph) (n : Necessity) where
  abbrev more : List ℕ
  more = cond (empty (leaves_of t n)) [] (unvisited g n)

  visiting_none : more ≡ [] → n ≡ visiting t g n
  unfolding visiting
  visiting_none e = sym (rw (e, append-nil n.visited) refl)

  -- nothing to visit, or no path to visit it on
  pub visiting_idle : unvisited g n ≡ [] → n ≡ visiting t g n
  visiting_idle e = visiting_none (go (empty (leaves_of t n)))
    where
      go : (b : Bool) → cond b [] (unvisited g n) ≡ []
      go true = refl
      go false = e

  pub visiting_nowhere : length (leaves_of t n) ≡ 0 → n ≡ visiting t g n
  visiting_nowhere e = visiting_none (ap (λ (l : List ℕ). cond (empty l) [] (unvisited g n)) (no_length (leaves_of t n) e))

  pub visiting_some : {ws : List ℕ} → ws ≡ unvisited g n → (length (leaves_of t n) ≡ 0 → ⊥) → visits n ws ≡ visiting t g n
  unfolding visits visiting
  visiting_some e h = ap (visits n) e ∙ go (leaves_of t n) h
    where
      go : (l : List ℕ) → (length l ≡ 0 → ⊥) →
          visits n (unvisited g n) ≡ record { formula = n.formula; world = n.world; spawner = n.spawner; leaves = n.leaves; visited = n.visited ++ cond (empty l) [] (unvisited g n) }
      go [] h = absurd (h refl)
      go (x ∷ l) h = refl

-- the tree as it stood before the step
pub stands : (t more : List Node) {base : ℕ} {u : ProofTree} → length t ≡ base → HasNodes (t ++ more) u → u.len ≤ most_identifiers → Stands t base u
stands t more b h small = record { more = more; count = b; lays = held_lays h small }

-- the tree as it stands
pub stands_now : (t : List Node) {base : ℕ} {u : ProofTree} → length t ≡ base → Laid t u → Stands t base u
stands_now t b laid = record { more = []; count = b; lays = rw append-nil laid }

-- the paths of a necessity, known by its spawner
module _ (t : List Node) (tree : Treed t) (n : Necessity) (at : ThroughSpawner t n) {y : ℕ} (e : y ≡ n.spawner) where
  pub paths_own : {r : ℕ} {o : List ℕ} → Listed (filter (λ leaf. elem y (path t leaf)) (leaves t)) r o → Listed (leaves_of t n) r o
  paths_own l = listed_as (leaves_of t n) (ap (λ (x : ℕ). filter (λ leaf. elem x (path t leaf)) (leaves t)) e ∙ sym (spawned_leaves t tree n at)) l

pub paths_few : (t : List Node) → Treed t → (n : Necessity) {base : ℕ} {u : ProofTree} → Stands t base u → {r : ℕ} {o : List ℕ} → Listed (leaves_of t n) r o → r ≤ most_identifiers
unfolding leaves_of
paths_few t tree n d k = tabled_fits k (omega (arith, filter_few (λ leaf. runs_through n (path t leaf)) (leaves t), leaves_few t tree, d.lays.fits, length-append t d.more))

pub paths_seen : (P : ℕ → Type 0) (t : List Node) (n : Necessity) → Each P (leaves t) → Each P (leaves_of t n)
unfolding leaves_of
paths_seen P t n h = filter_keeps P (λ leaf. runs_through n (path t leaf)) (leaves t) h

set_same : (ns : List Necessity) (i : ℕ) (none : Necessity) → ns ≡ set ns i (get_or ns i none)
set_same [] zero none = refl
set_same [] (suc i) none = refl
set_same (n ∷ ns) zero none = refl
set_same (n ∷ ns) (suc i) none = ap (λ (l : List Necessity). n ∷ l) (set_same ns i none)

-- the stack where entry i changes, or does not
pub stack_set : (ns : List Necessity) (i : ℕ) {n m : Necessity} → n ≡ m → {w : Necessities} → HasStack (set ns i n) w → HasStack (set ns i m) w
stack_set ns i e {w} s = subst (λ (k : Necessity). HasStack (set ns i k) w) e s

pub stack_same : (ns : List Necessity) (i : ℕ) (none : Necessity) {m : Necessity} → get_or ns i none ≡ m → {w : Necessities} → HasStack ns w → HasStack (set ns i m) w
stack_same ns i none e {w} s = subst (λ (ms : List Necessity). HasStack ms w) (set_same ns i none ∙ ap (set ns i) e) s

module _ (t : List Node) (g : Graph) (fk : Fork) (ns : List Necessity) (i : ℕ) (none : Necessity) where
  abbrev n : Necessity
  n = get_or ns i none

  abbrev then : Bool → Necessity
  then b = cond b (visiting t g n) n

  -- not given again
  pub kept_out : {ms : List Node} {rs : List Item} {u : ProofTree} {x : Items} {b : Bool} → b ≡ is_reapplied t fk n → b ≡ false → HasNodes ms u → (u.len ≤ most_identifiers → Listing rs [] x u.len) →
      Gave ms rs (reapply_if_on_path t g fk (length ms) n) u x
  unfolding reapply_if_on_path
  kept_out {ms} {rs} {u} {x} e f h l =
      subst (λ (b : Bool). Gave ms rs (cond b (reapply_necessity t g (some fk) (length ms) n) (record { nodes = []; subtrees = [] })) u x) (sym f ∙ e)
      (record { nodes = held_as (ms ++ []) (sym (append-nil ms)) h; rows = l })

  pub stack_out : {w : Necessities} {b : Bool} → b ≡ is_reapplied t fk n → b ≡ false → HasStack ns w → HasStack (set ns i (then (is_reapplied t fk n))) w
  stack_out e f s = stack_same ns i none (ap then (sym f ∙ e)) s

  -- given again
  pub kept_in : {ms : List Node} {rs : List Item} {u : ProofTree} {x : Items} {b : Bool} → b ≡ is_reapplied t fk n → b ≡ true → Gave ms rs (reapply_necessity t g (some fk) (length ms) n) u x →
      Gave ms rs (reapply_if_on_path t g fk (length ms) n) u x
  unfolding reapply_if_on_path
  kept_in {ms} {rs} {u} {x} e f h =
      subst (λ (b : Bool). Gave ms rs (cond b (reapply_necessity t g (some fk) (length ms) n) (record { nodes = []; subtrees = [] })) u x) (sym f ∙ e) h

  pub stack_in : {w : Necessities} {b : Bool} → b ≡ is_reapplied t fk n → b ≡ true → HasStack (set ns i (visiting t g n)) w → HasStack (set ns i (then (is_reapplied t fk n))) w
  stack_in e f s = stack_set ns i (ap then (sym f ∙ e)) s

  -- no world to visit: given again or not, nothing comes of it
  pub kept_idle : unvisited g n ≡ [] → {ms : List Node} {rs : List Item} {u : ProofTree} {x : Items} → HasNodes ms u → (u.len ≤ most_identifiers → Listing rs [] x u.len) →
      Gave ms rs (reapply_if_on_path t g fk (length ms) n) u x
  unfolding reapply_if_on_path reapply_necessity
  kept_idle e {ms} {rs} {u} {x} h l =
      cond_both (λ (m : Reapplication). Gave ms rs m u x) (is_reapplied t fk n) (give_on t (some fk) n (unvisited g n) (length ms) (leaves_of t n)) (record { nodes = []; subtrees = [] })
      (subst (λ (ws : List ℕ). Gave ms rs (give_on t (some fk) n ws (length ms) (leaves_of t n)) u x) (sym e) (nothing_given t (some fk) n (leaves_of t n) (length ms) h l))
      (record { nodes = held_as (ms ++ []) (sym (append-nil ms)) h; rows = l })

  pub stack_idle : unvisited g n ≡ [] → {w : Necessities} → HasStack ns w → HasStack (set ns i (then (is_reapplied t fk n))) w
  stack_idle e s = stack_same ns i none (go (is_reapplied t fk n)) s
    where
      go : (b : Bool) → n ≡ then b
      go true = visiting_idle t g n e
      go false = refl
