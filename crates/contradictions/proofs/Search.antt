-- The search of a path for a pair.
use Prim.Native.Nat.{ℕ, zero, suc, ◌+◌, ◌-◌, ◌<◌, ◌≤◌}
use mathlib.Core.Path.{◌≡◌, refl, sym, ap, ◌∙◌, subst}
use mathlib.Core.Bool.{Bool, true, false, cond, ◌&&◌, and-false}
use mathlib.Core.List.{List, [], ◌∷◌, ◌++◌, reverse, reverse-append}
use mathlib.Core.Option.{Option, none, some, map}
use mathlib.Core.Logic.{◌⊎◌, inl, inr, ⊎_elim, ◌≢◌}
use native.Mathlib.Omega.{arith}
use lib.Dec.{eqb}
use borrow.Author.Tests.{eqb-true}
use lib.ListN.{length, drop, get_or-eq_default}
use Rattle.definition.specs.Limits.{most_identifiers}
use Rattle.definition.specs.Lists.{find, or_else, empty}
use Rattle.definition.specs.Records.{Rec, nobody, is_nobody, formula_of}
use Rattle.definition.specs.Tree.{Node, node_at, upward, path}
use Rattle.definition.specs.Contradiction.{Pair, pair, said, denied, opposed, are_formulas_contradictory, are_nodes_contradictory, is_pair, get_contradictory_node_ids}
use Rattle.definition.proofs.Basics.Lists.{true_false, alike, either, and_left, and_right}
use Rattle.definition.proofs.Tree.Nodes.{blank}
use Rattle.definition.specs.TreeShape.{spots, In}
use Rattle.definition.proofs.Tree.Shape.{depth_low}
use Rattle.definition.specs.Shortcuts.{earlier, partner, pair_of, NoPairAbove}
use Rattle.definition.proofs.Paths.Pairs.{path_nobody, pair_below}
use Rattle.tree.proofs.Paths.{up_nobody, climb_none, climb_next, climb_end}
use Rattle.std.specs.Prelude as Rust
use Rattle.std.specs.Option.{is_some}
use Rattle.semantics.specs.declared.Claim.{Claim}
use Rattle.semantics.specs.Literal.{atoms_in, Claims}
use Rattle.contradictions.specs.declared.Contradiction.{Contradiction}
use Rattle.contradictions.specs.Found.{found}

-- ---- the way up
-- what is above x
up_tail : (t : List Node) (d x : ℕ) → length t ≤ most_identifiers → drop 1 (upward d t x) ≡ upward (d - 1) t (node_at t x).parent
unfolding upward
up_tail t zero x h = refl
up_tail t (suc d) x h = ⊎_elim (λ e. none_above e) (λ e. rw e (ap (λ (k : ℕ). upward k t (node_at t x).parent) same)) (either (is_nobody x))
  where
    same : d ≡ suc d - 1
    same = omega arith

    none_above : is_nobody x ≡ true → drop 1 (cond (is_nobody x) [] (x ∷ upward d t (node_at t x).parent)) ≡ upward (suc d - 1) t (node_at t x).parent
    none_above e =
        let q : x ≡ nobody = eqb-true x nobody e in
        let out : node_at t x ≡ blank = get_or-eq_default t blank {n = x} (omega (arith, h, q)) in
        rw e (sym (up_nobody t (suc d - 1) (node_at t x).parent (rw out)))

-- ---- two nodes
module _ (rs : List Rec) (t : List Node) (x y : ℕ) {v w : ℕ} {b : Bool} (ev : v ≡ (node_at t x).world) (ew : w ≡ (node_at t y).world) (e : b ≡ eqb v w) where
  pub other_world : b ≡ false → b ≡ are_nodes_contradictory rs t x y
  unfolding are_nodes_contradictory
  other_world h = rw (← ev, ← ew, ← e, h) refl

  pub same_world : {r : Bool} {g : ℕ} → b ≡ true → g ≡ (node_at t y).formula →
      r ≡ are_formulas_contradictory rs (formula_of rs (node_at t x).formula) (formula_of rs g) → r ≡ are_nodes_contradictory rs t x y
  unfolding are_nodes_contradictory
  same_world h eg er = rw (← ev, ← ew, ← e, h, ← eg) er

pub claims_as : (rs : List Rec) {f g : ℕ} {c : Claim} → f ≡ g → Claims rs (formula_of rs f) c → Claims rs (formula_of rs g) c
claims_as rs {c = c} e k = subst (λ (v : ℕ). Claims rs (formula_of rs v) c) e k

-- ---- the climb of `find_above`: the first that is found from the root on among what is left, and else the last one met
else_none : {A : Type 0} (o : Option A) → or_else o none ≡ o
else_none none = refl
else_none (some x) = refl

find_snoc : (p : ℕ → Bool) (xs : List ℕ) (y : ℕ) → find p (xs ++ (y ∷ [])) ≡ or_else (find p xs) (cond (p y) (some y) none)
find_snoc p [] y = refl
find_snoc p (x ∷ xs) y = go (p x) (find_snoc p xs y)
  where
    go : (b : Bool) → find p (xs ++ (y ∷ [])) ≡ or_else (find p xs) (cond (p y) (some y) none) →
        cond b (some x) (find p (xs ++ (y ∷ []))) ≡ or_else (cond b (some x) (find p xs)) (cond (p y) (some y) none)
    go true e = refl
    go false e = e

module _ (rs : List Rec) (t : List Node) (x : ℕ) where
  hit_or : (o : Option ℕ) (b : Bool) (y : ℕ) (last : Option Pair) → or_else (map (pair x) (or_else o (cond b (some y) none))) last ≡ or_else (map (pair x) o) (cond b (some (pair x y)) last)
  hit_or (some z) b y last = refl
  hit_or none true y last = refl
  hit_or none false y last = refl

  abbrev against : ℕ → Bool
  against = are_nodes_contradictory rs t x

  abbrev sought : Option Pair → List ℕ → Option Pair
  sought last xs = or_else (map (pair x) (find against (reverse xs))) last

  pub record Seeking (len cur : ℕ) (last : Option Pair) (k : ℕ) : Type 0 where
    pub rest : sought last (upward (len - k) t cur) ≡ map (pair x) (partner rs t x)

  pub seeking_start : (len cur : ℕ) → length t ≡ len → length t ≤ most_identifiers → cur ≡ (node_at t x).parent → Seeking len cur none 1
  unfolding partner earlier path
  seeking_start len cur e h c =
      record {
        rest =
            rw c (else_none (map (pair x) (find against (reverse (upward (len - 1) t (node_at t x).parent))))
            ∙ ap (λ (xs : List ℕ). map (pair x) (find against (reverse xs))) (ap (λ (n : ℕ). upward (n - 1) t (node_at t x).parent) (sym e) ∙ sym (up_tail t (length t) x h)));
      }

  module _ {len cur k : ℕ} {last : Option Pair} (s : Seeking len cur last k) where
    pub seeking_none : {b : Bool} → b ≡ is_nobody cur → b ≡ true → last ≡ map (pair x) (partner rs t x)
    seeking_none e h = climb_none t (sought last) len k cur s.rest e h

    pub seeking_end : len ≤ k → last ≡ map (pair x) (partner rs t x)
    seeking_end h = climb_end t (sought last) len k cur s.rest h

    pub seeking_next : {b hit : Bool} {now : Option Pair} (up : ℕ) → k < len → b ≡ is_nobody cur → b ≡ false → hit ≡ against cur → now ≡ cond hit (some (pair x cur)) last → up ≡ (node_at t cur).parent → Seeking len up now (k + 1)
    seeking_next {b} {hit} {now} up h e node q z u =
        let more = upward (len - (k + 1)) t up in
        record {
          rest =
              rw z (sym (hit_or (find against (reverse more)) hit cur last)
              ∙ ap (λ (c : Bool). or_else (map (pair x) (or_else (find against (reverse more)) (cond c (some cur) none))) last) q
              ∙ ap (λ (o : Option ℕ). or_else (map (pair x) o) last) (sym (find_snoc against (reverse more) cur) ∙ ap (find against) (sym (reverse-append (cur ∷ []) more)))
              ∙ climb_next t (sought last) len k cur s.rest h e node up u);
        }

  -- a formula that says and denies nothing
  nothing_found : ((y : ℕ) → against y ≡ false) → (ys : List ℕ) → find against ys ≡ none
  nothing_found h [] = refl
  nothing_found h (y ∷ ys) = rw (h y) (nothing_found h ys)

  no_atoms : (xs : List ℕ) → empty xs ≡ true → (ys : List ℕ) → (opposed xs ys ≡ false) × (opposed ys xs ≡ false)
  unfolding opposed
  no_atoms [] e [] = (refl, refl)
  no_atoms [] e (y ∷ ys) = (refl, refl)
  no_atoms (z ∷ zs) e ys = true_false (sym e)

  pub no_literal : {c : Claim} {b : Bool} → Claims rs (formula_of rs (node_at t x).formula) c → b ≡ (empty (atoms_in c.says) && empty (atoms_in c.denies)) → b ≡ true →
      none ≡ map (pair x) (partner rs t x)
  unfolding partner are_nodes_contradictory are_formulas_contradictory
  no_literal {c} k e h =
      let p = formula_of rs (node_at t x).formula in
      let both = sym e ∙ h in
      let s : empty (said rs p) ≡ true = ap (empty {A = ℕ}) (sym k.says) ∙ and_left _ _ both in
      let d : empty (denied rs p) ≡ true = ap (empty {A = ℕ}) (sym k.denies) ∙ and_right (empty (atoms_in c.says)) _ both in
      ap (map (pair x)) (sym (nothing_found (λ y.
      let q = formula_of rs (node_at t y).formula in
      rw ((no_atoms (said rs p) s (denied rs q)).0, (no_atoms (denied rs p) d (said rs q)).1) (and-false (eqb (node_at t x).world (node_at t y).world))) (earlier t x)))

-- ---- a pair, if one was found
pub some_pair : (o : Rust.Option Contradiction) → is_some o ≡ is_pair (found o)
unfolding is_pair
some_pair Rust.None = refl
some_pair (Rust.Some c) = refl

-- ---- the loop of `get_contradictory_node_ids`: the pair of the leaf is that of cur, which is in the tree or its root's parent
pub record Searching (rs : List Rec) (t : List Node) (old leaf cur len k : ℕ) : Type 0 where
  pub over : NoPairAbove rs t old
  pub same : pair_of rs t cur ≡ pair_of rs t leaf
  pub at : (In (spots t) cur × (k + over.treed.depth cur < len) × ((old ≤ cur) ⊎ (pair_of rs t cur ≡ none))) ⊎ (cur ≡ nobody)

pub searching_start : (rs : List Rec) (t : List Node) (old leaf len : ℕ) → length t ≡ len → NoPairAbove rs t old → In (spots t) leaf → old ≤ leaf → Searching rs t old leaf leaf len 0
searching_start rs t old leaf len e a i l =
    record { over = a; same = refl; at = inl (i, omega (arith, e, depth_low t a.treed leaf i), inl l) }

pair_nobody : (rs : List Rec) (t : List Node) → pair_of rs t nobody ≡ none
unfolding pair_of get_contradictory_node_ids
pair_nobody rs t = rw (path_nobody t)

first : {b : Bool} (o rest : Option Pair) → b ≡ is_pair o → b ≡ true → or_else o rest ≡ o
unfolding is_pair
first none rest e h = true_false (sym h ∙ e)
first (some p) rest e h = refl

second : {b : Bool} (o rest : Option Pair) → b ≡ is_pair o → b ≡ false → or_else o rest ≡ rest
unfolding is_pair
second none rest e h = refl
second (some p) rest e h = true_false (sym e ∙ h)

module _ {rs : List Rec} {t : List Node} {old leaf cur len k : ℕ} (s : Searching rs t old leaf cur len k) where
  none_at : cur ≡ nobody → none ≡ pair_of rs t leaf
  none_at e = sym (pair_nobody rs t) ∙ ap (pair_of rs t) (sym e) ∙ s.same

  pub searching_none : {b : Bool} → b ≡ is_nobody cur → b ≡ true → none ≡ pair_of rs t leaf
  searching_none e h = none_at (eqb-true cur nobody (sym e ∙ h))

  pub searching_old : cur < old → none ≡ pair_of rs t leaf
  searching_old h =
      ⊎_elim (λ (a : In (spots t) cur × (k + s.over.treed.depth cur < len) × ((old ≤ cur) ⊎ (pair_of rs t cur ≡ none))).
      ⊎_elim (λ (l : old ≤ cur). absurd (omega arith)) (λ q. sym q ∙ s.same) a.2) none_at s.at

  pub searching_end : len ≤ k → none ≡ pair_of rs t leaf
  searching_end h =
      ⊎_elim (λ (a : In (spots t) cur × (k + s.over.treed.depth cur < len) × ((old ≤ cur) ⊎ (pair_of rs t cur ≡ none))). absurd (omega (arith, h, a.1))) none_at s.at

  module _ {b : Bool} (e : b ≡ is_nobody cur) (node : b ≡ false) where
    here : In (spots t) cur × (k + s.over.treed.depth cur < len)
    here =
        ⊎_elim (λ (a : In (spots t) cur × (k + s.over.treed.depth cur < len) × ((old ≤ cur) ⊎ (pair_of rs t cur ≡ none))). (a.0, a.1))
        (λ (q : cur ≡ nobody). true_false (sym (ap is_nobody q) ∙ sym e ∙ node)) s.at

    module _ (o : Option Pair) {c : Bool} (eo : o ≡ map (pair cur) (partner rs t cur)) (ec : c ≡ is_pair o) where
      step : or_else o (pair_of rs t (node_at t cur).parent) ≡ pair_of rs t leaf
      step = ap (λ (v : Option Pair). or_else v (pair_of rs t (node_at t cur).parent)) eo ∙ sym (pair_below t s.over.treed rs cur here.0) ∙ s.same

      pub searching_hit : c ≡ true → o ≡ pair_of rs t leaf
      searching_hit h = sym (first o (pair_of rs t (node_at t cur).parent) ec h) ∙ step

      pub searching_next : (up : ℕ) → c ≡ false → old ≤ cur → up ≡ (node_at t cur).parent → Searching rs t old leaf up len (k + 1)
      searching_next up h l u =
          let r = s.over.treed in
          rw u (record {
            over = s.over;
            same = sym (second o (pair_of rs t (node_at t cur).parent) ec h) ∙ step;
            at =
                ⊎_elim (λ (z : cur ≡ 0). inr (ap (λ (v : ℕ). (node_at t v).parent) z ∙ r.orphan))
                (λ (z : cur ≢ 0). let a = r.above cur here.0 z in inl (a.there, omega (arith, here.1, a.deeper), s.over.above cur here.0 l)) (alike cur 0);
          })
