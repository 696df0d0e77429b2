-- Rows of subtrees, and what they stand for.
use Prim.Native.Nat.{ℕ, ◌≤◌, ◌-◌, ◌+◌}
use mathlib.Core.Path.{◌≡◌, refl, sym, ap, ◌∙◌, subst}
use mathlib.Core.List.{List, [], ◌∷◌, ◌++◌, map, append-nil, append_assoc}
use native.Mathlib.Omega.{arith}
use Rattle.definition.specs.Lists.{up_from}
use Rattle.definition.specs.Subtree.{Targeted, with_middle}
use Rattle.tree.specs.declared.Chain.{Chain}
use Rattle.tree.specs.Chain.{Spans}
use Rattle.subtree.specs.Items.{Item, HasItems, Listing, item_from}
use Rattle.subtree.specs.declared.Items.{Items}
use Rattle.subtree.proofs.Rows.{rows_skip, rows_more}

map_append : {A B : Type 0} (f : A → B) (xs ys : List A) → map f (xs ++ ys) ≡ map f xs ++ map f ys
map_append f [] ys = refl
map_append f (x ∷ xs) ys = ap (λ (zs : List _). f x ∷ zs) (map_append f xs ys)

-- an item of n identifiers
abbrev pub item : ℕ → ℕ → ℕ → Targeted
item target n start = record { target = target; subtree = with_middle (up_from n start) }

-- one row more, of identifiers that were drawn
pub listing_one : {rs : List Item} {x : Items} {lo hi : ℕ} {c : Chain} (target : ℕ) → Spans c lo hi → HasItems (rs ++ (record { target = target; start = lo; count = c.count } ∷ [])) x hi →
    Listing rs (item target (hi - lo) lo ∷ []) x hi
listing_one {rs} {x} {lo} {hi} {c} target s h =
    let e : c.count ≡ hi - lo = omega (arith, s.ends) in
    record {
      all = rs ++ (record { target = target; start = lo; count = hi - lo } ∷ []);
      rows = subst (λ (n : ℕ). HasItems (rs ++ (record { target = target; start = lo; count = n } ∷ [])) x hi) e h;
      are = map_append item_from rs _;
    }

-- a row without a node is none of the table's
pub listing_skip : {rs : List Item} {x : Items} {len : ℕ} (target : ℕ) → Listing rs [] x len → Listing rs (item target 0 0 ∷ []) x len
listing_skip {rs} {x} {len} target l =
    let row : Item = record { target = target; start = len; count = 0 } in
    let e : len + 0 ≡ len = omega arith in
    record {
      all = l.all ++ (row ∷ []);
      rows = subst (λ (m : ℕ). HasItems (l.all ++ (row ∷ [])) x m) e (rows_skip row (omega arith) refl l.rows);
      are = map_append item_from l.all (row ∷ []) ∙ ap (λ (v : List Targeted). v ++ (item target 0 0 ∷ [])) (l.are ∙ append-nil (map item_from rs));
    }

-- rows of two parts
pub listing_both : {rs : List Item} {x x' : Items} {len len' : ℕ} (xs ys : List Targeted) (l : Listing rs xs x len) → Listing l.all ys x' len' → Listing rs (xs ++ ys) x' len'
listing_both {rs} xs ys l m =
    record { all = m.all; rows = m.rows; are = m.are ∙ ap (λ (v : List Targeted). v ++ ys) l.are ∙ append_assoc (map item_from rs) xs ys }

pub listing_as : {rs : List Item} {x : Items} {len : ℕ} (target : ℕ) {n n' s s' : ℕ} → n ≡ n' → s ≡ s' → Listing rs (item target n s ∷ []) x len → Listing rs (item target n' s' ∷ []) x len
listing_as {rs} {x} {len} target {n} {n'} {s} {s'} d e l =
    subst (λ (v : ℕ). Listing rs (item target v s' ∷ []) x len) d (subst (λ (v : ℕ). Listing rs (item target n v ∷ []) x len) e l)

-- the rows as they are, and none more
pub listing_self : {rs : List Item} {more : List Targeted} {x : Items} {len : ℕ} (l : Listing rs more x len) → Listing l.all [] x len
listing_self l = record { all = l.all; rows = l.rows; are = sym (append-nil (map item_from l.all)) }

-- more nodes
pub listing_more : {rs : List Item} {more : List Targeted} {x : Items} {len len' : ℕ} → len ≤ len' → Listing rs more x len → Listing rs more x len'
listing_more h l = record { all = l.all; rows = rows_more h l.rows; are = l.are }
