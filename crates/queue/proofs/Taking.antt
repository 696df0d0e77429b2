-- The search of the classes, and the node that is taken.
use Prim.Native.Nat.{ℕ, zero, suc, ◌+◌, ◌≤◌, ◌<◌}
use mathlib.Core.Path.{◌≡◌, refl, sym, ap, ◌∙◌, subst}
use mathlib.Core.Bool.{Bool, true, false, cond}
use mathlib.Core.List.{List, [], ◌∷◌, ◌++◌, map}
use mathlib.Core.Option.{Option, none, some}
use native.Mathlib.Numerals.{add-one}
use native.Mathlib.Omega.{arith}
use borrow.Author.Tests.{lt-ltb, le-ltb, eq-eqb, ne_eqb}
use lib.Dec.{eqb}
use lib.ListN.{length, length-map, get_or, take, drop, drop_of_length-le}
use lib.Seq.{take-suc, take_all, drop-cons}
use Rattle.definition.specs.Limits.{most_identifiers}
use Rattle.arrays.specs.Data.{without}
use Rattle.arrays.specs.Listed.{Numbers, Listed, HasList}
use Rattle.arrays.proofs.Tabled.{tabled_count, tabled_fits}
use Rattle.definition.specs.Lists.{or_else}
use Rattle.definition.specs.Records.{Rec}
use Rattle.definition.specs.Tree.{Node}
use Rattle.definition.specs.Setting.{Setting}
use Rattle.definition.specs.Queue as D
use Rattle.definition.proofs.Basics.Lists.{from_get}
use Rattle.definition.proofs.Basics.Identifiers.{length_from}
use Rattle.std.specs.Prelude as Rust
use Rattle.tree.specs.declared.ProofTreeNodeID.{ProofTreeNodeID}
use Rattle.queue.specs.Taking.{taken_at, answer, afterwards}

-- ---- a position
pub taken_in : (q : List ℕ) (i : ℕ) → i < length q → taken_at q i ≡ some (record { node = get_or q i 0; others = without q i })
unfolding taken_at
taken_in q i h = rw (lt-ltb _ _ h)

pub taken_out : (q : List ℕ) (i : ℕ) → length q ≤ i → taken_at q i ≡ none
unfolding taken_at
taken_out q i h = rw (le-ltb _ _ h)

-- ---- the first that passes: those before position i were passed over
module _ (p : ℕ → Bool) where
  first_cons : (b : List ℕ) (x : ℕ) (xs : List ℕ) → D.pop_first p b (x ∷ xs) ≡ cond (p x) (some (record { node = x; others = b ++ xs })) (D.pop_first p (b ++ (x ∷ [])) xs)
  unfolding D.pop_first
  first_cons b x xs = refl

  first_nil : (b : List ℕ) → D.pop_first p b [] ≡ none
  unfolding D.pop_first
  first_nil b = refl

  module _ (q : List ℕ) (i : ℕ) where
    first_hit_lem : i < length q → p (get_or q i 0) ≡ true → D.pop_first p (take i q) (drop i q) ≡ taken_at q i
    unfolding without
    first_hit_lem h e =
        ap (D.pop_first p (take i q)) (drop-cons q i 0 h) ∙ first_cons (take i q) (get_or q i 0) (drop (suc i) q) ∙ rw e (sym (taken_in q i h))

    first_miss : i < length q → p (get_or q i 0) ≡ false → D.pop_first p (take i q) (drop i q) ≡ D.pop_first p (take (i + 1) q) (drop (i + 1) q)
    first_miss h e =
        ap (D.pop_first p (take i q)) (drop-cons q i 0 h)
        ∙ first_cons (take i q) (get_or q i 0) (drop (suc i) q)
        ∙ rw (e, add-one, take-suc q i 0 h)

    first_none : length q ≤ i → D.pop_first p (take i q) (drop i q) ≡ none
    first_none h = ap (D.pop_first p (take i q)) (drop_of_length-le q {i = i} h) ∙ first_nil (take i q)

-- ---- what is left of the search
module _ (F : Setting) (rs : List Rec) (ns : List Node) (q : List ℕ) where
  -- from class k on
  unfoldable pub from_class : ℕ → Option D.Popped
  from_class k = D.pop_class F rs ns q (drop k D.classes)

  -- from position i of class k on
  unfoldable pub from_place : ℕ → ℕ → Option D.Popped
  from_place k i = or_else (D.pop_first (λ x. eqb (D.get_node_priority F rs ns x) k) (take i q) (drop i q)) (from_class (k + 1))

  pub class_start : from_class 0 ≡ D.pop F rs ns q
  unfolding from_class D.pop
  class_start = refl

  pub class_end : (k : ℕ) → k ≡ D.class_count → from_class k ≡ none
  unfolding from_class D.pop_class
  class_end k e = rw e

  pub class_step : (k : ℕ) → k < D.class_count → from_class k ≡ from_place k 0
  unfolding from_class from_place D.pop_class
  class_step k h =
      let here : 0 + k ≡ k = omega arith in
      let next : suc k ≡ k + 1 = omega arith in
      ap (D.pop_class F rs ns q)
      (drop-cons D.classes k 0 (omega (arith, h, length_from D.class_count 0))
      ∙ ap (λ (c : ℕ). c ∷ drop (suc k) D.classes) (from_get D.class_count 0 k h ∙ here)
      ∙ ap (λ (j : ℕ). k ∷ drop j D.classes) next)

  pub place_hit : (k i : ℕ) → i < length q → D.get_node_priority F rs ns (get_or q i 0) ≡ k → from_place k i ≡ taken_at q i
  unfolding from_place
  place_hit k i h e =
      ap (λ (o : Option D.Popped). or_else o (from_class (k + 1))) (first_hit_lem (λ x. eqb (D.get_node_priority F rs ns x) k) q i h (eq-eqb _ _ e) ∙ taken_in q i h) ∙ sym (taken_in q i h)

  pub place_miss : (k i : ℕ) → i < length q → (D.get_node_priority F rs ns (get_or q i 0) ≡ k → ⊥) → from_place k i ≡ from_place k (i + 1)
  unfolding from_place
  place_miss k i h e = ap (λ (o : Option D.Popped). or_else o (from_class (k + 1))) (first_miss (λ x. eqb (D.get_node_priority F rs ns x) k) q i h (ne_eqb _ _ e))

  pub place_end : (k i : ℕ) → length q ≤ i → from_place k i ≡ from_class (k + 1)
  unfolding from_place
  place_end k i h = ap (λ (o : Option D.Popped). or_else o (from_class (k + 1))) (first_none (λ x. eqb (D.get_node_priority F rs ns x) k) q i h)

-- ---- the loops of `first_urgent`: the classes are listed
get_map : (f : ℕ → ℕ) (q : List ℕ) (i : ℕ) → i < length q → get_or (map f q) i 0 ≡ f (get_or q i 0)
get_map f [] i h = absurd (omega arith)
get_map f (x ∷ q) zero h = refl
get_map f (x ∷ q) (suc i) h = get_map f q i (omega arith)

module _ (F : Setting) (rs : List Rec) (ns : List Node) (q : List ℕ) {n : ℕ} {a : List ℕ} (l : Listed (map (D.get_node_priority F rs ns) q) n a) (g : n ≤ most_identifiers) where
  pub many : length q ≡ n
  many = sym (length-map q (D.get_node_priority F rs ns)) ∙ tabled_count l g

  pub search_begin : (k : ℕ) → k < D.class_count → from_class F rs ns q k ≡ D.pop F rs ns q → from_place F rs ns q k 0 ≡ D.pop F rs ns q
  search_begin k h e = sym (class_step F rs ns q k h) ∙ e

  pub search_next : (k i : ℕ) → n ≤ i → from_place F rs ns q k i ≡ D.pop F rs ns q → from_class F rs ns q (k + 1) ≡ D.pop F rs ns q
  search_next k i h e = sym (place_end F rs ns q k i (omega (arith, many))) ∙ e

  pub search_end : (k : ℕ) → k ≡ D.class_count → from_class F rs ns q k ≡ D.pop F rs ns q → D.pop F rs ns q ≡ taken_at q n
  search_end k z e = sym e ∙ class_end F rs ns q k z ∙ sym (taken_out q n (omega (arith, many)))

  -- v is read at position i
  module _ (k i v : ℕ) (h : i < n) (e : from_place F rs ns q k i ≡ D.pop F rs ns q) (read : v ≡ get_or (map (D.get_node_priority F rs ns) q) i 0) where
    seen : v ≡ D.get_node_priority F rs ns (get_or q i 0)
    seen = read ∙ get_map (D.get_node_priority F rs ns) q i (omega (arith, many, h))

    pub search_hit : v ≡ k → D.pop F rs ns q ≡ taken_at q i
    search_hit z = sym e ∙ place_hit F rs ns q k i (omega (arith, many)) (sym seen ∙ z)

    pub search_miss : (v ≡ k → ⊥) → from_place F rs ns q k (i + 1) ≡ D.pop F rs ns q
    search_miss z = sym (place_miss F rs ns q k i (omega (arith, many)) (λ y. z (seen ∙ y))) ∙ e

-- ---- the loop of `classify`: those before position i are listed
take_map : (f : ℕ → ℕ) (i : ℕ) (q : List ℕ) → map f (take i q) ≡ take i (map f q)
take_map f zero q = refl
take_map f (suc i) [] = refl
take_map f (suc i) (x ∷ q) = ap (λ (l : List ℕ). f x ∷ l) (take_map f i q)

drop_map : (f : ℕ → ℕ) (i : ℕ) (q : List ℕ) → map f (drop i q) ≡ drop i (map f q)
drop_map f zero q = refl
drop_map f (suc i) [] = refl
drop_map f (suc i) (x ∷ q) = drop_map f i q

map_append : (f : ℕ → ℕ) (xs ys : List ℕ) → map f (xs ++ ys) ≡ map f xs ++ map f ys
map_append f [] ys = refl
map_append f (x ∷ xs) ys = ap (λ (l : List ℕ). f x ∷ l) (map_append f xs ys)

pub classing_end : (f : ℕ → ℕ) (q : List ℕ) (i : ℕ) {n : ℕ} {a : List ℕ} → length q ≤ i → Listed (map f (take i q)) n a → Listed (map f q) n a
classing_end f q i {n} {a} h = subst (λ (v : List ℕ). Listed (map f v) n a) (take_all i q h)

-- ---- the answer of `pop`
-- what `pop` promises of its answer r and of the lists w and c at exit
abbrev pub Answered : (ℕ → ℕ) → List ℕ → Option D.Popped → Rust.Option ProofTreeNodeID → Numbers → Numbers → Type 0
Answered f q o r w c = (r ≡ answer o) × HasList (afterwards q o) w × HasList (map f (afterwards q o)) c

without_map : (f : ℕ → ℕ) (q : List ℕ) (i : ℕ) → without (map f q) i ≡ map f (without q i)
unfolding without
without_map f q i = sym (map_append f (take i q) (drop (suc i) q) ∙ rw (take_map f i q, drop_map f (suc i) q))

module _ (f : ℕ → ℕ) (q : List ℕ) (w c : Numbers) (p : HasList q w) (k : HasList (map f q) c) (g : w.len ≤ most_identifiers) where
  pub as_many : c.len ≡ w.len
  as_many =
      let e : length (map f q) ≡ w.len = length-map q f ∙ tabled_count p g in
      sym (tabled_count k (tabled_fits k (omega (arith, e, g)))) ∙ e

  module _ (o : Option D.Popped) (at : ℕ) (e : o ≡ taken_at q at) where
    pub pop_none : w.len ≤ at → Answered f q o Rust.None w c
    unfolding answer afterwards
    pop_none h =
        let z : o ≡ none = e ∙ taken_out q at (omega (arith, tabled_count p g)) in
        rw z (refl, p, k)

    pub pop_some : (x : ℕ) (w' c' : Numbers) → at < w.len → x ≡ get_or q at 0 → HasList (without q at) w' → HasList (without (map f q) at) c' → Answered f q o (Rust.Some (record { 0 = x })) w' c'
    unfolding answer afterwards
    pop_some x w' c' h y l r =
        let z : o ≡ some (record { node = get_or q at 0; others = without q at }) = e ∙ taken_in q at (omega (arith, tabled_count p g)) in
        rw (z, y) (refl, l, subst (λ (v : List ℕ). HasList v c') (without_map f q at) r)
