-- The subtrees of a rule's result hold each identifier that was issued for it once, interval by interval.
use mathlib.Core.Path.{◌≡◌, refl, sym, ap, subst}
use mathlib.Core.Bool.{Bool}
use mathlib.Core.List.{List, [], ◌∷◌, ◌++◌, map, reverse, reverse_aux, append-nil}
use mathlib.Core.Option.{Option, none, some}
use mathlib.Core.Logic.{⊎_elim, ◌≢◌}
use Prim.Native.Nat.{ℕ, zero, suc, ◌<◌, ◌≤◌, ◌+◌}
use native.Mathlib.Omega.{arith}
use lib.ListN.{length, length-append, length-map, length-reverse}
use Rattle.definition.specs.Lists.{Each, Distinct, up_from, filter}
use Rattle.definition.specs.Records.{Rec}
use Rattle.definition.specs.Setting.{Setting}
use Rattle.definition.specs.Graph.{Graph, initialize_graph_if_needed}
use Rattle.definition.specs.Tree.{Node, new_node, node_at, path}
use Rattle.definition.specs.Rules.{Rule, nothing, down, split, as_possible, as_necessary, expansion}
use Rattle.definition.specs.Subtree.{Subtree, Targeted, with_middle, with_left_right, flat, turned, numbered}
use Rattle.definition.specs.Modality.{Necessity, Fork, Reapplication, occurs, give_on, unvisited, leaves_of, reapply_necessity, is_reapplied, reapply_if_on_path, reapply_necessity_after_possibility}
use Rattle.definition.specs.Run.{State, LogicRuleResult, apply_here, apply_possibility, apply_necessity, apply_rule, apply}
use Rattle.definition.proofs.Basics.Lists.{alike, each_map, each_both, each_append, each_left, each_right, each_reverse, filter_keeps, up_from_each, cond_both}

-- no element of the second list stands in the first
abbrev pub Apart : List ℕ → List ℕ → Type 0
Apart xs ys = Each (λ y. Each (λ x. y ≢ x) xs) ys

pub distinct_left : (xs ys : List ℕ) → Distinct (xs ++ ys) → Distinct xs
distinct_left [] ys h = tt
distinct_left (x ∷ xs) ys h = (each_left (λ y. y ≢ x) xs ys h.0, distinct_left xs ys h.1)

pub distinct_right : (xs ys : List ℕ) → Distinct (xs ++ ys) → Distinct ys
distinct_right [] ys h = h
distinct_right (x ∷ xs) ys h = distinct_right xs ys h.1

apart_nil : (ys : List ℕ) → Apart [] ys
apart_nil [] = tt
apart_nil (y ∷ ys) = (tt, apart_nil ys)

apart_cons : (x : ℕ) (xs ys : List ℕ) → Each (λ y. y ≢ x) ys → Apart xs ys → Apart (x ∷ xs) ys
apart_cons x xs [] h k = tt
apart_cons x xs (y ∷ ys) h k = ((h.0, k.0), apart_cons x xs ys h.1 k.1)

pub distinct_apart : (xs ys : List ℕ) → Distinct (xs ++ ys) → Apart xs ys
distinct_apart [] ys h = apart_nil ys
distinct_apart (x ∷ xs) ys h = apart_cons x xs ys (each_right (λ y. y ≢ x) xs ys h.0) (distinct_apart xs ys h.1)

pub distinct_append : (xs ys : List ℕ) → Distinct xs → Distinct ys → Apart xs ys → Distinct (xs ++ ys)
distinct_append [] ys h k c = k
distinct_append (x ∷ xs) ys h k c = (
  each_append (λ y. y ≢ x) xs ys h.0 (each_map (λ y (e : (y ≢ x) × Each (λ v. y ≢ v) xs). e.0) ys c),
  distinct_append xs ys h.1 k (each_map (λ y (e : (y ≢ x) × Each (λ v. y ≢ v) xs). e.1) ys c),
)

distinct_onto : (xs ys : List ℕ) → Distinct xs → Distinct ys → Apart xs ys → Distinct (reverse_aux xs ys)
distinct_onto [] ys h k c = k
distinct_onto (x ∷ xs) ys h k c =
    distinct_onto xs (x ∷ ys) h.1 (each_map {Q = λ y. y ≢ x} (λ y (e : (y ≢ x) × Each (λ v. y ≢ v) xs). e.0) ys c, k) (
      each_map {Q = λ v. x ≢ v} (λ v (e : v ≢ x) (q : x ≡ v). e (sym q)) xs h.0,
      each_map {Q = λ y. Each (λ v. y ≢ v) xs} (λ y (e : (y ≢ x) × Each (λ v. y ≢ v) xs). e.1) ys c,
    )

pub distinct_reverse : (xs : List ℕ) → Distinct xs → Distinct (reverse xs)
distinct_reverse xs h = distinct_onto xs [] h tt tt

pub rising_distinct : (n i : ℕ) → Distinct (up_from n i)
rising_distinct zero i = tt
rising_distinct (suc n) i = (
  each_map {Q = λ y. y ≢ i} (λ y (h : (suc i ≤ y) × (y < suc i + n)) (q : y ≡ i). omega (arith, h.0, q)) (up_from n (suc i)) (up_from_each n (suc i)),
  rising_distinct n (suc i),
)

pub length_from : (n i : ℕ) → length (up_from n i) ≡ n
length_from zero i = refl
length_from (suc n) i = ap suc (length_from n (suc i))

from_append : (a b i : ℕ) → up_from a i ++ up_from b (i + a) ≡ up_from (a + b) i
from_append zero b i = let e : i + 0 ≡ i = omega arith in let d : 0 + b ≡ b = omega arith in rw (e, d)
from_append (suc a) b i =
    let e : i + suc a ≡ suc i + a = omega arith in
    let d : suc a + b ≡ suc (a + b) = omega arith in
    rw (e, d) (ap (λ (xs : List ℕ). i ∷ xs) (from_append a b (suc i)))

-- the identifiers of a subtree are those from lo below hi, each once
pub record Ids (lo hi : ℕ) (s : Subtree) : Type 0 where
  pub within : Each (λ x. (lo ≤ x) × (x < hi)) (flat s)
  pub distinct : Distinct (flat s)
  pub count : lo + length (flat s) ≡ hi

pub flat_numbered : (n : ℕ) (s : Subtree) → flat (numbered n s) ≡ up_from (length (flat s)) n
unfolding flat numbered
flat_numbered n s =
    let a = length s.left in
    let b = length s.middle in
    let c = length s.right in
    let e : length (s.left ++ (s.middle ++ s.right)) ≡ a + (b + c) = simp length-append in
    rw (from_append b c (n + a), from_append a (b + c) n, e) refl

ids_rising : (n k : ℕ) (s : Subtree) → flat s ≡ up_from k n → Ids n (n + k) s
ids_rising n k s e = record { within = rw e (up_from_each k n); distinct = rw e (rising_distinct k n); count = rw e (ap (λ (m : ℕ). n + m) (length_from k n)) }

pub ids_numbered : (n : ℕ) (s : Subtree) → Ids n (n + length (flat s)) (numbered n s)
ids_numbered n s = ids_rising n (length (flat s)) (numbered n s) (flat_numbered n s)

pub length_turned : (s : Subtree) → length (flat (turned s)) ≡ length (flat s)
unfolding flat turned
length_turned s = simp (length-append, length-reverse)

-- what holds of a subtree's identifiers holds of the turned one's
pub each_turned : (P : ℕ → Type 0) (s : Subtree) → Each P (flat s) → Each P (flat (turned s))
unfolding flat turned
each_turned P s h =
    let r = each_right P s.left (s.middle ++ s.right) h in
    each_append P (reverse s.left) _ (each_reverse P s.left (each_left P s.left (s.middle ++ s.right) h))
    (each_append P (reverse s.middle) _ (each_reverse P s.middle (each_left P s.middle s.right r)) (each_reverse P s.right (each_right P s.middle s.right r)))

apart_turned : (xs ys : List ℕ) → Apart xs ys → Apart (reverse xs) (reverse ys)
apart_turned xs ys h = each_reverse (λ y. Each (λ x. y ≢ x) (reverse xs)) ys (each_map (λ y k. each_reverse (λ x. y ≢ x) xs k) ys h)

apart_append : (xs ys zs : List ℕ) → Apart xs ys → Apart xs zs → Apart xs (ys ++ zs)
apart_append xs ys zs h k = each_append (λ y. Each (λ x. y ≢ x) xs) ys zs h k

distinct_turned : (s : Subtree) → Distinct (flat s) → Distinct (flat (turned s))
unfolding flat turned
distinct_turned s d =
    let l = s.left in
    let m = s.middle in
    let r = s.right in
    let mr = distinct_right l (m ++ r) d in
    let across = distinct_apart l (m ++ r) d in
    distinct_append (reverse l) (reverse m ++ reverse r) (distinct_reverse l (distinct_left l (m ++ r) d))
    (distinct_append (reverse m) (reverse r) (distinct_reverse m (distinct_left m r mr)) (distinct_reverse r (distinct_right m r mr)) (apart_turned m r (distinct_apart m r mr)))
    (apart_append (reverse l) (reverse m) (reverse r)
    (apart_turned l m (each_left (λ y. Each (λ x. y ≢ x) l) m r across)) (apart_turned l r (each_right (λ y. Each (λ x. y ≢ x) l) m r across)))

pub ids_turned : (lo hi : ℕ) (s : Subtree) → Ids lo hi s → Ids lo hi (turned s)
ids_turned lo hi s i =
    record {
      within = each_turned (λ x. (lo ≤ x) × (x < hi)) s i.within;
      distinct = distinct_turned s i.distinct;
      count = omega (arith, length_turned s, i.count);
    }

-- the subtrees take the identifiers from lo below hi, one interval after the other
abbrev pub IssuedBetween : ℕ → ℕ → List Targeted → Type 0
IssuedBetween lo hi [] = lo ≡ hi
IssuedBetween lo hi (r ∷ rs) = (mid : ℕ) × Ids lo mid r.subtree × IssuedBetween mid hi rs

issued_append : (a b c : ℕ) (rs ss : List Targeted) → IssuedBetween a b rs → IssuedBetween b c ss → IssuedBetween a c (rs ++ ss)
issued_append a b c [] ss h k = subst (λ (n : ℕ). IssuedBetween n c ss) (sym h) k
issued_append a b c (r ∷ rs) ss h k = (h.0, h.1, issued_append h.0 b c rs ss h.2 k)

pub issued_le : (lo hi : ℕ) (rs : List Targeted) → IssuedBetween lo hi rs → lo ≤ hi
issued_le lo hi [] h = omega (arith, h)
issued_le lo hi (r ∷ rs) h = omega (arith, h.1.count, issued_le h.0 hi rs h.2)

give_issued : (ls : List ℕ) (t : List Node) (k : Option Fork) (n : Necessity) (worlds : List ℕ) (next : ℕ) →
    IssuedBetween next (next + length (give_on t k n worlds next ls).nodes) (give_on t k n worlds next ls).subtrees
unfolding give_on flat
give_issued [] t k n worlds next = omega arith
give_issued (leaf ∷ ls) t k n worlds next =
    let here = filter (occurs t k (path t leaf)) worlds in
    let rest = give_on t k n worlds (next + length here) ls in
    let ns = map (new_node n.spawner n.formula) here in
    let e : next + length (ns ++ rest.nodes) ≡ next + length here + length rest.nodes =
    omega (arith, length-append ns rest.nodes, length-map here (new_node n.spawner n.formula)) in (
      next + length here,
      ids_rising next (length here) (with_middle (up_from (length here) next)) (append-nil (up_from (length here) next)),
      subst (λ (m : ℕ). IssuedBetween (next + length here) m rest.subtrees) (sym e) (give_issued ls t k n worlds (next + length here)),
    )

reapply_issued : (t : List Node) (g : Graph) (k : Option Fork) (next : ℕ) (n : Necessity) →
    IssuedBetween next (next + length (reapply_necessity t g k next n).nodes) (reapply_necessity t g k next n).subtrees
unfolding reapply_necessity
reapply_issued t g k next n = give_issued (leaves_of t n) t k n (unvisited g n) next

one_issued : (t : List Node) (g : Graph) (k : Fork) (next : ℕ) (n : Necessity) →
    IssuedBetween next (next + length (reapply_if_on_path t g k next n).nodes) (reapply_if_on_path t g k next n).subtrees
unfolding reapply_if_on_path
one_issued t g k next n =
    cond_both (λ (m : Reapplication). IssuedBetween next (next + length m.nodes) m.subtrees) (is_reapplied t k n)
    (reapply_necessity t g (some k) next n) (record { nodes = []; subtrees = [] }) (reapply_issued t g (some k) next n) (omega arith)

after_issued : (ns : List Necessity) (t : List Node) (g : Graph) (k : Fork) (next : ℕ) →
    IssuedBetween next (next + length (reapply_necessity_after_possibility t g k next ns).nodes) (reapply_necessity_after_possibility t g k next ns).subtrees
unfolding reapply_necessity_after_possibility
after_issued [] t g k next = omega arith
after_issued (n ∷ ns) t g k next =
    let one = reapply_if_on_path t g k next n in
    let rest = reapply_necessity_after_possibility t g k (next + length one.nodes) ns in
    let e : next + length (one.nodes ++ rest.nodes) ≡ next + length one.nodes + length rest.nodes = omega (arith, length-append one.nodes rest.nodes) in
    subst (λ (m : ℕ). IssuedBetween next m (one.subtrees ++ rest.subtrees)) (sym e)
    (issued_append next (next + length one.nodes) _ one.subtrees rest.subtrees (one_issued t g k next n) (after_issued ns t g k (next + length one.nodes)))

abbrev Takes : ℕ → LogicRuleResult → Type 0
Takes n r = IssuedBetween n (n + length r.nodes) r.subtrees

here_issued : (s : State) (x : ℕ) (more : List Rec) (fs : Subtree) → Takes (length s.nodes) (apply_here s x more fs)
unfolding apply_here
here_issued s x more fs =
    let n = length s.nodes in
    let make : ℕ → Node = λ f. new_node x f (node_at s.nodes x).world in (
      n + length (flat fs),
      ids_turned n (n + length (flat fs)) (numbered n fs) (ids_numbered n fs),
      omega (arith, length-map (flat (turned fs)) make, length_turned fs),
    )

after_two : (ns : List Necessity) (t : List Node) (g : Graph) (k : Fork) (n : ℕ) →
    IssuedBetween (n + 2) (n + suc (suc (length (reapply_necessity_after_possibility t g k (n + 2) ns).nodes))) (reapply_necessity_after_possibility t g k (n + 2) ns).subtrees
after_two ns t g k n =
    subst (λ (m : ℕ). IssuedBetween (n + 2) m (reapply_necessity_after_possibility t g k (n + 2) ns).subtrees) (omega arith) (after_issued ns t g k (n + 2))

-- the identifiers of a result's subtrees are those of the nodes that it made
pub rule_issued : (F : Setting) (s : State) (x : ℕ) (more : List Rec) (r : Rule ℕ) → Takes (length s.nodes) (apply_rule F s x more r)
unfolding apply_rule apply_possibility apply_necessity flat
rule_issued F s x more nothing = here_issued s x more (with_middle [])
rule_issued F s x more (down fs) = here_issued s x more (with_middle fs)
rule_issued F s x more (split fs gs) = here_issued s x more (with_left_right fs gs)
rule_issued F s x more (as_possible f) =
    let n = length s.nodes in (
      n + 2,
      record {
        within = ((omega arith, omega arith), ((omega arith, omega arith), tt));
        distinct = ((λ e. omega (arith, e), tt), (tt, tt));
        count = refl;
      },
      after_two s.necessities s.nodes _ _ n,
    )
rule_issued F s x more (as_necessary f) = reapply_issued s.nodes (initialize_graph_if_needed F s.graph) none (length s.nodes) _

pub apply_issued : (F : Setting) (s : State) (x : ℕ) → Takes (length s.nodes) (apply F s x)
unfolding apply
apply_issued F s x = let e = expansion s.formulas (node_at s.nodes x).formula in rule_issued F s x e.made e.rule

-- lists whose elements differ by what they have
pub apart_by : {P Q : ℕ → Type 0} (xs ys : List ℕ) → ((x y : ℕ) → P x → Q y → y ≢ x) → Each P xs → Each Q ys → Apart xs ys
apart_by xs ys f h k = each_map (λ y q. each_map (λ x p. f x y p q) xs h) ys k

pub distinct_filter : (p : ℕ → Bool) (xs : List ℕ) → Distinct xs → Distinct (filter p xs)
distinct_filter p [] h = tt
distinct_filter p (x ∷ xs) h =
    cond_both Distinct (p x) (x ∷ filter p xs) (filter p xs)
    (filter_keeps (λ y. y ≢ x) p xs h.0, distinct_filter p xs h.1) (distinct_filter p xs h.1)

-- all of the list but m: distinct, below m, at most one fewer, and what no element of the list was
but : (m : ℕ) (xs : List ℕ) → Distinct xs → Each (λ x. x < suc m) xs →
    (ys : List ℕ) × Distinct ys × Each (λ y. y < m) ys × (length xs ≤ suc (length ys)) × ((y : ℕ) → Each (λ x. x ≢ y) xs → Each (λ x. x ≢ y) ys)
but m [] d h = ([], tt, tt, omega arith, λ y k. tt)
but m (x ∷ xs) d h =
    let b = but m xs d.1 h.1 in
    ⊎_elim (λ (q : x ≡ m). (xs, d.1, each_both (λ y (e : y ≢ x) (l : y < suc m). omega (arith, e, l, q)) xs d.0 h.1, omega arith, λ y k. k.1))
    (λ (q : x ≢ m). (x ∷ b.0, (b.4 x d.0, b.1), (omega (arith, h.0, q), b.2), omega (arith, b.3), λ y k. (k.0, b.4 y k.1))) (alike x m)

-- distinct numbers below n are at most n
pub pigeonhole : (n : ℕ) (xs : List ℕ) → Distinct xs → Each (λ x. x < n) xs → length xs ≤ n
pigeonhole zero [] d h = omega arith
pigeonhole zero (x ∷ xs) d h = absurd (omega (arith, h.0))
pigeonhole (suc n) xs d h =
    let b = but n xs d h in
    omega (arith, b.3, pigeonhole n b.0 b.1 b.2)

-- the first of the subtrees take the first of the identifiers
pub issued_front : (lo hi : ℕ) (rs ss : List Targeted) → IssuedBetween lo hi (rs ++ ss) → (mid : ℕ) × IssuedBetween lo mid rs × (mid ≤ hi)
issued_front lo hi [] ss h = (lo, refl, issued_le lo hi ss h)
issued_front lo hi (r ∷ rs) ss h = let k = issued_front h.0 hi rs ss h.2 in (k.0, (h.0, h.1, k.1), k.2)
