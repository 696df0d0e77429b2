-- The worlds that occur on a path, gathered from its nodes.
use Prim.Native.Nat.{ℕ, zero, suc, ◌+◌, ◌-◌, ◌<◌, ◌≤◌}
use mathlib.Core.Path.{◌≡◌, refl, sym, ap, ◌∙◌, subst}
use mathlib.Core.Bool.{Bool, true, false, ◌&&◌, ◌||◌, and-true, and-false, or-false}
use mathlib.Core.List.{List, [], ◌∷◌}
use mathlib.Core.Option.{Option, none, some}
use Rattle.std.specs.Prelude.{Some}
use mathlib.Core.Logic.{⊎_elim, ◌≢◌}
use native.Mathlib.Omega.{arith}
use native.Mathlib.Numerals.{add-one}
use lib.Dec.{ltb, eqb}
use lib.ListN.{length, get_or, set, take, length-set}
use lib.Seq.{take-suc, take_all, get_or-set_same, get_or-set_other}
use borrow.Author.Tests.{ltb-true, ltb-false, eqb-false}
use Rattle.definition.specs.Limits.{most_identifiers}
use Rattle.bits.specs.Bits.{bit_of}
use Rattle.bits.specs.Worlds.{no_world}
use Rattle.bits.specs.declared.WorldSet.{WorldSet}
use Rattle.bits.proofs.Words.{no_bit}
use Rattle.arrays.specs.Listed.{Listed}
use Rattle.arrays.proofs.Tabled.{tabled_count}
use Rattle.definition.specs.Lists.{Each, any, elem}
use Rattle.definition.specs.Records.{is_nobody}
use Rattle.definition.specs.Tree.{Node, node_at, upward, path}
use Rattle.definition.specs.Modality.{Fork, forked_on, occurs}
use Rattle.definition.proofs.Basics.Lists.{or_left, or_right, either, alike, each_get, each_map, each_append}
use Rattle.tree.proofs.Paths.{climb_start, climb_next}
use Rattle.modality.specs.declared.Forking.{Forking}
use Rattle.modality.specs.declared.PathWorlds.{PathWorlds}
use Rattle.modality.specs.Forking.{fork_of}
use Rattle.modality.specs.Seen.{forked_at, brings, Seen}
use Rattle.modality.proofs.Lists.{eqb_sym, any_none, any_or}

or_turned : (a b c : Bool) → (a || (b || c)) ≡ ((b || a) || c)
or_turned true true c = refl
or_turned true false c = refl
or_turned false true c = refl
or_turned false false c = refl

-- ---- what the nodes of a path bring
any_and : (b : Bool) (p : ℕ → Bool) (xs : List ℕ) → any (λ x. b && p x) xs ≡ (b && any p xs)
any_and true p xs = refl
any_and false p xs = any_none xs

brings_all : (t : List Node) (k : Option Fork) (v : ℕ) (xs : List ℕ) → any (brings t k v) xs ≡ occurs t k xs v
unfolding brings forked_at occurs forked_on
brings_all t none v xs = any_or (λ x. eqb (node_at t x).world v) (λ x. false) xs ∙ ap (λ (b : Bool). any (λ x. eqb (node_at t x).world v) xs || b) (any_none xs)
brings_all t (some k) v xs =
    any_or (λ x. eqb (node_at t x).world v) (λ x. eqb v k.world && eqb k.node x) xs
    ∙ ap (λ (b : Bool). any (λ x. eqb (node_at t x).world v) xs || b) (any_and (eqb v k.world) (eqb k.node) xs)

-- ---- the worlds of one node: its own, and the new world at the forking node
module _ (f : Forking) (x : ℕ) {b : Bool} (at : b ≡ eqb f.node.0 x) (v : ℕ) where
  pub forked_here : b ≡ true → forked_at (fork_of (Some f)) v x ≡ eqb v f.world.0
  unfolding forked_at
  forked_here h = ap (λ (c : Bool). eqb v f.world.0 && c) (sym at ∙ h) ∙ and-true (eqb v f.world.0)

  pub forked_elsewhere : b ≡ false → forked_at (fork_of (Some f)) v x ≡ false
  unfolding forked_at
  forked_elsewhere h = ap (λ (c : Bool). eqb v f.world.0 && c) (sym at ∙ h) ∙ and-false (eqb v f.world.0)

pub forked_nowhere : (x v : ℕ) → forked_at none v x ≡ false
unfolding forked_at
forked_nowhere x v = refl

module _ (t : List Node) (k : Option Fork) (x : ℕ) {w : ℕ} (word here : ℕ) (own : w ≡ (node_at t x).world) (put : (j : ℕ) → j < 32 → bit_of here j ≡ (eqb w j || bit_of word j)) where
  own_world : (v : ℕ) → v < 32 → bit_of here v ≡ (eqb (node_at t x).world v || bit_of word v)
  own_world v low = put v low ∙ ap (λ (z : ℕ). eqb z v || bit_of word v) own

  pub brings_own : ((v : ℕ) → forked_at k v x ≡ false) → (v : ℕ) → v < 32 → bit_of here v ≡ (brings t k v x || bit_of word v)
  unfolding brings
  brings_own nowhere v low = own_world v low ∙ ap (λ (c : Bool). c || bit_of word v) (sym (or-false (eqb (node_at t x).world v)) ∙ ap (λ (c : Bool). eqb (node_at t x).world v || c) (sym (nowhere v)))

  pub brings_forked : (new : ℕ) → ((v : ℕ) → forked_at k v x ≡ eqb v new) → (both : ℕ) → ((j : ℕ) → j < 32 → bit_of both j ≡ (eqb new j || bit_of here j)) → (v : ℕ) → v < 32 → bit_of both v ≡ (brings t k v x || bit_of word v)
  unfolding brings
  brings_forked new at both more v low =
      more v low ∙ ap (λ (c : Bool). eqb new v || c) (own_world v low)
      ∙ or_turned (eqb new v) (eqb (node_at t x).world v) (bit_of word v)
      ∙ ap (λ (c : Bool). (eqb (node_at t x).world v || c) || bit_of word v) (eqb_sym new v ∙ sym (at v))

-- ---- a climb that gathers the worlds: those that what is left of the path brings, and those of the word
abbrev pub gathered : List Node → Option Fork → ℕ → ℕ → List ℕ → Bool
gathered t k v word l = any (brings t k v) l || bit_of word v

pub gather_start : (t : List Node) (k : Option Fork) (len x v : ℕ) → length t ≡ len → gathered t k v 0 (upward (len - 0) t x) ≡ occurs t k (path t x) v
gather_start t k len x v e = rw (no_bit v) (or-false (any (brings t k v) (upward (len - 0) t x)) ∙ climb_start t (any (brings t k v)) len x e ∙ brings_all t k v (path t x))

pub gather_next : (t : List Node) (k : Option Fork) {goal b : Bool} (v len j cur word : ℕ) → gathered t k v word (upward (len - j) t cur) ≡ goal → j < len → b ≡ is_nobody cur → b ≡ false →
    (up more : ℕ) → up ≡ (node_at t cur).parent → bit_of more v ≡ (brings t k v cur || bit_of word v) → gathered t k v more (upward (len - (j + 1)) t up) ≡ goal
gather_next t k v len j cur word inv h e node up more u q =
    let rest = any (brings t k v) (upward (len - (j + 1)) t up) in
    ap (λ (c : Bool). rest || c) q ∙ or_turned rest (brings t k v cur) (bit_of word v) ∙ climb_next t (gathered t k v word) len j cur inv h e node up u

-- ---- a loop that stores them, leaf by leaf
elem_not : (x : ℕ) (xs : List ℕ) → elem x xs ≡ false → (j : ℕ) → j < length xs → x ≢ get_or xs j 0
elem_not x [] e j h q = absurd (omega arith)
elem_not x (y ∷ ys) e zero h q = eqb-false x y (or_left (eqb x y) (elem x ys) e) q
elem_not x (y ∷ ys) e (suc j) h q = elem_not x ys (or_right (eqb x y) (elem x ys) e) j (omega arith) q

module _ (t : List Node) (k : Option Fork) (ls : List ℕ) {m : ℕ} {o : List ℕ} (l : Listed ls m o) (small : m ≤ most_identifiers) where
  module _ (a : List WorldSet) (leaf : ℕ) (w : WorldSet) (low : leaf < most_identifiers) (has : (v : ℕ) → v < 32 → bit_of w.0 v ≡ occurs t k (path t leaf) v) (long : length a ≡ most_identifiers) where
    abbrev put : PathWorlds
    put = record { sets = set a leaf w }

    stored : Seen t k put leaf
    stored = record { low = low; same = λ v h. ap (λ (x : WorldSet). bit_of x.0 v) (get_or-set_same a leaf w no_world (omega (arith, low, long))) ∙ has v h }

    others : (x : ℕ) → Seen t k (record { sets = a }) x → Seen t k put x
    others x s =
        ⊎_elim (λ (e : x ≡ leaf). subst (Seen t k put) (sym e) stored)
        (λ e. record { low = s.low; same = λ v h. ap (λ (y : WorldSet). bit_of y.0 v) (get_or-set_other a leaf x w no_world e) ∙ s.same v h }) (alike x leaf)

  pub seen_next : (a b : List WorldSet) (j leaf : ℕ) (w : WorldSet) → Each (λ x. x < most_identifiers) ls → j < m → leaf ≡ get_or ls j 0 → ((v : ℕ) → v < 32 → bit_of w.0 v ≡ occurs t k (path t leaf) v) →
      (leaf < most_identifiers → b ≡ set a leaf w) → (length a ≡ most_identifiers) × Each (Seen t k (record { sets = a })) (take j ls) → (length b ≡ most_identifiers) × Each (Seen t k (record { sets = b })) (take (j + 1) ls)
  seen_next a b j leaf w each h e has stores seen =
      let inside : j < length ls = omega (arith, h, tabled_count l small) in
      let low : leaf < most_identifiers = rw e (each_get (λ x. x < most_identifiers) ls 0 each j (λ past. absurd (omega (arith, past, inside)))) in
      rw (stores low, add-one, take-suc ls j 0 inside, ← e) (
        length-set a leaf w ∙ seen.0,
        each_append (Seen t k (record { sets = set a leaf w })) (take j ls) (leaf ∷ []) (each_map (others a leaf w low has seen.0) (take j ls) seen.1) (stored a leaf w low has seen.0, tt),
      )

  pub seen_end : (a : PathWorlds) (j : ℕ) → m ≤ j → Each (Seen t k a) (take j ls) → Each (Seen t k a) ls
  seen_end a j h seen = rw (take_all j ls (omega (arith, tabled_count l small, h))) at seen

-- an entry that is none of theirs
module _ (ls : List ℕ) {m : ℕ} {o : List ℕ} (l : Listed ls m o) (small : m ≤ most_identifiers) where
  pub other_next : (a b : PathWorlds) (j leaf x : ℕ) (w : WorldSet) → j < m → leaf ≡ get_or ls j 0 → elem x ls ≡ false → (leaf < most_identifiers → b.sets ≡ set a.sets leaf w) × (most_identifiers ≤ leaf → b ≡ a) → get_or b.sets x no_world ≡ get_or a.sets x no_world
  other_next a b j leaf x w h e out put =
      let apart : x ≢ leaf = λ q. elem_not x ls out j (omega (arith, h, tabled_count l small)) (q ∙ e) in
      ⊎_elim (λ s. rw (put.0 (ltb-true leaf most_identifiers s)) (get_or-set_other a.sets leaf x w no_world apart)) (λ s. rw (put.1 (ltb-false leaf most_identifiers s)) refl) (either (ltb leaf most_identifiers))
