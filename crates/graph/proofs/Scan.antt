-- Laws of a scan that adds, pair after pair, each edge that a rule gives, and of a search through the worlds.
use Prim.Native.Nat.{ℕ, zero, suc, ◌+◌, ◌*◌, ◌/◌, ◌%◌, ◌≤◌, ◌<◌}
use mathlib.Core.Path.{◌≡◌, refl, sym, ap, ◌∙◌}
use mathlib.Core.Bool.{Bool, true, false, cond, ◌&&◌, ◌||◌, or-true, or-false}
use mathlib.Core.Logic.{⊎_elim}
use mathlib.Core.List.{List}
use native.Mathlib.Numerals.{add-one}
use native.Mathlib.Omega.{arith}
use Rattle.std.specs.List.{list_any, range_with_len}
use lib.Dec.{ltb, eqb}
use borrow.Author.Tests.{ltb-true, ltb-false, eqb-true, eqb-false, lt-ltb, le-ltb}
use Rattle.definition.specs.Limits.{graph_width}
use Rattle.limits.specs.Arrays.{edge_cells}
use Rattle.definition.specs.Lists.{any, up_from}
use Rattle.definition.proofs.Basics.Lists.{either}
use Rattle.graph.specs.Drawn.{grid, with_vertex, looked}
use Rattle.graph.proofs.Grid.{grid_same, with_hit, with_miss}

-- the edges e, with those of the first n pairs that the rule x gives
unfoldable pub scanned : (ℕ → ℕ → Bool) → (ℕ → ℕ → Bool) → ℕ → ℕ → ℕ → Bool
scanned e x n u v = e u v || (ltb (u * graph_width + v) n && x u v)

module _ (e x : ℕ → ℕ → Bool) where
  scanned_in : (n u v : ℕ) → u * graph_width + v < n → scanned e x n u v ≡ (e u v || x u v)
  unfolding scanned
  scanned_in n u v h = rw (lt-ltb (u * graph_width + v) n h)

  scanned_out : (n u v : ℕ) → (u * graph_width + v < n → x u v ≡ false) → scanned e x n u v ≡ e u v
  unfolding scanned
  scanned_out n u v h = go (e u v) (ltb (u * graph_width + v) n) (x u v) (λ t. h (ltb-true (u * graph_width + v) n t))
    where
      go : (a b c : Bool) → (b ≡ true → c ≡ false) → (a || (b && c)) ≡ a
      go true b c k = refl
      go false true c k = k refl
      go false false c k = refl

  -- the pair that the scan comes to
  here : (n u v : ℕ) (b : Bool) → u * graph_width + v ≡ n → b ≡ x u v → cond b (with_vertex (scanned e x n) u v) (scanned e x n) u v ≡ scanned e x (n + 1) u v
  here n u v b h q = go b (scanned_out n u v (λ k. absurd (omega arith))) (with_hit (scanned e x n) u v u v refl refl) ∙ ap (λ (c : Bool). e u v || c) q ∙ sym (scanned_in (n + 1) u v (omega arith))
    where
      go : (c : Bool) → scanned e x n u v ≡ e u v → with_vertex (scanned e x n) u v u v ≡ true → cond c (with_vertex (scanned e x n) u v) (scanned e x n) u v ≡ (e u v || c)
      go true k l = l ∙ sym (or-true (e u v))
      go false k l = k ∙ sym (or-false (e u v))

  -- another pair
  there : (n u v a c : ℕ) (b : Bool) → u * graph_width + v ≡ n → (a * graph_width + c ≡ n → ⊥) → cond b (with_vertex (scanned e x n) u v) (scanned e x n) a c ≡ scanned e x (n + 1) a c
  unfolding scanned
  there n u v a c b h q = go b ∙ rw more
    where
      go : (d : Bool) → cond d (with_vertex (scanned e x n) u v) (scanned e x n) a c ≡ scanned e x n a c
      go true = with_miss (scanned e x n) u v a c (λ s t. q (rw (s, t) h))
      go false = refl

      more : ltb (a * graph_width + c) n ≡ ltb (a * graph_width + c) (n + 1)
      more = ⊎_elim (λ t. t ∙ sym (lt-ltb (a * graph_width + c) (n + 1) (omega (arith, ltb-true (a * graph_width + c) n t)))) (λ t. t ∙ sym (le-ltb (a * graph_width + c) (n + 1) (omega (arith, ltb-false (a * graph_width + c) n t, q)))) (either (ltb (a * graph_width + c) n))

  pub scan_start : grid e ≡ grid (scanned e x 0)
  scan_start = grid_same e (scanned e x 0) (λ u v hu hv. sym (scanned_out 0 u v (λ h. absurd (omega arith))))

  -- the first m rows are enough, where the rule gives nothing beyond
  pub scan_end : (n m : ℕ) → m * graph_width ≤ n → ((u v : ℕ) → m ≤ u → x u v ≡ false) → grid (scanned e x n) ≡ grid (λ u v. e u v || x u v)
  scan_end n m h out =
      grid_same (scanned e x n) (λ u v. e u v || x u v) (λ u v hu hv.
      ⊎_elim (λ t. scanned_in n u v (ltb-true (u * graph_width + v) n t)) (λ t.
      let z : x u v ≡ false = out u v (omega (arith, ltb-false (u * graph_width + v) n t)) in
      scanned_out n u v (λ s. z) ∙ sym (ap (λ (b : Bool). e u v || b) z ∙ or-false (e u v)))
      (either (ltb (u * graph_width + v) n)))

  -- a turn of the scan, where the edge is added just if it is missing
  pub scan_next : (n u v : ℕ) (b : Bool) (a a' : List Bool) → (u ≡ n / graph_width) × (v ≡ n % graph_width) → b ≡ x u v → a ≡ grid (scanned e x n) →
      ((d : ℕ → ℕ → Bool) → a ≡ grid d → a' ≡ grid (cond b (with_vertex d u v) d)) → a' ≡ grid (scanned e x (n + 1))
  scan_next n u v b a a' at q h put =
      let d = cond b (with_vertex (scanned e x n) u v) (scanned e x n) in
      let place : u * graph_width + v ≡ n = omega (arith, at.0, at.1) in
      put (scanned e x n) h ∙ grid_same d (scanned e x (n + 1)) (λ s t hs ht.
      ⊎_elim (λ k. let m : s * graph_width + t ≡ n = eqb-true (s * graph_width + t) n k in
      let p : s ≡ u = omega arith in
      let r : t ≡ v = omega arith in
      rw (p, r) (here n u v b place q))
      (λ k. there n u v s t b place (eqb-false (s * graph_width + t) n k))
      (either (eqb (s * graph_width + t) n)))

-- ---- the row of a world
-- what the lookup ensures of its second world
pub looked_is : (u v a b : ℕ) → (u * graph_width + v < edge_cells → (a ≡ (u * graph_width + v) / graph_width) × (b ≡ (u * graph_width + v) % graph_width))
    × (edge_cells ≤ u * graph_width + v → (a ≡ 0) × (b ≡ 0)) → b ≡ looked u v
unfolding looked
looked_is u v a b h =
    ⊎_elim
    (λ t. rw t (h.0 (ltb-true (u * graph_width + v) edge_cells t)).1)
    (λ t. rw t (h.1 (ltb-false (u * graph_width + v) edge_cells t)).1)
    (either (ltb (u * graph_width + v) edge_cells))

-- pair v of the row of u, of a graph of n worlds: both worlds that the lookup gives
pub pair_of_row : (u v n a b : ℕ) → n ≤ graph_width → u < n → v < n → (u * graph_width + v < edge_cells → (a ≡ (u * graph_width + v) / graph_width) × (b ≡ (u * graph_width + v) % graph_width))
    → (a ≡ u) × (b ≡ v)
pair_of_row u v n a b room hu hv at = let p = at (omega arith) in (omega (arith, p.0), omega (arith, p.1))

-- place v of the row of u, of a graph of n worlds
pub row_pair : (u v n : ℕ) → n ≤ graph_width → u < n → v < n → looked u v ≡ v
unfolding looked
row_pair u v n room hu hv = rw (lt-ltb (u * graph_width + v) edge_cells (omega arith)) (omega arith)

-- ---- a search through the numbers below n
module _ (p : ℕ → Bool) where
  -- by the row of u
  pub at_row : (u n m i : ℕ) → n ≤ graph_width → u < n → i + m ≤ n → list_any (λ v. p (looked u v)) (range_with_len i m) ≡ list_any p (range_with_len i m)
  at_row u n zero i room hu h = refl
  at_row u n (suc m) i room hu h = rw (row_pair u i n room hu (omega arith)) (ap (λ (b : Bool). p i || b) (at_row u n m (i + 1) room hu (omega arith)))

  pub any_false : (n i : ℕ) → ((v : ℕ) → i ≤ v → p v ≡ false) → any p (up_from n i) ≡ false
  any_false zero i h = refl
  any_false (suc n) i h = rw (h i (omega arith)) (any_false n (suc i) (λ v k. h v (omega arith)))

  -- the test of the library's `any` over a range
  pub any_range : (n i : ℕ) → list_any p (range_with_len i n) ≡ any p (up_from n i)
  any_range zero i = refl
  any_range (suc n) i = ap (λ (b : Bool). p i || b) (any_range n (i + 1) ∙ ap (λ (j : ℕ). any p (up_from n j)) (add-one i))
