-- The number of a row of edges, from the last column down, and the loop of `write_edges`.
use Prim.Native.Nat.{ℕ, zero, suc, ◌+◌, ◌*◌, ◌-◌, ◌^◌, ◌≤◌, ◌<◌}
use mathlib.Core.Path.{◌≡◌, refl, sym, ap, ◌∙◌}
use mathlib.Core.Bool.{Bool, false, cond}
use mathlib.Core.List.{List, [], ◌∷◌, ◌++◌, map}
use native.Mathlib.Omega.{arith}
use native.Mathlib.Numerals.{add-one}
use native.Mathlib.Nat.{pow-suc}
use lib.ListN.{length, get_or, set, take, drop, replicate, length-take, length-replicate, length-map, drop_of_length-le, get_or-map, get_or-eq_default}
use lib.Seq.{drop-cons}
use Rattle.arrays.proofs.Laws.{get_or_padded}
use Rattle.definition.specs.Limits.{graph_width, edge_tray_length}
use Rattle.definition.specs.Lists.{Each, padded}
use Rattle.definition.proofs.Basics.Lists.{each_map, each_get, length_padded}
use Rattle.definition.specs.Graph.{Graph, edge}
use Rattle.definition.specs.Trays.{row_number, over}
use Rattle.graph.specs.Drawn.{Drawn}
use Rattle.slices.proofs.Writing.{Writing, written_none, writing_start, writing_one, writing_end}

-- ---- zeros over the first n numbers
pub zeros_over : (t : List ℕ) (n : ℕ) {f : List ℕ} → n ≤ length t → f ≡ replicate (length (take n t)) 0 → f ++ drop n t ≡ over (replicate n 0) t
unfolding over
zeros_over t n r e = let k : length (take n t) ≡ n = simp length-take (omega arith) in rw (e, k, length-replicate) refl

-- ---- one row
abbrev pub row_of : Graph → ℕ → List Bool
row_of g u = get_or g.rows u []

pub row_start : (row : List Bool) → length row ≤ graph_width → 0 ≡ row_number (drop graph_width row)
unfolding row_number
row_start row h = rw (drop_of_length-le row {i = graph_width} h)

row_step : (row : List Bool) (v : ℕ) → row_number (drop v row) ≡ cond (get_or row v false) 1 0 + 2 * row_number (drop (suc v) row)
unfolding row_number
row_step [] zero = refl
row_step [] (suc v) = refl
row_step (b ∷ bs) zero = refl
row_step (b ∷ bs) (suc v) = row_step bs v

pub row_next : (g : Graph) (u : ℕ) {v n b : ℕ} {e : Bool} → 0 < v → n ≡ row_number (drop v (row_of g u)) → e ≡ edge g u (v - 1) → b ≡ cond e 1 0 → n * 2 + b ≡ row_number (drop (v - 1) (row_of g u))
unfolding edge
row_next g u {v} {n} {b} h p q r =
    let z : suc (v - 1) ≡ v = omega arith in
    let s = row_step (row_of g u) (v - 1) in
    let m = p ∙ ap (λ (k : ℕ). row_number (drop k (row_of g u))) (sym z) in
    let d = r ∙ ap (λ (x : Bool). cond x 1 0) q in
    omega (arith, s, m, d)

pub number_next : (v : ℕ) {n b : ℕ} → 0 < v → v ≤ graph_width → n < 2 ^ (graph_width - v) → b ≤ 1 → n * 2 + b < 2 ^ (graph_width - (v - 1))
number_next v h k l m =
    let z : graph_width - (v - 1) ≡ suc (graph_width - v) = omega arith in
    rw (z, pow-suc) (omega arith)

-- ---- the rows
abbrev pub row_numbers : Graph → List ℕ
row_numbers g = padded edge_tray_length (map row_number g.rows)

abbrev pub Edges : Graph → List ℕ → ℕ → List ℕ → Type 0
Edges g lent u tray = Writing (row_numbers g) (drop u (row_numbers g)) lent u tray

module _ (g : Graph) {n : ℕ} {a : List Bool} (drawn : Drawn g n a) (square : length g.rows ≡ g.worlds) where
  pub row_fits : Each (λ (row : List Bool). length row ≡ g.worlds) g.rows → (u : ℕ) → length (row_of g u) ≤ graph_width
  row_fits h u =
      let w : g.worlds ≤ graph_width = omega (arith, drawn.count, drawn.room) in
      each_get (λ (row : List Bool). length row ≤ graph_width) g.rows [] (each_map (λ row (e : length row ≡ g.worlds). omega arith) g.rows h) u (λ l. omega arith)

  -- a number that is no world
  pub row_none : (u : ℕ) → n ≤ u → 0 ≡ row_number (row_of g u)
  unfolding row_number
  row_none u h = rw (get_or-eq_default g.rows [] {n = u} (omega (arith, square, drawn.count)))

  numbers_length : length (row_numbers g) ≡ edge_tray_length
  numbers_length = length_padded edge_tray_length (map row_number g.rows) (omega (arith, length-map g.rows row_number, drawn.count, drawn.room))

  number_at : (u : ℕ) → get_or (row_numbers g) u 0 ≡ row_number (row_of g u)
  unfolding padded row_number
  number_at u = get_or_padded edge_tray_length (map row_number g.rows) u ∙ get_or-map row_number g.rows u []

  left : (u : ℕ) → u < edge_tray_length → drop u (row_numbers g) ≡ row_number (row_of g u) ∷ drop (u + 1) (row_numbers g)
  left u h = rw (add-one) (drop-cons (row_numbers g) u 0 (omega (arith, numbers_length)) ∙ ap (λ (x : ℕ). x ∷ drop (suc u) (row_numbers g)) (number_at u))

  module _ (lent : List ℕ) (room : edge_tray_length ≤ length lent) where
    pub edges_start : Edges g lent 0 lent
    edges_start = writing_start (row_numbers g) (written_none lent) refl

    module _ (u : ℕ) {t : List ℕ} (p : Edges g lent u t) where
      pub edges_next : {x : ℕ} → u < edge_tray_length → x ≡ row_number (row_of g u) → Edges g lent (u + 1) (set t u x)
      edges_next h e = rw e (writing_one p _ _ (left u h) (omega (arith, numbers_length)))

      pub edges_end : edge_tray_length ≤ u → t ≡ over (row_numbers g) lent
      edges_end h = (writing_end p (drop_of_length-le (row_numbers g) {i = u} (omega (arith, numbers_length)))).cells
