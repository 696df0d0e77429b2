-- Words of a line, and lines one after the other.
use Prim.Native.Nat.{ℕ, suc, ◌+◌, ◌*◌, ◌-◌, ◌/◌, ◌^◌, ◌≤◌, ◌<◌, min}
use mathlib.Core.Path.{◌≡◌, sym, ap, ◌∙◌}
use mathlib.Core.List.{List}
use native.Mathlib.Omega.{arith}
use lib.ListN.{length, take, get_or}
use lib.Seq.{get_or-take, length-take-le}
use Rattle.definition.specs.Limits.{most_identifiers, node_length, edge_tray_length}
use Rattle.definition.specs.Lists.{up_from, below, concat_map}
use Rattle.cases.specs.declared.digest.Digest.{Digest}
use Rattle.cases.specs.Text.{fed, digest_of, node_line, node_lines, edge_line, edges_from, edge_lines, text_of}
use Rattle.cases.proofs.Fed.{fed_append, fed_none}

-- ---- lines: what is written after d, and the lines from i to below n that are left
pub record Left (line : ℕ → List ℕ) (n : ℕ) (d text : Digest) (i : ℕ) : Type 0 where
  pub gives : fed text (concat_map line (up_from (n - i) i)) ≡ fed d (concat_map line (below n))

module _ (line : ℕ → List ℕ) (n : ℕ) (d : Digest) where
  pub next : {text more : Digest} (i : ℕ) → i < n → more ≡ fed text (line i) → Left line n d text i → Left line n d more (i + 1)
  next {text} {more} i h e l =
      let less : n - i ≡ suc (n - (i + 1)) = omega arith in
      let later : suc i ≡ i + 1 = omega arith in
      let rest = concat_map line (up_from (n - (i + 1)) (suc i)) in
      record {
        gives =
            sym (ap (λ (k : ℕ). fed more (concat_map line (up_from (n - (i + 1)) k))) later)
            ∙ ap (λ (x : Digest). fed x rest) e
            ∙ sym (fed_append text (line i) rest)
            ∙ sym (ap (λ (k : ℕ). fed text (concat_map line (up_from k i))) less)
            ∙ l.gives;
      }

  pub end : {text : Digest} (i : ℕ) → n ≤ i → Left line n d text i → text ≡ fed d (concat_map line (below n))
  end {text} i h l =
      let done : n - i ≡ 0 = omega arith in
      sym (fed_none text) ∙ sym (ap (λ (k : ℕ). fed text (concat_map line (up_from k i))) done) ∙ l.gives

-- ---- the edges from one world
abbrev pub edge : ℕ → ℕ → ℕ → List ℕ
edge u bits v = edge_line u v (bits / 2 ^ v)

pub row_end : (u bits v : ℕ) {d text : Digest} → 32 ≤ v → Left (edge u bits) 32 d text v → text ≡ fed d (edges_from u bits)
unfolding edges_from
row_end u bits v {d} h l = end (edge u bits) 32 d v h l

-- ---- the nodes, and the edges of all worlds
abbrev pub node : List ℕ → List ℕ → ℕ → List ℕ
node nodes formulas i = node_line nodes formulas (node_length * i)

abbrev pub world : List ℕ → ℕ → List ℕ
world edges u = edges_from u (get_or edges u 0)

pub nodes_end : (nodes formulas : List ℕ) (identifiers i : ℕ) {text : Digest} → min identifiers most_identifiers ≤ i
    → Left (node nodes formulas) (min identifiers most_identifiers) (record { first = 0; second = 0 }) text i → text ≡ digest_of (node_lines nodes formulas identifiers)
unfolding digest_of node_lines
nodes_end nodes formulas identifiers i h l = end (node nodes formulas) (min identifiers most_identifiers) _ i h l

-- the rows are those of the tray
module _ (edges : List ℕ) {n : ℕ} (e : n ≡ min edge_tray_length (length edges)) (u : ℕ) where
  rows : length (take n edges) ≡ min edge_tray_length (length edges)
  rows = length-take-le n edges (omega arith) ∙ e

  pub rows_next : {d text more : Digest} → u < length (take n edges) → more ≡ fed text (edges_from u (get_or (take n edges) u 0)) → Left (world edges) (min edge_tray_length (length edges)) d text u → Left (world edges) (min edge_tray_length (length edges)) d more (u + 1)
  rows_next {d} h f l =
      let k : u < min edge_tray_length (length edges) = omega (arith, rows) in
      next (world edges) (min edge_tray_length (length edges)) d u k (rw (get_or-take n edges u 0 (omega arith)) at f) l

  pub rows_end : length (take n edges) ≤ u → min edge_tray_length (length edges) ≤ u
  rows_end h = omega (arith, rows)

pub worlds_end : (nodes formulas edges : List ℕ) (identifiers u : ℕ) {d text : Digest} → d ≡ digest_of (node_lines nodes formulas identifiers)
    → min edge_tray_length (length edges) ≤ u → Left (world edges) (min edge_tray_length (length edges)) d text u → text ≡ digest_of (text_of nodes formulas edges identifiers)
unfolding digest_of text_of edge_lines
worlds_end nodes formulas edges identifiers u {d} e h l =
    let rows = concat_map (world edges) (below (min edge_tray_length (length edges))) in
    end (world edges) (min edge_tray_length (length edges)) d u h l
    ∙ ap (λ (x : Digest). fed x rows) e
    ∙ sym (fed_append _ (node_lines nodes formulas identifiers) rows)
