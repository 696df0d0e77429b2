-- The trays: what is written has exactly its length, and everything beyond it, and every refused call's trays, stay as lent.
use mathlib.Core.Path.{◌≡◌, refl, subst}
use mathlib.Core.List.{List, [], ◌∷◌, ◌++◌}
use Prim.Native.Nat.{ℕ, ◌≤◌, ◌*◌}
use native.Mathlib.Omega.{arith}
use lib.ListN.{length, drop, length-append, length-map, length-drop, length-replicate}
use lib.Seq.{drop-append_seam}
use Rattle.definition.specs.Limits.{record_length, most_identifiers, graph_width, node_length, most_formulas, node_tray_length, formula_tray_length, edge_tray_length}
use Rattle.definition.specs.Lists.{concat_map}
use Rattle.definition.specs.Records.{Rec}
use Rattle.definition.specs.Checks.{LongEnough}
use Rattle.definition.specs.Tree.{Node}
use Rattle.definition.specs.Run.{State}
use Rattle.definition.specs.Trays.{Trays, node_bytes, record_bytes, row_number, trays_of, zero_trays, over, laid_over}
use Rattle.definition.specs.Fits.{Sized, Beyond, TraysKept}
use Rattle.definition.specs.Call.{lengths_of}
use Rattle.definition.proofs.Basics.Lists.{length_padded}

pub length_parts : {A : Type 0} (k : ℕ) (f : A → List ℕ) → ((x : A) → length (f x) ≡ k) → (xs : List A) → length (concat_map f xs) ≡ k * length xs
length_parts k f h [] = omega arith
length_parts k f h (x ∷ xs) = simp length-append (omega (arith, h x, length_parts k f h xs))

pub node_length_lem : (n : Node) → length (node_bytes n) ≡ node_length
unfolding node_bytes
node_length_lem n = refl

pub record_length_lem : (r : Rec) → length (record_bytes r) ≡ record_length
unfolding record_bytes
record_length_lem r = refl

-- the counts fill the trays at most: a record for each node, a record for each formula, a number for each row
pub trays_sized : (s : State) → length s.nodes ≤ most_identifiers → length s.formulas ≤ most_formulas → length s.graph.rows ≤ graph_width → Sized (trays_of s)
unfolding trays_of
trays_sized s a b c =
    record {
      nodes = length_padded node_tray_length _ (omega (arith, a, length_parts node_length node_bytes node_length_lem s.nodes));
      formulas = length_padded formula_tray_length _ (omega (arith, b, length_parts record_length record_bytes record_length_lem s.formulas));
      edges = length_padded edge_tray_length _ (omega (arith, c, length-map s.graph.rows row_number));
    }

pub zero_sized : Sized zero_trays
unfolding zero_trays
zero_sized = record { nodes = length-replicate {A = ℕ} node_tray_length 0; formulas = length-replicate {A = ℕ} formula_tray_length 0; edges = length-replicate {A = ℕ} edge_tray_length 0 }

over_kept : (n : ℕ) (written lent : List ℕ) → length written ≡ n → n ≤ length lent → Beyond n lent (over written lent)
unfolding over
over_kept n written lent e h =
    record {
      long = omega (arith, length-append written (drop (length written) lent), length-drop (length written) lent, e, h);
      rest = subst (λ (m : ℕ). drop m (written ++ drop (length written) lent) ≡ drop m lent) e (drop-append_seam written (drop (length written) lent));
    }

pub same_kept : (t : Trays) → TraysKept t t
same_kept t = record { nodes = record { long = refl; rest = refl }; formulas = record { long = refl; rest = refl }; edges = record { long = refl; rest = refl } }

pub laid_kept : (t lent : Trays) → Sized t → LongEnough (lengths_of lent) → TraysKept lent (laid_over t lent)
unfolding laid_over
laid_kept t lent s h =
    record {
      nodes = over_kept node_tray_length t.nodes lent.nodes s.nodes (omega (arith, h.nodes));
      formulas = over_kept formula_tray_length t.formulas lent.formulas s.formulas (omega (arith, h.formulas));
      edges = over_kept edge_tray_length t.edges lent.edges s.edges (omega (arith, h.edges));
    }
