-- The model read off an open path. Its worlds are all those of the graph, under their numbers, and world 0 where no modal rule was taken; its edges are the
-- graph's, without those between a world that occurs on the path and one that does not; an atom is true at a world where a node of the path says it.
use Rattle.std.specs.Prelude.{◌≡◌, Bool, ◌&&◌, ◌||◌, not, List, ℕ, ◌<◌, eqb}
use Rattle.std.specs.Bool.{beq}
use Rattle.std.proofs.Math.Option.{Option, none, some}
use Rattle.definition.specs.Lists.{any, find}
use Rattle.definition.specs.Records.{Atomic, Rec, is, formula_of}
use Rattle.definition.specs.Formula.{branch_of}
use Rattle.definition.specs.Setting.{Setting, partial_equivalence}
use Rattle.definition.specs.Models.{Model, Has}
use Rattle.definition.specs.Graph.{edge, initialize_graph_if_needed}
use Rattle.definition.specs.Tree.{Node, node_at, leaves, path}
use Rattle.definition.specs.Modality.{occurs}
use Rattle.definition.specs.Contradiction.{is_pair, get_contradictory_node_ids}
use Rattle.definition.specs.Run.{State}
use Rattle.definition.specs.Claim.{Satisfied}

-- a node of the path at world v has the atom a as its formula
unfoldable pub says_atom : List Rec → List Node → List ℕ → ℕ → ℕ → Bool
says_atom rs t xs v a =
    any (λ x. let r = formula_of rs (node_at t x).formula in eqb (node_at t x).world v && (is Atomic r && eqb r.left a)) xs

-- symmetric and transitive without reflexive: a fork on another path gives world 0 an edge to itself, which the necessities of this path need not have met
-- (Non q, Or of Necessary q and Possible p). So there the model has edges only if a world besides 0 occurs on the path
unfoldable pub keeps_edges : Setting → List Node → List ℕ → Bool
keeps_edges F t xs = not (partial_equivalence F) || any (λ x. not (eqb (node_at t x).world 0)) xs

unfoldable pub read_off : Setting → State → ℕ → Model
read_off F s leaf =
    let t = s.nodes in
    let g = initialize_graph_if_needed F s.graph in
    let p = path t leaf in
    record {
      size = g.worlds;
      reach = λ u v. keeps_edges F t p && (edge g u v && beq (occurs t none p u) (occurs t none p v));
      value = says_atom s.formulas t p;
    }

-- the first leaf, in the order in which paths are walked, whose path has no contradictory pair
unfoldable pub first_open : State → Option ℕ
first_open s = find (λ leaf. not (is_pair (get_contradictory_node_ids s.formulas s.nodes (path s.nodes leaf)))) (leaves s.nodes)

-- leaf is the first open one, and the model read off its path has the flagged properties and makes every formula of the branch rs true at world 0
pub record Countermodel (F : Setting) (rs : List Rec) (s : State) (leaf : ℕ) : Type 0 where
  pub first : first_open s ≡ some leaf
  pub has : Has F (read_off F s leaf)
  pub world_zero : 0 < (read_off F s leaf).size
  pub satisfied : Satisfied (branch_of rs) (read_off F s leaf) 0
