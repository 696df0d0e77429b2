-- What the first part of the call begins with, and what its last part relies on.
use Rattle.std.specs.Prelude.{◌≡◌, Bool, false, List, [], ◌≤◌, ◌<◌, length}
use Rattle.definition.specs.Limits.{most_identifiers, most_formulas}
use Rattle.definition.specs.Lists.{Each}
use Rattle.definition.specs.Records.{Rec}
use Rattle.definition.specs.Tree.{Node}
use Rattle.definition.specs.Run.{State, full}
use Rattle.definition.specs.Graph.{empty_graph}
use Rattle.arrays.specs.Listed.{HasList}
use Rattle.formula.specs.Recorded.{HasRecords}
use Rattle.graph.specs.Drawn.{HasGraph}
use Rattle.tree.specs.Lay.{HasNodes}
use Rattle.necessities.specs.Stack.{HasStack}
use Rattle.proof.specs.declared.State as Rust

-- a run that is not full ends with numbers that fit their bytes, and a square of edges
pub record EndFits (s : State) : Type 0 where
  pub worlds : Each (λ (x : Node). x.world < 256) s.nodes
  pub steps : s.steps ≤ most_identifiers
  pub formulas : length s.formulas ≤ most_formulas
  pub marks : Each (λ (r : Rec). r.mark < 256) s.formulas
  pub rows : length s.graph.rows ≡ s.graph.worlds
  pub columns : Each (λ (row : List Bool). length row ≡ s.graph.worlds) s.graph.rows

abbrev pub Ends : State → Type 0
Ends s = full s ≡ false → EndFits s

-- nothing is in the state
pub record Blank (x : Rust.State) : Type 0 where
  pub formulas : HasRecords [] x.formulas
  pub nodes : HasNodes [] x.tableau.tree
  pub graph : HasGraph empty_graph x.tableau.graph
  pub necessities : HasStack [] x.tableau.necessities
  pub waiting : HasList [] x.tableau.waiting
  pub classes : HasList [] x.classes
  pub steps : x.steps ≡ 0
  pub proved : x.proved ≡ false
