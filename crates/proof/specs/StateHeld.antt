-- The state of a run, in the code's struct.
use Rattle.std.specs.Prelude.{◌≤◌, ◌<◌, ◌≡◌, map, length}
use Rattle.definition.specs.Limits.{most_identifiers}
use Rattle.definition.specs.Setting.{Setting}
use Rattle.definition.specs.Queue.{get_node_priority}
use Rattle.definition.specs.Run.{State}
use Rattle.arrays.specs.Listed.{HasList}
use Rattle.formula.specs.Recorded.{HasRecords}
use Rattle.graph.specs.Drawn.{HasGraph}
use Rattle.tree.specs.Lay.{lay}
use Rattle.necessities.specs.Stack.{HasStack}
use Rattle.proof.specs.declared.State as Rust

module _ (F : Setting) (s : State) (x : Rust.State) where
  pub record StateLaid : Type 0 where
    pub formulas : HasRecords s.formulas x.formulas
    pub room : length s.nodes ≤ most_identifiers
    pub count : length s.nodes ≡ x.tableau.tree.len
    pub nodes : x.tableau.tree.nodes ≡ lay s.nodes
    pub graph : HasGraph s.graph x.tableau.graph
    pub necessities : HasStack s.necessities x.tableau.necessities
    pub waiting : HasList s.waiting x.tableau.waiting
    pub classes : HasList (map (get_node_priority F s.formulas s.nodes) s.waiting) x.classes
    pub proved : x.proved ≡ s.proved
    pub steps : x.steps ≡ s.steps

  -- a count above `most_identifiers` says that the state is full, and nothing of the rest
  pub data StateHeld : Type 0 where
    kept : StateLaid → StateHeld
    full : most_identifiers < x.tableau.tree.len → most_identifiers < length s.nodes → StateHeld
