-- Where a run ends proved, no model makes the branch true: the argument. docs/ARCHITECTURE.md has it in words.
-- Priest: the rule chosen on records is Priest's, and his table keeps truth.
pub mod Priest
-- Clash: nodes whose formulas are true do not contradict one another.
pub mod Clash
-- Edges: edges hold between the images of worlds that occur.
pub mod Edges
-- OpenSets: a set of nodes from the root to a leaf, and what links do to it.
pub mod OpenSets
-- Placing: placing keeps such a set, and takes in a chain of each subtree that a leaf of it takes.
pub mod Placing
-- Necessities: what stored necessities give is true.
pub mod Necessities
-- Invariant: such a set with a model of it; the check keeps it.
pub mod Invariant
-- Rules: each rule's result is faithful to it.
pub mod Rules
-- Theorem: the run, and demand 3.
pub mod Theorem
