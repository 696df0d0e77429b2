-- What the code alone rests on: its faster forms equal the definition's. Nothing here serves soundness or completeness.
-- Reached: what holds of every state of the run of an accepted branch (specs/Reached).
pub mod Reached
-- NewLeaves: a check that looks at the new leaves alone marks what a check of all leaves does.
pub mod NewLeaves
-- BelowTarget: the leaves that take a subtree, by a walk down from its target.
pub mod BelowTarget
-- Reapplied: a necessity is reapplied just if its spawner and the forking node stand one above the other.
pub mod Reapplied
-- Classes: a waiting node keeps its class, and what a step queues stands behind it.
pub mod Classes
