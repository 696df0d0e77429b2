-- The bounds of a run, and the call around it.
-- Fields: every number of a node fits its field.
pub mod Fields
-- Bounds: worlds, formulas and every number of a run that is not full.
pub mod Bounds
-- Room: what a step may rely on: room for what it makes, and a tree.
pub mod Room
-- Trays: what is written has its length, and what lies beyond stays.
pub mod Trays
-- Outcomes: what a call's outcome tells of the run.
pub mod Outcomes
-- Late: at the limit of worlds a node waits; of an open verdict none does.
pub mod Late
-- Cases: the tables of specs/Cases and specs/Refusals, computed.
pub mod Cases
