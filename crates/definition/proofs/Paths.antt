-- What a step leaves of the paths that were there.
-- Pairs: the pair of a path by its last node and its parent's path.
pub mod Pairs
-- Takers: what a step places stands below leaves whose paths have no contradictory node.
pub mod Takers
-- Marks: after a check a path has a contradictory node just where it has a pair.
pub mod Marks
-- Spawners: a stored necessity's paths are those through its spawner.
pub mod Spawners
