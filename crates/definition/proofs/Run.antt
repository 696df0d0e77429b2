-- Induction over the run, and what it gives without a look at truth.
-- Accepted: what the checks leave of a branch that none of them refuses.
pub mod Accepted
-- Queueing: the first queueing of a branch.
pub mod Queueing
-- Popping: what is taken out of the queue.
pub mod Popping
-- Stepping: what placing and the check keep, a step and a run keep. No other module takes a step or a run apart.
pub mod Stepping
-- Counting: steps and waiting nodes together are as many as identifiers.
pub mod Counting
-- Fullness: the run stops by itself, and "full" is exact.
pub mod Fullness
-- TreeKept: at every state the nodes are a tree.
pub mod TreeKept
