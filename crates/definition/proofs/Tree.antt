-- Nodes and their links.
-- Nodes: what links and marks leave of a node.
pub mod Nodes
-- Labels: what holds of every node's label; placing brings none that was not there.
pub mod Labels
-- NewNodes: what holds of the nodes that a rule makes.
pub mod NewNodes
-- Shape: paths and leaves of a tree (specs/TreeShape); no bound of depth decides them, and each leaf is met once.
pub mod Shape
-- Linking: a link, a chain and a subtree on a leaf keep the tree a tree.
pub mod Linking
