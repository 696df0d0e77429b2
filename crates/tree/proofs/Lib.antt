pub mod Entries
pub mod Nodes
pub mod Chains
pub mod Paths
pub mod Sequence
