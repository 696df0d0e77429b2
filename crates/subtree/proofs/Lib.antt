pub mod Chains
pub mod Subtrees
pub mod Placing
pub mod Rows
