pub mod Subtree
pub mod Items
