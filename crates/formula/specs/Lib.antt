pub mod Recorded
pub mod Priority
pub mod Kinds
