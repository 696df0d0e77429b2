pub mod Basics
pub mod Tree
pub mod Run
pub mod Soundness
pub mod Call
pub mod Paths
pub mod Completeness
pub mod Engine
