pub mod Theorems
pub mod Sanity
