pub mod Growth
pub mod Begun
