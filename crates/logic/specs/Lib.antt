pub mod Gave
pub mod Applied
