pub mod Bits
pub mod Worlds
