pub mod Words
pub mod Laws
pub mod Worlds
