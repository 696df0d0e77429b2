pub mod Forking
pub mod Earlier
pub mod Seen
