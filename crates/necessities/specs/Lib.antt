pub mod Stored
pub mod Change
pub mod Stack
