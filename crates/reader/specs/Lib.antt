pub mod Refused
pub mod Levels
pub mod Contract
