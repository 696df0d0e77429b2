pub mod Choice
pub mod Consequences
pub mod Expands
pub mod Here
