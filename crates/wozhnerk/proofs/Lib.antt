pub mod Words
pub mod Exported
