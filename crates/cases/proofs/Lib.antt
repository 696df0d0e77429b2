pub mod Ranges
pub mod Words
pub mod Hex
pub mod Fed
pub mod Formulas
pub mod Lines
pub mod Tallied
pub mod Filed
