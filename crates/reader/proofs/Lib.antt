pub mod Placing
pub mod Levels
pub mod Sofar
pub mod Whole
