pub mod Beginning
pub mod Ending
pub mod Whole
