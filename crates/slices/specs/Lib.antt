pub mod Written
pub mod Text
