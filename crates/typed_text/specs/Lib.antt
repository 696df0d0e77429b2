pub mod Diagnosis
pub mod Showing
