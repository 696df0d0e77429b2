pub mod Stopping
pub mod Going
pub mod Applying
pub mod Stepping
