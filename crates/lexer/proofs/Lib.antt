pub mod Bytes
pub mod Stepping
pub mod Reading
pub mod Scanning
