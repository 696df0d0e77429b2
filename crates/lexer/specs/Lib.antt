pub mod Words
pub mod Bytes
pub mod Steps
pub mod Scanned
