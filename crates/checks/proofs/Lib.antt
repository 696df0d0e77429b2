pub mod Bytes
pub mod Chunks
pub mod Found
pub mod Reading
