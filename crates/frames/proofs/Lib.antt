pub mod Windows
pub mod Answering
pub mod Texts
pub mod Frames
pub mod Reading
