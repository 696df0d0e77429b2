pub mod Window
pub mod Line
pub mod Lines
pub mod Messages
