pub mod Grid
pub mod Scan
pub mod Drawn
pub mod Forks
