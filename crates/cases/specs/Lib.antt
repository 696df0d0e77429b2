pub mod Bytes
pub mod Compared
pub mod File
pub mod Lent
pub mod Tally
pub mod Text
