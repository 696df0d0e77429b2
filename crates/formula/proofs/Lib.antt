pub mod Recorded
pub mod Numbers
pub mod KindNumbers
