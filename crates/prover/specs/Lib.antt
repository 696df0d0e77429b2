pub mod Contract
pub mod Said
pub mod Parts
