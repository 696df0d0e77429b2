-- An open verdict has a model: the argument. docs/ARCHITECTURE.md has it in words.
pub mod On
pub mod Hintikka
pub mod Atoms
pub mod Frames
pub mod Placed
pub mod Queued
pub mod Steps
pub mod Settled
pub mod Here
pub mod Necessary
pub mod Possible
pub mod Run
pub mod Whole
pub mod Plain
