pub mod Choice
pub mod RecordsMade
pub mod Here
