pub mod History
pub mod Run
pub mod Schedule
pub mod Transcript
pub mod World
