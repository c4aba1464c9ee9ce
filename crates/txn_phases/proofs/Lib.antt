pub mod Changed
mod Examples
pub mod Marks
pub mod Merged
pub mod Places
pub mod Puts
pub mod Taken
pub mod Told
pub mod Weighed
