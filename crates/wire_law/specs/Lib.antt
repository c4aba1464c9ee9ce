pub mod Backing
pub mod Wire
