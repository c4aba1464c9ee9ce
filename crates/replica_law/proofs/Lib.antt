pub mod Present
pub mod Notes
pub mod Agree
pub mod Moves
pub mod Executed
pub mod Computed
pub mod Core
pub mod Books
