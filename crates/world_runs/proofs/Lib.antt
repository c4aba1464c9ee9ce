pub mod Clients
pub mod Given
pub mod LineWords
pub mod Runs
pub mod Sessions
pub mod Starts
pub mod Turning
