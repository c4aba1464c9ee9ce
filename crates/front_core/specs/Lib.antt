pub mod Asked
pub mod Core
pub mod Jobs
pub mod Outputs
pub mod Planned
