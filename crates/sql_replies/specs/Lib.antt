pub mod Admin
pub mod Errors
pub mod Outcomes
pub mod Results
