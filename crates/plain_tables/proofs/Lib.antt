pub mod Changed
pub mod Deleted
mod Examples
pub mod Fitting
pub mod Inserted
pub mod Members
pub mod Merged
pub mod Naming
pub mod Scanned
pub mod Suited
