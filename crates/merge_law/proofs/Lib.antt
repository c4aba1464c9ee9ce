pub mod Counted
pub mod Found
pub mod Merged
pub mod Ordered
pub mod Permuted
