mod Ascending
mod Gaps
pub mod KeyLists
mod Kept
mod Lookups
pub mod OneList
mod Seeks
mod Values
