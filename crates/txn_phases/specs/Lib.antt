pub mod Changes
pub mod Deeds
pub mod Phases
pub mod Weights
