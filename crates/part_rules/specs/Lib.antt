pub mod Keeps
pub mod KeyRows
pub mod Marking
pub mod Placing
pub mod Pruned
pub mod Rules
