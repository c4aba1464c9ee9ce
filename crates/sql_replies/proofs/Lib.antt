pub mod CellRows
pub mod Fits
pub mod Shaped
