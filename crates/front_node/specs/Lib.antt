pub mod Asking
pub mod Seats
pub mod Serving
pub mod Session
