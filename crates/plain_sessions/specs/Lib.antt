pub mod Exec
pub mod Held
pub mod Serial
pub mod Solo
