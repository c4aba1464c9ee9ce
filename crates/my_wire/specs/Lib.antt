pub mod Counts
pub mod Duplex
pub mod Grammar
pub mod Lenenc
pub mod MemFile
pub mod MemStream
pub mod Memory
pub mod Packets
