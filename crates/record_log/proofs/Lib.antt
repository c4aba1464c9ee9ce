pub mod Appends
pub mod FilesFound
pub mod KeptFields
pub mod Opened
pub mod Openings
pub mod Pairs
pub mod RecordReads
pub mod Told
