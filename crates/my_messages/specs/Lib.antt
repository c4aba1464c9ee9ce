pub mod Command
pub mod Fields
pub mod Reading
pub mod Replies
pub mod Reply
pub mod Utf8
