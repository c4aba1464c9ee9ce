pub mod RepliesIn
pub mod Sends
pub mod Sessions
pub mod Turning
