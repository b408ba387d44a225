pub mod Seen
pub mod Reach
pub mod Answered
