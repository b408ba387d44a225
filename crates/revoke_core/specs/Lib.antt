pub mod Answers
pub mod Losses
pub mod Readings
pub mod Rests
pub mod Sends
pub mod Steps
pub mod Told
pub mod Keeping
