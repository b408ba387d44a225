pub mod Histories
pub mod Runs
pub mod Steps
pub mod Messages
pub mod Others
