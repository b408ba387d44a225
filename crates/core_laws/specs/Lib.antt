pub mod Writes
pub mod PlainReads
pub mod Steps
pub mod Watches
