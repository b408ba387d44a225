pub mod Stored
pub mod Streams
