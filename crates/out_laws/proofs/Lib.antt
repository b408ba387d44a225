pub mod Writes
pub mod Reading
pub mod Calls
pub mod Steps
pub mod Lists
pub mod Acquires
pub mod Outs
pub mod Rows
