pub mod SameRecords
pub mod Reading
pub mod Running
pub mod Growing
pub mod Telling
pub mod TellingHistories
pub mod Steps
