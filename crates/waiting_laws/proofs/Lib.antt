mod Due
mod Requests
mod Watches
mod Entries
mod Owned
mod Ends
mod Steps
pub mod Sound
