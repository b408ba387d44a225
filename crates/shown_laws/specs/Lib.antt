pub mod Sendings
pub mod Fetches
pub mod Worlds
