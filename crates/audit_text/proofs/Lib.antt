pub mod Rules
pub mod Clients
pub mod Steps
pub mod Kept
pub mod Standings
