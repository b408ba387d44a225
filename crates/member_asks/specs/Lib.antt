pub mod Asking
pub mod Standings
pub mod Passing
