pub mod Feeding
pub mod InTurn
pub mod Replays
pub mod Scripts
pub mod Turns
