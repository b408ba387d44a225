mod Clocks
pub mod Shown
pub mod Truth
mod Worlds
