pub mod Cores
pub mod Worlds
pub mod Keeping
pub mod Telling
