pub mod formers
pub mod Held
pub mod Keys
pub mod Ranges
pub mod Records
