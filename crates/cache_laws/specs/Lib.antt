pub mod Guards
pub mod Moves
pub mod Store
