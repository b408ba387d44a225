pub mod Named
pub mod Laws
pub mod Worlds
pub mod Moves
pub mod One
