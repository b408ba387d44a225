pub mod Desks
pub mod Handed
