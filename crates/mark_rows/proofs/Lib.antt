pub mod Froms
pub mod Turns
