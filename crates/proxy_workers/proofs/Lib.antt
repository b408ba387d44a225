pub mod Desks
pub mod Handing
