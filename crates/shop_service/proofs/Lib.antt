pub mod Tending
pub mod Served
