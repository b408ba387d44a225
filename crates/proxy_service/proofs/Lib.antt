pub mod Hands
pub mod Starting
pub mod Tending
pub mod Served
