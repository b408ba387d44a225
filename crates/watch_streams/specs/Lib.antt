pub mod Idle
pub mod Places
pub mod Rows
