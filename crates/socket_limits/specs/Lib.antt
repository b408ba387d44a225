pub mod Limits
pub mod Room
pub mod Times
pub mod Transfers
