pub mod Alone
pub mod Changing
mod Halving
pub mod Idle
pub mod Indexing
mod Rising
pub mod Places
