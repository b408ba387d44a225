pub mod Timeouts
pub mod Causes
pub mod Laws
