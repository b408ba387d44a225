pub mod Messages
pub mod Floors
pub mod Shown
pub mod Holder
pub mod Laws
pub mod Executions
pub mod Turns
