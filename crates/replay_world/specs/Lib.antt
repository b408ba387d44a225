pub mod World
pub mod Refusals
pub mod Calls
pub mod Step
pub mod Promises
