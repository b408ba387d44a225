pub mod Turns
pub mod ProxyLines
pub mod Starts
pub mod CallLines
pub mod StreamLines
pub mod SendLines
pub mod StoreLines
pub mod Steps
mod Promises
