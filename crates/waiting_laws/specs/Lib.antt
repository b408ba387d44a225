pub mod Calls
pub mod Waiting
pub mod Laws
pub mod Sound
