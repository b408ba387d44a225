pub mod Stored
pub mod Sent
pub mod LeaseCalls
pub mod Turns
pub mod Spots
pub mod Takings
pub mod Given
