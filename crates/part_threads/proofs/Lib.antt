pub mod Crossing
pub mod Sent
