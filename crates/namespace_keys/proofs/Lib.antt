pub mod Ranges
pub mod Nested
pub mod Keys
pub mod Turns
pub mod Refused
