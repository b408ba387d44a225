pub mod Adding
pub mod Begun
pub mod Makings
pub mod Pushing
pub mod Telling
pub mod Turns
pub mod Taking
