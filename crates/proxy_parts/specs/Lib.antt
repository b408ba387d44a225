pub mod Homes
pub mod Passes
pub mod Parts
