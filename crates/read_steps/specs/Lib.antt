pub mod Over
pub mod Parts
pub mod Steps
