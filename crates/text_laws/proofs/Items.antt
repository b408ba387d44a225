pub mod Parts
pub mod Steps
pub mod Scripts
pub mod ReadLines
