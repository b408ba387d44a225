pub mod Counting
pub mod Named
