pub mod Work
pub mod Lasting
