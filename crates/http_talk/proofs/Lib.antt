pub mod Said
pub mod Receives
pub mod Whole
