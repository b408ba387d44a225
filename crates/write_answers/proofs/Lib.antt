pub mod Views
pub mod Unreached
pub mod Placed
