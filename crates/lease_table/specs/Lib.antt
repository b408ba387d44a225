pub mod Dues
pub mod Starts
pub mod Turns
