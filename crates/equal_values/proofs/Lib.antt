pub mod Members
pub mod Values
pub mod Compared
