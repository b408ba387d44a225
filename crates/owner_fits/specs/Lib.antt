pub mod Acquires
pub mod Entries
pub mod Names
pub mod Laws
