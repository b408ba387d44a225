pub mod LastCall
pub mod Counts
pub mod AtOnce
pub mod Works
pub mod Steps
pub mod Faults
