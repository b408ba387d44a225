pub mod Counts
pub mod Entered
pub mod Fates
pub mod Heads
pub mod Leavers
pub mod Renumbered
pub mod Values
pub mod Wholes
